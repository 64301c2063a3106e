-- A flow set of one machine, which performs a list of acts that it is handed as their bytes: its frames, and how they go on.
use Rattle.std.specs.Prelude.{◌≡◌, ℕ, ◌+◌, ◌*◌, ◌%◌, ◌≤◌, ◌<◌, ◌^◌, ◌==◌, nat_le, min, Bool, true, false, List, [], ◌∷◌, length, Option, Some, None, Result, Ok, Err, if◌then◌else◌}
use Rattle.net_base.specs.declared.names.Key.{Key}
use Rattle.net_base.specs.declared.names.Tag.{Tag}
use Rattle.net_base.specs.declared.values.Hash32.{Hash32}
use Rattle.net_base.specs.Reading.{IsBytes}
use Rattle.net_base.specs.Forms.{bytes16}
use Rattle.net_base.specs.Combining.{mapped_at}
use Rattle.net_base.specs.Framing.{bytes16_at}
use Rattle.ledger_types.specs.declared.notary.Request.{Request}
use Rattle.ledger_types.specs.declared.value.Value.{Value}
use Rattle.ledger_types.specs.declared.value.Value.TheVariants as value
use Rattle.ledger_types.specs.declared.verdict.Verdict.{Verdict}
use Rattle.ledger_types.specs.declared.verdict.Verdict.TheVariants as verdict
use Rattle.flow_machine.specs.declared.acts.Act.{Act}
use Rattle.flow_machine.specs.declared.acts.Act.TheVariants as act
use Rattle.flow_machine.specs.declared.acts.Place.{Place}
use Rattle.flow_machine.specs.declared.acts.Resumed.{Resumed}
use Rattle.flow_machine.specs.declared.acts.Resumed.TheVariants as resumed
use Rattle.flow_machine.specs.declared.flow_set.MakeFault.{MakeFault}
use Rattle.flow_machine.specs.declared.flow_set.MakeFault.TheVariants as make
use Rattle.flow_machine.specs.declared.flow_set.WordFault.TheVariants as word
use Rattle.flow_machine.specs.Acts.{act_at}
use Rattle.flow_machine.specs.Machine.{Machine}
use Rattle.flow_machine.specs.Tags.{resumed_tags}
use Rattle.flow_machine.specs.Unnamed.{unnamed_code}
use Rattle.node_acts.specs.declared.script.Script.{Script}

-- ---- frames

-- at most 32,768 bytes: none where the frame is over, else one byte and then the acts that are to come
abbrev pub IsScript : Script → Type 0
IsScript f = (length f.0 ≤ 32768) × IsBytes f.0

-- two bytes of length, and the bytes
abbrev pub script_text : Script → List ℕ
script_text f = bytes16 f.0

-- reading a frame
unfoldable pub script_at : List ℕ → Result (Script × List ℕ) ℕ
script_at = mapped_at (λ b. record { 0 = b }) (bytes16_at 32768)

-- the frame that is over
abbrev pub ended : Script
ended = record { 0 = [] }

-- ---- what a result is as a value

-- the number of a verdict
abbrev pub verdict_number : Verdict → ℕ
verdict_number verdict.Accepted = 0
verdict_number (verdict.Broken rule) = 1000 + rule % 256
verdict_number (verdict.NoContract id) = 2000 + id % 256
verdict_number (verdict.Refused contract clause) = 3000 + contract % 256 * 256 + clause % 256

-- one id as itself, any other count as a number
abbrev pub ids_shown : List Hash32 → Value
ids_shown [] = value.Number 1400000
ids_shown (id ∷ []) = value.Id id
ids_shown (id ∷ next ∷ more) = value.Number (1400002 + min (length more) 1000)

-- what is no value, transaction, tag or notary's answer is a number: the result's own in order of the results, times 100,000, and a code or a count
abbrev pub number_shown : Resumed → ℕ
number_shown (resumed.Opened key) = 100000
number_shown resumed.Sent = 200000
number_shown (resumed.Rejected code) = 400000 + code
number_shown (resumed.Failed code) = 500000 + code
number_shown resumed.Ended = 600000
number_shown resumed.Lapsed = 700000
number_shown resumed.Started = 800000
number_shown (resumed.Verdict v) = 900000 + verdict_number v
number_shown (resumed.Coins list) = 1000000 + min (length list) 1000
number_shown (resumed.Short have) = 1100000 + min have 1000000000
number_shown resumed.Absent = 1300000
number_shown resumed.Recorded = 1700000
number_shown (resumed.Refused code) = 1900000 + code
number_shown other = 0

-- a result as a value
abbrev pub shown : Resumed → Value
shown (resumed.Got v) = v
shown (resumed.Found stx) = value.Tx stx
shown (resumed.Ids list) = ids_shown list
shown (resumed.Tagged tag) = value.Tags (tag ∷ [])
shown (resumed.Answer answer) = value.Answer answer
shown (resumed.Returned v) = v
shown other = value.Number (number_shown other)

-- ---- acts with tags

-- a value with these tags in place of its own
abbrev pub tagged : List Tag → Value → Value
tagged tags (value.Tx stx) = value.Tx (record { tx = stx.tx; tags = tags })
tagged tags (value.Request request) = value.Tags tags
tagged tags (value.Answer answer) = value.Tags tags
tagged tags (value.Tags own) = value.Tags tags
tagged tags other = other

-- a request with the first of these tags in place of its own
abbrev pub asked : List Tag → Request → Act Script
asked [] request = act.Fail 71
asked (tag ∷ more) request = act.Notarise (record request { tag = tag })

-- a subflow of a frame that isn't over
abbrev pub called : List ℕ → Act Script
called [] = act.Fail 72
called (mark ∷ acts) = act.Sub (record { 0 = mark ∷ acts })

-- an act with these tags in place of its own
abbrev pub filled : List Tag → Act Script → Act Script
filled tags (act.Open to class first) = act.Open to class (tagged tags first)
filled tags (act.Send key v) = act.Send key (tagged tags v)
filled tags (act.Sub frame) = called frame.0
filled tags (act.Notarise request) = asked tags request
filled tags (act.Record stx) = act.Record (record { tx = stx.tx; tags = tags })
filled tags (act.Return v) = act.Return (tagged tags v)
filled tags other = other

-- ---- how a frame goes on

-- what an Init of a class may cause
abbrev pub load : ℕ → ℕ
load class = if class == 2 then 8 else 0

-- what an act may cause
abbrev pub act_cost : Act Script → ℕ
act_cost (act.Open to class first) = load class + 6
act_cost (act.Send key v) = 2
act_cost (act.Sub frame) = 7 * length frame.0 + 1
act_cost other = 1

-- the frame fails
abbrev pub fails : ℕ → Script × Act Script
fails code = (ended, act.Fail code)

-- the act, and the frame that has the rest
abbrev pub follows : List ℕ → Act Script → Script × Act Script
follows rest (act.Return v) = (ended, act.Return v)
follows rest (act.Fail code) = (ended, act.Fail code)
follows rest other = (record { 0 = 1 ∷ rest }, other)

-- the act that was read, where it costs no more than its bytes
abbrev pub paid : ℕ → List ℕ → Act Script → Script × Act Script
paid left rest a = if nat_le (7 * length rest + act_cost a) (7 * left) then follows rest a else fails 73

-- the act that was read in front of this many bytes, with the tags of the result
abbrev pub taken : ℕ → Resumed → Result (Act Script × List ℕ) ℕ → Script × Act Script
taken left with (Err n) = fails 70
taken left with (Ok read) = paid left read.1 (filled (resumed_tags with) read.0)

-- the next act with the tags of the result; after the last one the result is returned
abbrev pub steps : List ℕ → Resumed → Script × Act Script
steps [] with = (ended, act.Return (shown with))
steps (byte ∷ more) with = taken (length (byte ∷ more)) with (act_at script_at (byte ∷ more))

-- a frame goes on by its bytes
abbrev pub goes : List ℕ → Resumed → Script × Act Script
goes [] with = fails (unnamed_code with)
goes (mark ∷ acts) with = steps acts with

-- whether there are no bytes
abbrev pub is_over : List ℕ → Bool
is_over [] = true
is_over (mark ∷ acts) = false

-- class 1 begins with the acts that its arguments spell
abbrev pub made : ℕ → List ℕ → Result (Script × Act Script) MakeFault
made class args = if class == 1 then (if nat_le (length args) 32767 then Ok (steps args resumed.Started) else Err make.BadArgs) else Err make.UnknownClass

-- a flow that answers an Init of class 2 takes one item, and returns what that was
abbrev pub begun : ℕ → Key → Option (Script × Act Script)
begun class key = if class == 2 then Some (record { 0 = 1 ∷ [] }, act.Receive key) else None

-- what the flow set means: no words begin a flow
abbrev pub script : Machine Script
script = record {
  worded = λ class args. Err word.UnknownClass;
  made = λ class args here. made class args;
  begun = λ class key here. begun class key;
  next = λ f with here. goes f.0 with;
  content = λ f. f.0;
  weight = λ f. 7 * length f.0;
  over = λ f. is_over f.0;
  tags = λ f. [];
  load = load;
}
