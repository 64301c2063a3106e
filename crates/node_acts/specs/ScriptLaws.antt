-- The laws of the flow set that performs a list of acts.
use Rattle.std.proofs.Common.{◌≡◌, ◌+◌, ◌*◌, ◌≤◌, ◌<◌, ◌^◌, ℕ, zero, suc, arith, Bool, true, false, List, [], ◌∷◌, ◌++◌, length, Option, Some, None, Result, Ok, Err, refl, sym, ap, subst, ◌∙◌, length-append}
use Rattle.std.specs.Prelude.{nat_le, nat_eq, ◌==◌, ◌%◌, min, if◌then◌else◌, get_or, IfOk}
use Rattle.std.specs.Int.{w16}
use Rattle.std.specs.List.{list_all, AllByRecursion}
use Rattle.std.proofs.lemmas.Bool.{leb-true}
use Rattle.net_base.specs.declared.values.Hash32.{Hash32}
use Rattle.net_base.specs.declared.names.Tag.{Tag}
use Rattle.net_base.specs.Reading.{IsBytes, number}
use Rattle.net_base.specs.Forms.{bytes16}
use Rattle.net_base.specs.Laws.{Laws, LawsIf, IsBytes-rest}
use Rattle.net_base.specs.Combining.{iso_laws}
use Rattle.net_base.specs.Framing.{bytes16_at, bytes16_laws}
use Rattle.net_base.specs.Names.{IsTag}
use Rattle.net_base.specs.Values.{IsHash}
use Rattle.ledger_types.specs.declared.notary.NotaryAnswer.{NotaryAnswer}
use Rattle.ledger_types.specs.declared.notary.NotaryAnswer.TheVariants as answer
use Rattle.ledger_types.specs.declared.notary.Request.{Request}
use Rattle.ledger_types.specs.declared.value.Value.{Value}
use Rattle.ledger_types.specs.declared.value.Value.TheVariants as value
use Rattle.ledger_types.specs.declared.verdict.Verdict.{Verdict}
use Rattle.ledger_types.specs.declared.verdict.Verdict.TheVariants as verdict
use Rattle.ledger_types.specs.Requests.{IsRequest, IsNotaryAnswer}
use Rattle.ledger_types.specs.Txs.{IsTagList}
use Rattle.ledger_types.specs.Values.{IsValue}
use Rattle.flow_machine.specs.declared.acts.Act.{Act}
use Rattle.flow_machine.specs.declared.acts.Act.TheVariants as act
use Rattle.flow_machine.specs.declared.acts.Place.{Place}
use Rattle.flow_machine.specs.declared.acts.Resumed.{Resumed}
use Rattle.flow_machine.specs.declared.acts.Resumed.TheVariants as resumed
use Rattle.flow_machine.specs.declared.flow_set.MakeFault.{MakeFault}
use Rattle.flow_machine.specs.declared.flow_set.MakeFault.TheVariants as make
use Rattle.flow_machine.specs.Acts.{act_text, act_at, act_laws}
use Rattle.flow_machine.specs.Flows.{cost, Falls, LoadHolds, is_fair, is_fail, OversHold, OverFails, KnownByName, ArgsAreShort, SpellsContent, AreWithin, KeepsLimits}
use Rattle.flow_machine.specs.Limits.{IsAct, IsResumed, IsPlace}
use Rattle.flow_machine.specs.Machine.{Machine}
use Rattle.flow_machine.specs.Tags.{resumed_tags, value_tags, answer_tags, act_tags, KeepsTags, AreBare, BeginsBare}
use Rattle.flow_machine.specs.Unnamed.{unnamed_code, code_small}
use Rattle.node_acts.specs.declared.script.Script.{Script}
use Rattle.node_acts.specs.Script.{IsScript, script_text, script_at, ended, verdict_number, number_shown, shown, ids_shown, tagged, asked, called, filled, load, act_cost, fails, follows, paid, taken, steps, goes, is_over, made, script}

-- ---- bytes

-- the first of some bytes are bytes
front_bytes : (a b : List ℕ) → IsBytes (a ++ b) → IsBytes a
front_bytes [] b h i = omega arith
front_bytes (x ∷ a) b h zero = h 0
front_bytes (x ∷ a) b h (suc i) = front_bytes a b (λ j. h (suc j)) i

-- one more byte in front
one_more : (byte : ℕ) (rest : List ℕ) → byte < 256 → IsBytes rest → IsBytes (byte ∷ rest)
one_more byte rest small h zero = small
one_more byte rest small h (suc i) = h i

-- none are bytes
no_bytes : IsBytes []
no_bytes i = omega arith

plain_laws : Laws (λ (f : Script). length f.0 ≤ 32768) script_text script_at
unfolding script_at
plain_laws = iso_laws (λ b. record { 0 = b }) (λ f. f.0) (λ _. refl) (λ _. refl) (bytes16_laws 32768 (omega arith))

-- the laws of frames
pub script_laws : LawsIf ⊥ IsScript script_text script_at
script_laws = record {
  takes = λ bytes x all e.
      let t = plain_laws.takes bytes x all e in
      let whole : IsBytes (script_text x.0 ++ x.1) = subst IsBytes t.0 all in
      (t.0, (t.1, IsBytes-rest (number w16 (length x.0.0)) x.0.0 (front_bytes (script_text x.0) x.1 whole)));
  again = λ v rest h. plain_laws.again v rest h.0;
  faults = λ never. absurd never;
  some = ended;
  some_within = (omega arith, no_bytes);
}

-- ---- what every next frame keeps

-- a choice keeps what both sides keep
by_test : {A : Type 0} (P : A → Type 0) (test : Bool) (a b : A) → (test ≡ true → P a) → P b → P (if test then a else b)
by_test P true a b one two = one refl
by_test P false a b one two = two

-- what is kept by the last return, by each failure and by each act that is read and paid
record Keeps (P : Script × Act Script → Type 0) (acts : List ℕ) (with : Resumed) : Type 0 where
  last : P (ended, act.Return (shown with))
  failing : (code : ℕ) → code < 2 ^ 16 → P (fails code)
  reading : (a : Act Script) (rest : List ℕ) → act_at script_at acts ≡ Ok (a, rest) → 7 * length rest + act_cost (filled (resumed_tags with) a) ≤ 7 * length acts → P (follows rest (filled (resumed_tags with) a))

taken_keep : (P : Script × Act Script → Type 0) (acts : List ℕ) (with : Resumed) (r : Result (Act Script × List ℕ) ℕ) → act_at script_at acts ≡ r → Keeps P acts with → P (taken (length acts) with r)
taken_keep P acts with (Err n) is k = k.failing 70 (omega arith)
taken_keep P acts with (Ok (a, rest)) is k =
    let new : Act Script = filled (resumed_tags with) a in
    let costs : ℕ = 7 * length rest + act_cost new in
    by_test P (nat_le costs (7 * length acts)) (follows rest new) (fails 73) (λ fits. k.reading a rest is (leb-true costs (7 * length acts) fits)) (k.failing 73 (omega arith))

steps_keep : (P : Script × Act Script → Type 0) (acts : List ℕ) (with : Resumed) → Keeps P acts with → P (steps acts with)
steps_keep P [] with k = k.last
steps_keep P (byte ∷ more) with k = taken_keep P (byte ∷ more) with (act_at script_at (byte ∷ more)) refl k

-- ---- the weight falls

follows_fall : (rest : List ℕ) (a : Act Script) → script.weight (follows rest a).0 + cost script (follows rest a).1 ≤ 7 + (7 * length rest + act_cost a)
follows_fall rest (act.Open to class first) = omega arith
follows_fall rest (act.Send key v) = omega arith
follows_fall rest (act.Sub frame) = omega arith
follows_fall rest (act.Return v) = omega arith
follows_fall rest (act.Fail code) = omega arith
follows_fall rest other = omega arith

steps_fall : (acts : List ℕ) (with : Resumed) → script.weight (steps acts with).0 + cost script (steps acts with).1 ≤ 7 + 7 * length acts
steps_fall acts with =
    steps_keep (λ g. script.weight g.0 + cost script g.1 ≤ 7 + 7 * length acts) acts with (record {
      last = omega arith;
      failing = λ code small. omega arith;
      reading = λ a rest is fits. omega (arith, follows_fall rest (filled (resumed_tags with) a), fits);
    })

goes_fall : (bytes : List ℕ) (with : Resumed) → is_over bytes ≡ false → script.weight (goes bytes with).0 + cost script (goes bytes with).1 ≤ 7 * length bytes
goes_fall [] with e = absurd cc
goes_fall (mark ∷ acts) with e = omega (arith, steps_fall acts with)

pub falls : Falls script
falls frame with here going = goes_fall frame.0 with going

abbrev answer_with : Script × Act Script → Option (Script × Act Script)
answer_with g = Some g

same_answer : (a g : Script × Act Script) → answer_with a ≡ answer_with g → a ≡ g
same_answer a g e = cc

-- what begins by an Init, by the test
begun_keep : (P : Script × Act Script → Type 0) (one : Bool) (a g : Script × Act Script) → (if one then answer_with a else None) ≡ answer_with g → (one ≡ true → P a) → P g
begun_keep P true a g e k = subst P (same_answer a g e) (k refl)
begun_keep P false a g e k = absurd cc

-- the first of two by a test that holds
chosen : (one : Bool) (a b : ℕ) → one ≡ true → (if one then a else b) ≡ a
chosen true a b e = refl
chosen false a b e = absurd cc

pub load_holds : LoadHolds script
load_holds class key here begins e = begun_keep (λ g. script.weight g.0 + cost script g.1 ≤ load class) (class == 2) (record { 0 = 1 ∷ [] }, act.Receive key) begins e (λ one. omega (arith, chosen (class == 2) 8 0 one))

-- ---- frames that are over

called_fair : (rest bytes : List ℕ) → is_fair script (follows rest (called bytes)).0 (follows rest (called bytes)).1 ≡ true
called_fair rest [] = refl
called_fair rest (mark ∷ acts) = refl

asked_fair : (rest : List ℕ) (tags : List Tag) (request : Request) → is_fair script (follows rest (asked tags request)).0 (follows rest (asked tags request)).1 ≡ true
asked_fair rest [] request = refl
asked_fair rest (tag ∷ more) request = refl

follows_fair : (rest : List ℕ) (tags : List Tag) (a : Act Script) → is_fair script (follows rest (filled tags a)).0 (follows rest (filled tags a)).1 ≡ true
follows_fair rest tags (act.Sub frame) = called_fair rest frame.0
follows_fair rest tags (act.Notarise request) = asked_fair rest tags request
follows_fair rest tags other = refl

steps_fair : (acts : List ℕ) (with : Resumed) → is_fair script (steps acts with).0 (steps acts with).1 ≡ true
steps_fair acts with =
    steps_keep (λ g. is_fair script g.0 g.1 ≡ true) acts with (record {
      last = refl;
      failing = λ code small. refl;
      reading = λ a rest is fits. follows_fair rest (resumed_tags with) a;
    })

goes_fair : (bytes : List ℕ) (with : Resumed) → is_fair script (goes bytes with).0 (goes bytes with).1 ≡ true
goes_fair [] with = refl
goes_fair (mark ∷ acts) with = steps_fair acts with

abbrev begun_by : Script × Act Script → Result (Script × Act Script) MakeFault
begun_by g = Ok g

abbrev refused : MakeFault → Result (Script × Act Script) MakeFault
refused why = Err why

same_begun : (a g : Script × Act Script) → begun_by a ≡ begun_by g → a ≡ g
same_begun a g e = cc

-- what is made, by the two tests
made_keep : (P : Script × Act Script → Type 0) (first second : Bool) (a : Script × Act Script) (x y : MakeFault) (g : Script × Act Script) → (if first then (if second then begun_by a else refused x) else refused y) ≡ begun_by g → (first ≡ true → second ≡ true → P a) → P g
made_keep P true true a x y g e k = subst P (same_begun a g e) (k refl refl)
made_keep P true false a x y g e k = absurd cc
made_keep P false second a x y g e k = absurd cc

over_fails_by : (bytes : List ℕ) (with : Resumed) → is_over bytes ≡ true → (is_fail (goes bytes with).1 ≡ true) × (is_over (goes bytes with).0.0 ≡ true)
over_fails_by [] with e = (refl, refl)
over_fails_by (mark ∷ acts) with e = absurd cc

pub over_fails : OverFails script
over_fails frame with here over = over_fails_by frame.0 with over

pub overs_hold : OversHold script
overs_hold = record {
  made = λ class args here begins e. made_keep (λ g. is_fair script g.0 g.1 ≡ true) (class == 1) (nat_le (length args) 32767) (steps args resumed.Started) _ _ begins e (λ one few. steps_fair args resumed.Started);
  begun = λ class key here begins e. begun_keep (λ g. is_fair script g.0 g.1 ≡ true) (class == 2) (record { 0 = 1 ∷ [] }, act.Receive key) begins e (λ one. refl);
  next = λ frame with here. goes_fair frame.0 with;
}

-- ---- tags

tagged_pass : (test : Tag → Bool) (tags : List Tag) (v : Value) → list_all test tags ≡ true → list_all test (value_tags (tagged tags v)) ≡ true
tagged_pass test tags (value.Tx stx) h = h
tagged_pass test tags (value.Request request) h = h
tagged_pass test tags (value.Answer given) h = h
tagged_pass test tags (value.Tags own) h = h
tagged_pass test tags other h = refl

shown_ids_pass : (test : Tag → Bool) (list : List _) → list_all test (value_tags (ids_shown list)) ≡ true
shown_ids_pass test [] = refl
shown_ids_pass test (id ∷ []) = refl
shown_ids_pass test (id ∷ next ∷ more) = refl

shown_pass : (test : Tag → Bool) (with : Resumed) → list_all test (resumed_tags with) ≡ true → list_all test (value_tags (shown with)) ≡ true
shown_pass test (resumed.Got v) h = h
shown_pass test (resumed.Found stx) h = h
shown_pass test (resumed.Ids list) h = shown_ids_pass test list
shown_pass test (resumed.Tagged tag) h = h
shown_pass test (resumed.Answer given) h = h
shown_pass test (resumed.Returned v) h = h
shown_pass test other h = refl

-- the tags of a frame and its act
abbrev tags_of : Script × Act Script → List Tag
tags_of g = act_tags (λ (f : Script). []) g.1

called_pass : (test : Tag → Bool) (rest bytes : List ℕ) → list_all test (tags_of (follows rest (called bytes))) ≡ true
called_pass test rest [] = refl
called_pass test rest (mark ∷ acts) = refl

first_pass : (test : Tag → Bool) (tag : Tag) (more : List Tag) → list_all test (tag ∷ more) ≡ true → list_all test (tag ∷ []) ≡ true
first_pass test tag more h = by_first (test tag) refl h where
  by_first : (b : Bool) → test tag ≡ b → list_all test (tag ∷ more) ≡ true → list_all test (tag ∷ []) ≡ true
  by_first true is h = cc
  by_first false is h = absurd cc

asked_pass : (test : Tag → Bool) (rest : List ℕ) (tags : List Tag) (request : Request) → list_all test tags ≡ true → list_all test (tags_of (follows rest (asked tags request))) ≡ true
asked_pass test rest [] request h = refl
asked_pass test rest (tag ∷ more) request h = first_pass test tag more h

follows_pass : (test : Tag → Bool) (rest : List ℕ) (tags : List Tag) (a : Act Script) → list_all test tags ≡ true → list_all test (tags_of (follows rest (filled tags a))) ≡ true
follows_pass test rest tags (act.Open to class first) h = tagged_pass test tags first h
follows_pass test rest tags (act.Send key v) h = tagged_pass test tags v h
follows_pass test rest tags (act.Sub frame) h = called_pass test rest frame.0
follows_pass test rest tags (act.Notarise request) h = asked_pass test rest tags request h
follows_pass test rest tags (act.Record stx) h = h
follows_pass test rest tags (act.Return v) h = tagged_pass test tags v h
follows_pass test rest tags other h = refl

steps_pass : (test : Tag → Bool) (acts : List ℕ) (with : Resumed) → list_all test (resumed_tags with) ≡ true → list_all test (tags_of (steps acts with)) ≡ true
steps_pass test acts with h =
    steps_keep (λ g. list_all test (tags_of g) ≡ true) acts with (record {
      last = shown_pass test with h;
      failing = λ code small. refl;
      reading = λ a rest is fits. follows_pass test rest (resumed_tags with) a h;
    })

goes_pass : (test : Tag → Bool) (bytes : List ℕ) (with : Resumed) → list_all test (resumed_tags with) ≡ true → list_all test (tags_of (goes bytes with)) ≡ true
goes_pass test [] with h = refl
goes_pass test (mark ∷ acts) with h = steps_pass test acts with h

pub keeps_tags : KeepsTags script
keeps_tags test frame with here old given = (refl, goes_pass test frame.0 with given)

-- what passes every test isn't there
none_pass : (tags : List Tag) → list_all (λ t. false) tags ≡ true → tags ≡ []
none_pass [] h = refl
none_pass (tag ∷ more) h = absurd cc

pub begins_bare : BeginsBare script
begins_bare = record {
  made = λ class args here begins e. made_keep (λ g. AreBare script g) (class == 1) (nat_le (length args) 32767) (steps args resumed.Started) _ _ begins e (λ one few. (refl, none_pass (tags_of (steps args resumed.Started)) (steps_pass (λ t. false) args resumed.Started refl)));
  begun = λ class key here begins e. begun_keep (λ g. AreBare script g) (class == 2) (record { 0 = 1 ∷ [] }, act.Receive key) begins e (λ one. (refl, refl));
}

-- ---- words and limits

pub known_by_name : KnownByName script
known_by_name class args more e = refl

-- arguments are as short as the test says
made_short : (class : ℕ) (args : List ℕ) → IfOk (made class args) (λ begun. length args ≤ 65535)
made_short class args = by_tests (class == 1) (nat_le (length args) 32767) refl where
  by_tests : (one few : Bool) → nat_le (length args) 32767 ≡ few → IfOk (if one then (if few then begun_by (steps args resumed.Started) else refused make.BadArgs) else refused make.UnknownClass) (λ begun. length args ≤ 65535)
  by_tests true true few = omega (arith, leb-true (length args) 32767 few)
  by_tests true false few = tt
  by_tests false few is = tt

pub args_are_short : ArgsAreShort script
args_are_short = record {
  worded = λ class args. tt;
  made = λ class args here. made_short class args;
}

pub spells_content : SpellsContent IsScript script_text script
spells_content = record { framed = λ f h. refl; short = λ f h. h.0 }

-- ---- limits

one_tag : (t : Tag) → IsTag t → IsTagList (t ∷ [])
one_tag t h = (omega arith, ((h, tt), (omega arith, tt)))

no_tags : IsTagList []
no_tags = (omega arith, (tt, tt))

answer_list : (a : NotaryAnswer) → IsNotaryAnswer a → IsTagList (answer_tags a)
answer_list (answer.Signed tag) h = one_tag tag h
answer_list other h = no_tags

value_list : (v : Value) → IsValue v → IsTagList (value_tags v)
value_list (value.Tx stx) h = h.1
value_list (value.Request request) h = one_tag request.tag h.1.1.1
value_list (value.Answer given) h = answer_list given h
value_list (value.Tags tags) h = h
value_list other h = no_tags

-- the tags of a result are those of a transaction
resumed_list : (with : Resumed) → IsResumed with → IsTagList (resumed_tags with)
resumed_list (resumed.Got v) h = value_list v h
resumed_list (resumed.Found stx) h = h.1
resumed_list (resumed.Tagged tag) h = one_tag tag h
resumed_list (resumed.Answer given) h = answer_list given h
resumed_list (resumed.Returned v) h = value_list v h
resumed_list other h = no_tags

tagged_within : (tags : List Tag) (v : Value) → IsTagList tags → IsValue v → IsValue (tagged tags v)
tagged_within tags (value.Tx stx) h small = (small.0, h)
tagged_within tags (value.Request request) h small = h
tagged_within tags (value.Answer given) h small = h
tagged_within tags (value.Tags own) h small = h
tagged_within tags other h small = small

verdict_small : (v : Verdict) → verdict_number v < 70000
verdict_small verdict.Accepted = omega arith
verdict_small (verdict.Broken rule) = omega arith
verdict_small (verdict.NoContract id) = omega arith
verdict_small (verdict.Refused contract clause) = omega arith

ids_within : (list : List Hash32) → AllByRecursion IsHash list → IsValue (ids_shown list)
ids_within [] h = omega arith
ids_within (id ∷ []) h = h.0
ids_within (id ∷ next ∷ more) h = omega arith

number_small : (with : Resumed) → IsResumed with → number_shown with < 2 ^ 64
number_small (resumed.Rejected code) h = omega (arith, h)
number_small (resumed.Failed code) h = omega (arith, h)
number_small (resumed.Verdict v) h = omega (arith, verdict_small v)
number_small (resumed.Coins list) h = omega arith
number_small (resumed.Short have) h = omega arith
number_small (resumed.Refused code) h = omega (arith, h)
number_small other h = omega arith

shown_within : (with : Resumed) → IsResumed with → IsValue (shown with)
shown_within (resumed.Got v) h = h
shown_within (resumed.Found stx) h = h
shown_within (resumed.Ids list) h = ids_within list h
shown_within (resumed.Tagged tag) h = one_tag tag h
shown_within (resumed.Answer given) h = h
shown_within (resumed.Returned v) h = h
shown_within other h = number_small other h

fails_within : (code : ℕ) → code < 2 ^ 16 → AreWithin IsScript (fails code)
fails_within code small = ((omega arith, no_bytes), small)

called_within : (rest bytes : List ℕ) → IsScript (record { 0 = 1 ∷ rest }) → IsScript (record { 0 = bytes }) → AreWithin IsScript (follows rest (called bytes))
called_within rest [] old h = fails_within 72 (omega arith)
called_within rest (mark ∷ acts) old h = (old, h)

asked_within : (rest : List ℕ) (tags : List Tag) (request : Request) → IsScript (record { 0 = 1 ∷ rest }) → IsTagList tags → IsRequest request → AreWithin IsScript (follows rest (asked tags request))
asked_within rest [] request old h small = fails_within 71 (omega arith)
asked_within rest (tag ∷ more) request old h small = (old, (small.0, (small.1.0, (small.1.1.0, h.1.0.0))))

follows_within : (rest : List ℕ) (tags : List Tag) (a : Act Script) → IsScript (record { 0 = 1 ∷ rest }) → IsTagList tags → IsAct IsScript a → AreWithin IsScript (follows rest (filled tags a))
follows_within rest tags (act.Open to class first) old h small = (old, (small.0, (small.1.0, tagged_within tags first h small.1.1)))
follows_within rest tags (act.Send key v) old h small = (old, (small.0, tagged_within tags v h small.1))
follows_within rest tags (act.Sub frame) old h small = called_within rest frame.0 old small
follows_within rest tags (act.Notarise request) old h small = asked_within rest tags request old h small
follows_within rest tags (act.Record stx) old h small = (old, (small.0, h))
follows_within rest tags (act.Return v) old h small = ((omega arith, no_bytes), tagged_within tags v h small)
follows_within rest tags (act.Fail code) old h small = ((omega arith, no_bytes), small)
follows_within rest tags other old h small = (old, small)

steps_within : (acts : List ℕ) (with : Resumed) → length acts ≤ 32767 → IsBytes acts → IsResumed with → AreWithin IsScript (steps acts with)
steps_within acts with few all small =
    steps_keep (λ g. AreWithin IsScript g) acts with (record {
      last = ((omega arith, no_bytes), shown_within with small);
      failing = fails_within;
      reading = λ a rest is fits.
          let t = (act_laws script_laws).takes acts (a, rest) all is in
          let more : IsBytes rest = IsBytes-rest (act_text script_text a) rest (subst IsBytes t.0 all) in
          follows_within rest (resumed_tags with) a (omega (arith, fits, few), one_more 1 rest (omega arith) more) (resumed_list with small) t.1;
    })

goes_within : (bytes : List ℕ) (with : Resumed) → IsScript (record { 0 = bytes }) → IsResumed with → AreWithin IsScript (goes bytes with)
goes_within [] with h small = fails_within (unnamed_code with) (code_small with small)
goes_within (mark ∷ acts) with h small = steps_within acts with (omega (arith, h.0)) (IsBytes-rest (mark ∷ []) acts h.1) small

pub keeps_limits : KeepsLimits IsScript script
keeps_limits = record {
  made = λ class args here begins all place e. made_keep (λ g. AreWithin IsScript g) (class == 1) (nat_le (length args) 32767) (steps args resumed.Started) _ _ begins e (λ one few. steps_within args resumed.Started (leb-true (length args) 32767 few) all tt);
  begun = λ class key here begins small place e. begun_keep (λ g. AreWithin IsScript g) (class == 2) (record { 0 = 1 ∷ [] }, act.Receive key) begins e (λ one. ((omega arith, one_more 1 [] (omega arith) no_bytes), small));
  next = λ frame with here h small place. goes_within frame.0 with h small;
}
