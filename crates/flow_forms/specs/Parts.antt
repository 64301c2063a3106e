-- A part of a flow set: flows whose subflows are calls yet, and what is asked of them.
use Rattle.std.specs.Prelude.{◌≡◌, ℕ, ◌+◌, ◌≤◌, List, length, Bool, true, false, not, Option, Some, Result, Ok, Err, IfOk}
use Rattle.std.specs.List.{list_all}
use Rattle.net_base.specs.declared.names.Key.{Key}
use Rattle.net_base.specs.declared.names.Tag.{Tag}
use Rattle.net_base.specs.Reading.{IsBytes}
use Rattle.net_base.specs.Names.{IsKey}
use Rattle.flow_machine.specs.declared.acts.Act.{Act}
use Rattle.flow_machine.specs.declared.acts.Act.TheVariants as act
use Rattle.flow_machine.specs.declared.acts.Place.{Place}
use Rattle.flow_machine.specs.declared.acts.Resumed.{Resumed}
use Rattle.flow_machine.specs.declared.flow_set.WordFault.{WordFault}
use Rattle.flow_machine.specs.declared.flow_set.WordFault.TheVariants as word
use Rattle.flow_machine.specs.declared.flow_set.MakeFault.{MakeFault}
use Rattle.flow_machine.specs.Flows.{is_fail}
use Rattle.flow_machine.specs.Limits.{IsAct, IsResumed, IsPlace}
use Rattle.flow_machine.specs.Tags.{act_tags, resumed_tags}
use Rattle.flow_forms.specs.declared.calls.Call.{Call}
use Rattle.flow_forms.specs.Calls.{IsCall, call_tags, price, load_of}

-- What the flows mean, as in a flow set, but that an act calls a subflow by name.
pub record Part (F : Type 0) : Type 0 where
  pub worded : List ℕ → List (List ℕ) → Result (ℕ × List ℕ) WordFault
  pub made : ℕ → List ℕ → Place → Result (F × Act Call) MakeFault
  pub begun : ℕ → Key → Place → Option (F × Act Call)
  pub next : F → Resumed → Place → F × Act Call
  pub content : F → List ℕ
  pub weight : F → ℕ
  pub over : F → Bool
  pub tags : F → List Tag

-- what a frame and its act may cause
abbrev pub causes : {F : Type 0} → (F → ℕ) → F × Act Call → ℕ
causes weight g = weight g.0 + price g.1

-- whether the frame is over exactly where the act is Return or Fail
abbrev pub is_just : {F : Type 0} → (F → Bool) → F → Act Call → Bool
is_just over f (act.Return value) = over f
is_just over f (act.Fail code) = over f
is_just over f other = not (over f)

-- the frame and the act are within their limits
abbrev pub AreLimited : {F : Type 0} → (F → Type 0) → F × Act Call → Type 0
AreLimited within g = within g.0 × IsAct IsCall g.1

-- the tags of the frame and of the act pass a test
abbrev pub BothPass : {F : Type 0} → (Tag → Bool) → (F → List Tag) → F × Act Call → Type 0
BothPass test tags g = (list_all test (tags g.0) ≡ true) × (list_all test (act_tags call_tags g.1) ≡ true)

-- What is asked of a frame and an act that begin a flow, of what is given.
pub record BeginsWell {F : Type 0} (within : F → Type 0) (part : Part F) (given : Type 0) (here : Place) (g : F × Act Call) : Type 0 where
  pub limits : given → IsPlace here → AreLimited within g
  pub bare : (test : Tag → Bool) → BothPass test part.tags g
  pub just : is_just part.over g.0 g.1 ≡ true

-- What is asked of a part.
pub record PartLaws {F : Type 0} (within : F → Type 0) (part : Part F) : Type 0 where
  pub made : (class : ℕ) (args : List ℕ) (here : Place) (g : F × Act Call) → part.made class args here ≡ Ok g → BeginsWell within part (IsBytes args) here g
  pub begun : (class : ℕ) (k : Key) (here : Place) (g : F × Act Call) → part.begun class k here ≡ Some g → BeginsWell within part (IsKey k) here g
  pub load : (class : ℕ) (k : Key) (here : Place) (g : F × Act Call) → part.begun class k here ≡ Some g → causes part.weight g ≤ load_of class
  pub falls : (f : F) (with : Resumed) (here : Place) → part.over f ≡ false → causes part.weight (part.next f with here) ≤ part.weight f
  pub just : (f : F) (with : Resumed) (here : Place) → is_just part.over (part.next f with here).0 (part.next f with here).1 ≡ true
  pub fails : (f : F) (with : Resumed) (here : Place) → part.over f ≡ true → (is_fail (part.next f with here).1 ≡ true) × (part.over (part.next f with here).0 ≡ true)
  pub tags : (test : Tag → Bool) (f : F) (with : Resumed) (here : Place) → list_all test (part.tags f) ≡ true → list_all test (resumed_tags with) ≡ true → BothPass test part.tags (part.next f with here)
  pub limits : (f : F) (with : Resumed) (here : Place) → within f → IsResumed with → IsPlace here → AreLimited within (part.next f with here)
  pub short : (f : F) → within f → length (part.content f) ≤ 32768
  pub few_words : (class : List ℕ) (args : List (List ℕ)) → IfOk (part.worded class args) (λ words. length words.1 ≤ 65535)
  pub few_args : (class : ℕ) (args : List ℕ) (here : Place) → IfOk (part.made class args here) (λ g. length args ≤ 65535)
  pub named : (class : List ℕ) (args more : List (List ℕ)) → part.worded class args ≡ Err word.UnknownClass → part.worded class more ≡ Err word.UnknownClass
