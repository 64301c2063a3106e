-- The tags that frames, acts and results hold, and the law that a flow set makes none.
use Rattle.std.specs.Prelude.{◌≡◌, ℕ, List, [], ◌∷◌, Some, Ok, Bool, true}
use Rattle.std.specs.List.{list_all}
use Rattle.net_base.specs.declared.names.Key.{Key}
use Rattle.net_base.specs.declared.names.Tag.{Tag}
use Rattle.ledger_types.specs.declared.notary.NotaryAnswer.{NotaryAnswer}
use Rattle.ledger_types.specs.declared.notary.NotaryAnswer.TheVariants as answer
use Rattle.ledger_types.specs.declared.value.Value.{Value}
use Rattle.ledger_types.specs.declared.value.Value.TheVariants as value
use Rattle.flow_machine.specs.declared.acts.Act.{Act}
use Rattle.flow_machine.specs.declared.acts.Act.TheVariants as act
use Rattle.flow_machine.specs.declared.acts.Resumed.{Resumed}
use Rattle.flow_machine.specs.declared.acts.Resumed.TheVariants as resumed
use Rattle.flow_machine.specs.declared.acts.Place.{Place}
use Rattle.flow_machine.specs.Machine.{Machine}

-- the tags of a notary's answer
abbrev pub answer_tags : NotaryAnswer → List Tag
answer_tags (answer.Signed tag) = tag ∷ []
answer_tags other = []

-- the tags of a value
abbrev pub value_tags : Value → List Tag
value_tags (value.Tx stx) = stx.tags
value_tags (value.Request request) = request.tag ∷ []
value_tags (value.Answer given) = answer_tags given
value_tags (value.Tags tags) = tags
value_tags other = []

-- the tags of an act, where a frame has these
abbrev pub act_tags : {F : Type 0} → (F → List Tag) → Act F → List Tag
act_tags tags (act.Open to class first) = value_tags first
act_tags tags (act.Send key v) = value_tags v
act_tags tags (act.Sub frame) = tags frame
act_tags tags (act.Notarise request) = request.tag ∷ []
act_tags tags (act.Record stx) = stx.tags
act_tags tags (act.Return v) = value_tags v
act_tags tags other = []

-- the tags of a result
abbrev pub resumed_tags : Resumed → List Tag
resumed_tags (resumed.Got v) = value_tags v
resumed_tags (resumed.Found stx) = stx.tags
resumed_tags (resumed.Tagged tag) = tag ∷ []
resumed_tags (resumed.Answer given) = answer_tags given
resumed_tags (resumed.Returned v) = value_tags v
resumed_tags other = []

-- Each tag in the new frame and its act stood in the old frame or in what it was resumed with: a test that these pass is passed by the new ones.
abbrev pub KeepsTags : {F : Type 0} → Machine F → Type 0
KeepsTags {F} m = (test : Tag → Bool) (frame : F) (with : Resumed) (at : Place) → list_all test (m.tags frame) ≡ true → list_all test (resumed_tags with) ≡ true
    → (list_all test (m.tags (m.next frame with at).0) ≡ true) × (list_all test (act_tags m.tags (m.next frame with at).1) ≡ true)

-- neither the frame nor the act has a tag
abbrev pub AreBare : {F : Type 0} → Machine F → F × Act F → Type 0
AreBare m begins = (m.tags begins.0 ≡ []) × (act_tags m.tags begins.1 ≡ [])

-- what begins has no tag
pub record BeginsBare {F : Type 0} (m : Machine F) : Type 0 where
  pub made : (class : ℕ) (args : List ℕ) (at : Place) (begins : F × Act F) → m.made class args at ≡ Ok begins → AreBare m begins
  pub begun : (class : ℕ) (key : Key) (at : Place) (begins : F × Act F) → m.begun class key at ≡ Some begins → AreBare m begins
