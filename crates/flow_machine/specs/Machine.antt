-- What a flow set means: how its flows begin and go on, as functions of plain data.
use Rattle.std.specs.Prelude.{ℕ, Bool, List, Option, Result}
use Rattle.net_base.specs.declared.names.Key.{Key}
use Rattle.net_base.specs.declared.names.Tag.{Tag}
use Rattle.flow_machine.specs.declared.acts.Act.{Act}
use Rattle.flow_machine.specs.declared.acts.Place.{Place}
use Rattle.flow_machine.specs.declared.acts.Resumed.{Resumed}
use Rattle.flow_machine.specs.declared.flow_set.WordFault.{WordFault}
use Rattle.flow_machine.specs.declared.flow_set.MakeFault.{MakeFault}

-- what a flow set means
pub record Machine (F : Type 0) : Type 0 where
  -- the class and the arguments that a name and words ask for
  pub worded : List ℕ → List (List ℕ) → Result (ℕ × List ℕ) WordFault
  -- the frame and the act with which a flow of a class begins
  pub made : ℕ → List ℕ → Place → Result (F × Act F) MakeFault
  -- the frame and the act with which a flow begins that answers a session's Init, where its class is known
  pub begun : ℕ → Key → Place → Option (F × Act F)
  -- the frame and the act that follow once a frame is resumed
  pub next : F → Resumed → Place → F × Act F
  -- the bytes of a frame
  pub content : F → List ℕ
  -- a bound on what a frame may still cause
  pub weight : F → ℕ
  -- whether a frame is at its end, where it returns or fails
  pub over : F → Bool
  -- the tags that a frame holds
  pub tags : F → List Tag
  -- a bound on what an Init of a class may cause
  pub load : ℕ → ℕ
