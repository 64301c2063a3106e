-- The frames of a live flow.
use Rattle.std.specs.Prelude.{List, map}
use Rattle.std.specs.declared.sync.Arc.{Arc}
use Rattle.std.specs.Arc.{arc_value}

-- the frame that is resumed next, and those below it, the nearest first
pub record Frames (F : Type 0) : Type 0 where
  pub top : F
  pub below : List F

-- frames that are shared
abbrev pub frames_in : {F Z : Type 0} → List (Arc F Z) → List F
frames_in shared = map (λ frame. arc_value frame) shared
