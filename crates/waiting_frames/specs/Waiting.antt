-- The frames that wait at a node, and what one more makes of them.
use Rattle.std.specs.Prelude.{ℕ, Bool, true, not, ◌&&◌, List, [], ◌∷◌, ◌++◌, bytes_eq, if◌then◌else◌}
use Rattle.std.specs.List.{list_any}

-- what contracts see of waiting frames: the frames in the order in which they came, and for how many more there is room
pub record WaitingSeen : Type 0 where
  pub frames : List (List ℕ)
  pub room : ℕ

-- whether equal bytes are among the frames
abbrev pub is_waiting : List ℕ → List (List ℕ) → Bool
is_waiting frame frames = list_any (bytes_eq frame) frames

-- the frames once this one came: it stands last, unless equal bytes wait
abbrev pub joined : List ℕ → List (List ℕ) → List (List ℕ)
joined frame frames = if is_waiting frame frames then frames else frames ++ frame ∷ []

-- whether no two of the frames are equal
abbrev pub waits_once : List (List ℕ) → Bool
waits_once [] = true
waits_once (frame ∷ frames) = not (is_waiting frame frames) && waits_once frames
