-- Frames that are put before those that wait.
use Rattle.std.specs.Prelude.{◌≡◌, ℕ, zero, suc, ◌+◌, ◌≤◌, List, [], ◌∷◌, ◌++◌, length, drop, slice_get, Some}
use Rattle.waiting_frames.specs.Waiting.{WaitingSeen, joined}
use Rattle.wire_queue.specs.Wire.{Frame}

-- the frames once these came, in order: each stands last, unless equal bytes wait
abbrev pub joined_all : List Frame → List Frame → List Frame
joined_all [] waiting = waiting
joined_all (x ∷ xs) waiting = joined_all xs (joined x waiting)

-- the first frame behind the others
abbrev pub turned : List Frame → List Frame
turned [] = []
turned (x ∷ xs) = xs ++ x ∷ []

-- this number of times
abbrev pub turned_by : ℕ → List Frame → List Frame
turned_by zero xs = xs
turned_by (suc n) xs = turned (turned_by n xs)

-- these frames stand before those that wait, in order, each once, and none that waits
pub record PutFirst (frames old new : List Frame) : Type 0 where
  pub front : List Frame
  pub once : joined_all frames old ≡ old ++ front
  pub is : new ≡ front ++ old

-- there is room for the frames of an inbox, and for those that wait
abbrev pub HasRoom : WaitingSeen → Type 0
HasRoom w = 1024 + length w.frames ≤ w.room

-- at each node the frames of a list stand in the place of the first 1,024 that waited
pub record PutEach (lists : List (List Frame)) (old new : List WaitingSeen) : Type 0 where
  pub count : length new ≡ length old
  pub each : (q : ℕ) (frames : List Frame) (w v : WaitingSeen) → slice_get lists q ≡ Some frames → slice_get old q ≡ Some w → slice_get new q ≡ Some v → PutFirst frames (drop 1024 w.frames) v.frames
