-- Passes that are put together, and inboxes that are drained.
use Rattle.std.specs.Prelude.{◌≡◌, ℕ, ◌<◌, ◌≤◌, List, [], length, slice_get, Some, Vec, vec_capacity}
use Rattle.std.specs.Global.{Global}
use Rattle.wire_queue.specs.declared.rule.Seen.{Seen}
use Rattle.wire_queue.specs.Wire.{Frame, FromOrigins, Settled, join_of}
use Rattle.wire_rows.specs.Exchanges.{pulled_all}

-- a row of passes was joined to those of a call
pub record Joined (own row new : List Seen) : Type 0 where
  pub count : length new ≡ length own
  pub beside : length row ≡ length own
  pub each : (q : ℕ) (s t u : Seen) → slice_get own q ≡ Some s → slice_get row q ≡ Some t → slice_get new q ≡ Some u → u ≡ join_of s t

-- the first inboxes were drained, and no others
pub record Drained (count : ℕ) (lists : List (List Frame)) (old new : List Seen) : Type 0 where
  pub beside : length new ≡ length old
  -- the list of an inbox is what its pass pulled, in order, each frame once, and the pass did nothing else
  pub left : (q : ℕ) (frames : List Frame) (s t : Seen) → slice_get lists q ≡ Some frames → slice_get old q ≡ Some s → slice_get new q ≡ Some t → t ≡ pulled_all s frames
  -- after fewer than 1,024 frames the inbox was empty
  pub emptied : (q : ℕ) (frames : List Frame) (t : Seen) → slice_get lists q ≡ Some frames → length frames < 1024 → slice_get new q ≡ Some t → Settled t []
  -- with all shares what was pulled is an origin
  pub whole : (q : ℕ) (t : Seen) → q < count → slice_get new q ≡ Some t → FromOrigins t
  pub others : (q : ℕ) → count ≤ q → slice_get new q ≡ slice_get old q

-- an empty list with room for all that an inbox may hold
abbrev pub IsRoom : Vec Frame Global → Type 0
IsRoom v = (v.items ≡ []) × (1024 ≤ vec_capacity v)
