-- What a node's passes of all inboxes may do.
use Rattle.std.specs.Prelude.{◌≡◌, ◌⊎◌, ℕ, zero, suc, List, [], ◌∷◌, ◌++◌, length, slice_get, Some}
use Rattle.crossbeam_queue.specs.Fifo.{Held}
use Rattle.wire_queue.specs.declared.rule.Seen.{Seen}
use Rattle.wire_queue.specs.Wire.{Frame, IsIn, seen, posted, Settled}
use Rattle.session_frames.specs.declared.sending.Outgoing.{Outgoing}

-- the frame was sent to that place
abbrev pub SentTo : ℕ → Frame → List Outgoing → Type 0
SentTo q x [] = ⊥
SentTo q x (o ∷ os) = ((o.to.0 ≡ q) × (o.bytes ≡ x)) ⊎ SentTo q x os

-- passes, one of each inbox in the order of places, pulled the taken frames from the inbox of a place, and posted no others but those sent, and copies of what they had pulled there; they may have pulled more
pub record Exchanges (at : ℕ) (took : List Frame) (sent : List Outgoing) (old new : List Seen) : Type 0 where
  pub count : length new ≡ length old
  pub shares : (q : ℕ) (s t : Seen) → slice_get old q ≡ Some s → slice_get new q ≡ Some t → t.shares ≡ s.shares
  pub pulled : (q : ℕ) (s t : Seen) → slice_get old q ≡ Some s → slice_get new q ≡ Some t → (x : Frame) → IsIn x s.pulled → IsIn x t.pulled
  pub posted : (q : ℕ) (s t : Seen) → slice_get old q ≡ Some s → slice_get new q ≡ Some t → (x : Frame) → IsIn x t.origins → IsIn x s.origins ⊎ SentTo q x sent
  pub taken : (t : Seen) → slice_get new at ≡ Some t → (x : Frame) → IsIn x took → IsIn x t.pulled

-- ---- just what a call did

-- the passes, that of one place changed; where there is none, they stay
abbrev pub changed : List Seen → ℕ → (Seen → Seen) → List Seen
changed [] at f = []
changed (s ∷ passes) zero f = f s ∷ passes
changed (s ∷ passes) (suc at) f = s ∷ changed passes at f

-- these frames were pulled, in order, each once
abbrev pub pulled_all : Seen → List Frame → Seen
pulled_all s frames = seen s.shares s.origins s.copies (s.pulled ++ frames)

-- the frame was posted once to the inbox of the place; or it was lost, which comes only where that was full, or there is none
abbrev pub PostedAt : ℕ → Frame → List Seen → List Seen → Type 0
PostedAt at x old new = (new ≡ changed old at (λ s. posted s x)) ⊎ ((new ≡ old) × ((s : Seen) → slice_get old at ≡ Some s → Held 1024 (Settled s)))

-- these frames, in order, were posted so, each to the inbox of its addressee
abbrev pub PostedAll : List Outgoing → List Seen → List Seen → Type 0
PostedAll [] old new = new ≡ old
PostedAll (o ∷ os) old new = (mid : List Seen) × PostedAt o.to.0 o.bytes old mid × PostedAll os mid new
