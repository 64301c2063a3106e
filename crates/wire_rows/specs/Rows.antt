-- Passes of all inboxes, one of each, as a call begins.
use Rattle.std.specs.Prelude.{◌≡◌, ℕ, ◌+◌, ◌-◌, List, map, slice_get, Some, Vec}
use Rattle.std.specs.Global.{Global}
use Rattle.std.specs.List.{AllByRecursion}
use Rattle.atomic_table.specs.Seated.{TableId}
use Rattle.wire_queue.specs.declared.inbox.InboxPass.{InboxPass}
use Rattle.wire_queue.specs.declared.rule.Seen.{Seen}
use Rattle.wire_queue.specs.Wire.{Frame, IsIn, seen, fresh}

-- this number of shares of the pass was given away
abbrev pub given_of : ℕ → Seen → Seen
given_of n s = seen (s.shares - n) s.origins s.copies s.pulled

-- this number of shares was given away, and each origin waited at the inbox's place
pub record Spread (waited : List (List Frame)) (given : ℕ) (own : List Seen) : Type 0 where
  pub shares : (q : ℕ) (s : Seen) → slice_get own q ≡ Some s → s.shares + given ≡ 32
  pub posted : (q : ℕ) (s : Seen) → slice_get own q ≡ Some s → (x : Frame) → IsIn x s.origins → (frames : List Frame) × (slice_get waited q ≡ Some frames) × IsIn x frames

-- rows of passes of these inboxes, which have seen nothing
unfoldable pub AreRows : List TableId → List (Vec InboxPass Global) → Type 0
AreRows ids rows = AllByRecursion (λ (row : Vec InboxPass Global). (map (λ (p : InboxPass). p.of) row.items ≡ ids) × AllByRecursion (λ (p : InboxPass). p.seen ≡ fresh) row.items) rows
