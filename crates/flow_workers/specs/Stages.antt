-- What a call needs besides the nodes.
use Rattle.std.specs.Prelude.{◌≡◌, ℕ, ◌≤◌, [], length, map, vec_capacity}
use Rattle.std.specs.List.{AllByRecursion}
use Rattle.wire_rows.specs.Rows.{AreRows}
use Rattle.wire_rows.specs.Ends.{IsRoom}
use Rattle.flow_workers.specs.declared.stage.Stage.{Stage}

-- there is all that this many nodes need
pub record IsStage (count : ℕ) (s : Stage) : Type 0 where
  pub inboxes : length s.inboxes.items ≡ count
  pub own : map (λ p. p.of) s.own.items ≡ s.inboxes.items
  pub rows : AreRows s.inboxes.items s.rows.items
  pub each : length s.rows.items ≡ count
  pub rooms : AllByRecursion IsRoom s.rooms.items
  pub for_each : length s.rooms.items ≡ count
  pub empty : s.lists.items ≡ []
  pub room : count ≤ vec_capacity s.lists
