-- What contracts see of a pass.
use Rattle.atomic_table.specs.Seated.{TableId}
use Rattle.wire_queue.specs.declared.rule.Seen.{Seen}

-- a pass as contracts see it: of which inbox it is, and what it has seen
pub record PassSeen : Type 0 where
  pub of : TableId
  pub seen : Seen
