use Rattle.wire_queue.proofs.Wires.{merges}
use Rattle.wire_queue.proofs.inbox.Inbox.join.Goals as goal

pub absorb-requires-clause-rule : goal.absorb-requires-clause-rule
absorb-requires-clause-rule c = merges _ _ _ _ c.pass.invariant.1
