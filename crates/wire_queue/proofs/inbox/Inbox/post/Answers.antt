use Rattle.wire_queue.proofs.Wires.{pushes, learns}
use Rattle.wire_queue.proofs.inbox.Inbox.post.Goals as goal

pub push_as-requires-clause-rule : goal.push_as-requires-clause-rule
push_as-requires-clause-rule g c = (pushes _ _ _ _ c.pass.invariant.1, learns _ _)
