use Rattle.wire_queue.proofs.Wires.{pops, learns_all}
use Rattle.wire_queue.proofs.inbox.Inbox.pull.Goals as goal

pub pop_as-requires-clause-rule : goal.pop_as-requires-clause-rule
pop_as-requires-clause-rule g c = (pops _ _ c.pass.invariant.1, learns_all _ _)
