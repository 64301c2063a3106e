use Rattle.wire_queue.proofs.Wires.{taken_as_posted}
use Rattle.wire_queue.proofs.rule.taken_as_posted.Goals as goal

pub returns : goal.returns
returns c = taken_as_posted
