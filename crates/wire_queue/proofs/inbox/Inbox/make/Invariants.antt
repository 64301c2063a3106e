use Rattle.std.proofs.Common.{◌≡◌, ◌+◌, ◌≤◌, [], ◌++◌, length}
use Rattle.wire_queue.specs.Wire.{seen}
use Rattle.wire_queue.proofs.inbox.Inbox.make.Given as goal

abbrev pub invariant-loop-frame : goal.invariant-loop-frame
invariant-loop-frame g l =
    (goal.iterator-loop-frame g).can_next l.frame-iterator ×
    (goal.iterator-loop-frame g).is_finite l.frame-iterator ×
    (l.pass.of ≡ l.inbox) × (l.pass.seen ≡ seen 32 l.yielded [] []) × (length l.yielded + length l.frame-iterator.rest.items ≤ 1024)
