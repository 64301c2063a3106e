use Rattle.std.proofs.Common.{◌≡◌, ◌++◌, map}
use Rattle.session_frames.specs.Sending.{outgoing, AreMessages}
use Rattle.session_frames.proofs.sending.frames_of.Given as goal

abbrev pub invariant-items : goal.invariant-items
invariant-items l =
    goal.iterator-items.can_next l.item-iterator ×
    goal.iterator-items.is_finite l.item-iterator ×
    (l.frames.items ++ map (outgoing l.party) l.item-iterator.rest.items ≡ map (outgoing l.party) l.fn.items) ×
    AreMessages l.party l.item-iterator.rest.items
