use Rattle.std.proofs.Common.{◌≡◌, ◌≤◌, ◌+◌, length, map}
use Rattle.std.specs.List.{AllByRecursion}
use Rattle.network_core.specs.Answers.{count_fresh, mailed}
use Rattle.network_core.proofs.mail.send_all.Given as goal

abbrev pub invariant-frames : goal.invariant-frames
invariant-frames l =
    goal.iterator-frames.can_next l.frame-iterator ×
    goal.iterator-frames.is_finite l.frame-iterator ×
    (mailed l.frame-iterator.rest.items (map (λ w. w.frames) l.waiting.items) ≡ mailed l.fn.frames (map (λ w. w.frames) l.fn.waiting.items)) ×
    (l.count + count_fresh l.frame-iterator.rest.items (map (λ w. w.frames) l.waiting.items) ≡ count_fresh l.fn.frames (map (λ w. w.frames) l.fn.waiting.items)) ×
    (l.count + length l.frame-iterator.rest.items ≤ length l.fn.frames) ×
    AllByRecursion (λ w. length l.frame-iterator.rest.items ≤ w.room) l.waiting.items
