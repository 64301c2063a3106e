use Rattle.std.proofs.Common.{◌≡◌, ◌++◌, ◌≤◌, [], length, map}
use Rattle.std.specs.List.{AllByRecursion}
use Rattle.wire_queue.specs.Wire.{seen}
use Rattle.wire_rows.proofs.making.make_all.Given as goal

abbrev pub invariant-lists : goal.invariant-lists
invariant-lists g l =
    (goal.iterator-lists g).can_next l.frames-iterator ×
    (goal.iterator-lists g).is_finite l.frames-iterator ×
    (l.yielded ++ l.frames-iterator.rest.items ≡ l.fn.waiting.items) ×
    AllByRecursion (λ v. length v ≤ 1024) l.frames-iterator.rest.items ×
    (map (λ p. p.of) l.own.items ≡ l.inboxes.items) ×
    (length l.inboxes.items ≡ length l.yielded) ×
    (map (λ p. p.seen) l.own.items ≡ map (λ v. seen 32 v [] []) l.yielded)
