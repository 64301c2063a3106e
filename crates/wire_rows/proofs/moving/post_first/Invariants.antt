use Rattle.std.proofs.Common.{◌≡◌, ◌++◌, ℕ, [], map, take}
use Rattle.wire_rows.specs.Exchanges.{Exchanges, PostedAll}
use Rattle.wire_rows.proofs.moving.post_first.Given as goal

abbrev pub invariant-loop-out : goal.invariant-loop-out
invariant-loop-out g l =
    (goal.iterator-loop-out g).can_next l.out-iterator ×
    (goal.iterator-loop-out g).is_finite l.out-iterator ×
    (map (λ p. p.of) l.passes.items ≡ l.fn.inboxes) ×
    ((at : ℕ) → Exchanges at [] l.yielded (map (λ p. p.seen) l.fn.passes.items) (map (λ p. p.seen) l.passes.items)) ×
    (l.yielded ++ l.out-iterator.rest.items ≡ take l.fn.most l.fn.frames) ×
    PostedAll l.yielded (map (λ p. p.seen) l.fn.passes.items) (map (λ p. p.seen) l.passes.items)
