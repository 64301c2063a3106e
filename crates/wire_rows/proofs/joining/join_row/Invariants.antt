use Rattle.std.proofs.Common.{◌≡◌, ◌++◌, length, map}
use Rattle.wire_rows.proofs.Joins.{join_front}
use Rattle.wire_rows.proofs.joining.join_row.Given as goal

abbrev pub invariant-row : goal.invariant-row
invariant-row l =
    goal.iterator-row.can_next l.pass-iterator ×
    goal.iterator-row.is_finite l.pass-iterator ×
    (l.at ≡ length l.yielded) ×
    (map (λ p. p.of) l.own.items ≡ l.fn.inboxes) ×
    (l.yielded ++ l.pass-iterator.rest.items ≡ l.fn.row.items) ×
    (map (λ p. p.seen) l.own.items ≡ join_front (map (λ p. p.seen) l.fn.own.items) (map (λ p. p.seen) l.yielded))
