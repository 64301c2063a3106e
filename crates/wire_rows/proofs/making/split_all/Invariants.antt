use Rattle.std.proofs.Common.{◌≡◌, ◌++◌, map}
use Rattle.std.specs.List.{AllByRecursion}
use Rattle.wire_queue.specs.Wire.{fresh, fewer}
use Rattle.wire_rows.proofs.making.split_all.Given as goal

abbrev pub invariant-own : goal.invariant-own
invariant-own l =
    goal.iterator-own.can_next l.pass-iterator ×
    goal.iterator-own.is_finite l.pass-iterator ×
    (l.yielded ++ l.pass-iterator.rest.items ≡ l.fn.own.items) ×
    (map (λ p. p.of) l.kept.items ≡ map (λ p. p.of) l.yielded) ×
    (map (λ p. p.of) l.row.items ≡ map (λ p. p.of) l.yielded) ×
    (map (λ p. p.seen) l.kept.items ≡ map (λ p. fewer p.seen) l.yielded) ×
    AllByRecursion (λ p. p.seen ≡ fresh) l.row.items
