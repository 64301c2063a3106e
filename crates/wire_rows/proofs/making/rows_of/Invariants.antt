use Rattle.std.proofs.Common.{◌≡◌, ◌≤◌, ◌+◌, ℕ, List, length, map}
use Rattle.std.specs.List.{AllByRecursion}
use Rattle.wire_queue.specs.Wire.{fresh}
use Rattle.wire_rows.specs.Rows.{Spread, given_of}
use Rattle.wire_rows.proofs.making.rows_of.Given as goal

abbrev pub invariant-rows : goal.invariant-rows
invariant-rows l = record {
  below : l.counter ≤ l.fn.count;
  count : length l.rows.items ≡ l.counter;
  of : map (λ p. p.of) l.kept.items ≡ l.fn.inboxes;
  shares : AllByRecursion (λ p. p.seen.shares + l.counter ≡ 32) l.kept.items;
  rows : AllByRecursion (λ row. (map (λ p. p.of) row.items ≡ l.fn.inboxes) × AllByRecursion (λ p. p.seen ≡ fresh) row.items) l.rows.items;
  kept : map (λ p. p.seen) l.kept.items ≡ map (λ p. given_of l.counter p.seen) l.fn.own.items;
  spread : (waited : List (List (List ℕ))) → Spread waited 0 (map (λ p. p.seen) l.fn.own.items) → Spread waited l.counter (map (λ p. p.seen) l.kept.items);
}
