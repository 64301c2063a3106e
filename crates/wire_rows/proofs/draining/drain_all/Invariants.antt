use Rattle.std.proofs.Common.{◌≡◌, ◌≤◌, ◌++◌, ℕ, [], length, map, vec_capacity}
use Rattle.std.specs.List.{AllByRecursion}
use Rattle.wire_rows.specs.Exchanges.{Exchanges}
use Rattle.wire_rows.specs.Ends.{Drained, IsRoom}
use Rattle.wire_rows.proofs.draining.drain_all.Given as goal

abbrev pub invariant-lists : goal.invariant-lists
invariant-lists g l = record {
  can_next : (goal.iterator-lists g).can_next l.list-iterator;
  is_finite : (goal.iterator-lists g).is_finite l.list-iterator;
  all : l.yielded ++ l.list-iterator.rest.items ≡ l.fn.rooms.items;
  rooms : AllByRecursion IsRoom l.list-iterator.rest.items;
  of : map (λ p. p.of) l.own.items ≡ l.fn.inboxes;
  count : length l.lists.items ≡ length l.yielded;
  few : AllByRecursion (λ v. length v.items ≤ 1024) l.lists.items;
  room : length l.fn.inboxes ≤ vec_capacity l.lists;
  moves : (at : ℕ) → Exchanges at [] [] (map (λ p. p.seen) l.fn.own.items) (map (λ p. p.seen) l.own.items);
  left : Drained (length l.lists.items) (map (λ v. v.items) l.lists.items) (map (λ p. p.seen) l.fn.own.items) (map (λ p. p.seen) l.own.items);
}
