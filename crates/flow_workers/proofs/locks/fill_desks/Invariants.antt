use Rattle.std.proofs.Common.{◌≡◌, ◌≤◌, ◌++◌, length, map, vec_capacity}
use Rattle.std.specs.List.{AllByRecursion}
use Rattle.node_core.specs.Seen.{IsBy}
use Rattle.wire_queue.specs.Wire.{fresh}
use Rattle.flow_workers.proofs.locks.fill_desks.Given as goal

abbrev pub invariant-nodes : goal.invariant-nodes
invariant-nodes g l = record {
  can_next : (goal.iterator-nodes g).can_next l.node-iterator;
  is_finite : (goal.iterator-nodes g).is_finite l.node-iterator;
  all : l.yielded ++ l.node-iterator.rest.items ≡ l.fn.nodes.items;
  count : length l.desks.items ≡ length l.yielded;
  left : length l.rows.items ≡ length l.node-iterator.rest.items;
  room : length l.fn.nodes.items ≤ vec_capacity l.desks;
  by : AllByRecursion (λ n. IsBy g.F.Spelt.reading n.journal g.J.Call.now) l.node-iterator.rest.items;
  rows : AllByRecursion (λ row. (map (λ p. p.of) row.items ≡ g.J.Call.inboxes) × AllByRecursion (λ p. p.seen ≡ fresh) row.items) l.rows.items;
}
