use Rattle.std.proofs.Common.{◌≡◌, ◌≤◌, ◌+◌, ◌*◌, length, map, vec_capacity}
use Rattle.std.specs.List.{AllByRecursion}
use Rattle.net_model.specs.Environment.{meaning}
use Rattle.node_core.specs.Seen.{IsBy}
use Rattle.flow_workers.specs.Gathers.{Gathers}
use Rattle.flow_workers.proofs.locks.gather.Given as goal

abbrev pub invariant-desks : goal.invariant-desks
invariant-desks g l = record {
  can_next : (goal.iterator-desks g).can_next l.desk-iterator;
  is_finite : (goal.iterator-desks g).is_finite l.desk-iterator;
  of : map (λ p. p.of) l.own.items ≡ g.J.Call.inboxes;
  count : length l.nodes.items + length l.desk-iterator.rest.items ≡ length l.fn.desks.items;
  room : length l.fn.desks.items ≤ vec_capacity l.nodes;
  by : AllByRecursion (λ n. IsBy g.F.Spelt.reading n.journal g.J.Call.now) l.nodes.items;
  few : l.commits ≤ 65536 * length l.nodes.items;
  gathered : Gathers (meaning g.F.FlowSet.machine g.F.Spelt.reading g.J.Call.judge) g.J.Call.now g.J.Call.came (map (λ p. p.seen) l.fn.own.items) l.nodes.items (map (λ p. p.seen) l.own.items) l.commits;
}
