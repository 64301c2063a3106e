use Rattle.std.proofs.Common.{◌≤◌, length, vec_capacity}
use Rattle.network_core.proofs.Loops.{Handing}
use Rattle.network_core.proofs.begin.disks_of.Given as goal

abbrev pub invariant-nodes : goal.invariant-nodes
invariant-nodes g l =
    (goal.iterator-nodes g).can_next l.node-iterator ×
    (goal.iterator-nodes g).is_finite l.node-iterator ×
    Handing g.D.Disk.seen l.fn.nodes.items l.disks.items l.node-iterator.rest.items ×
    (length l.fn.nodes.items ≤ vec_capacity l.disks)
