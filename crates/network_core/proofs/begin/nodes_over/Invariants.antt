use Rattle.std.proofs.Common.{◌≤◌, length, vec_capacity}
use Rattle.network_core.proofs.Loops.{Making}
use Rattle.network_core.proofs.begin.nodes_over.Given as goal

abbrev pub invariant-disks : goal.invariant-disks
invariant-disks g l =
    (goal.iterator-disks g).can_next l.disk-iterator ×
    (goal.iterator-disks g).is_finite l.disk-iterator ×
    Making g.D.Disk.seen l.fn.nodes l.fn.notary l.fn.disks.items l.made.items l.place l.disk-iterator.rest.items ×
    (length l.fn.disks.items ≤ vec_capacity l.made)
