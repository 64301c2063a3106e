use Rattle.std.proofs.Common.{◌≡◌, ◌+◌, ◌≤◌, ◌++◌, length, vec_capacity}
use Rattle.node_shell.proofs.disks.put_back.Given as goal

-- those that are left, put back too, give what all give
abbrev pub invariant-nodes : goal.invariant-nodes
invariant-nodes g l =
    (l.own.items ++ l.disks.items ≡ l.fn.own.items ++ l.fn.disks.items) ×
    (length l.own.items + length l.disks.items ≤ vec_capacity l.disks)

abbrev pub decreases-nodes : goal.decreases-nodes
decreases-nodes g l = length l.own.items
