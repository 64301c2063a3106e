use Rattle.std.proofs.Common.{◌≡◌, ◌≤◌, ◌++◌, length, vec_capacity}
use Rattle.node_shell.proofs.disks.take_first.Given as goal

-- the disks taken so far, put back, are all disks
abbrev pub invariant-nodes : goal.invariant-nodes
invariant-nodes g l =
    (l.own.items ++ l.disks.items ≡ l.fn.disks.items) ×
    (length l.own.items ≡ l.counter) ×
    (l.nodes ≤ vec_capacity l.own) ×
    (vec_capacity l.disks ≡ vec_capacity l.fn.disks)
