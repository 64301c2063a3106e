use Rattle.std.proofs.Common.{◌≡◌, map, drop}
use Rattle.std.specs.Prelude.{option_map}
use Rattle.node_disks.specs.Pair.{pair_seen}
use Rattle.node_shell.specs.Runs.{StayIn, NoneFalls, AreNamed}
use Rattle.node_shell.proofs.openings.attach_all.Given as goal

-- the disks so far are left as making them ready leaves them, those behind all of these nodes' are untouched, and those before the node have their names
abbrev pub invariant-nodes : goal.invariant-nodes
invariant-nodes g l =
    StayIn (option_map (λ s. s.now) l.dir) (map (pair_seen g.B.Disk.seen) l.fn.disks.items) (map (pair_seen g.B.Disk.seen) l.disks.items) ×
    (drop l.nodes l.disks.items ≡ drop l.nodes l.fn.disks.items) ×
    AreNamed (option_map (λ s. s.now) l.dir) l.node (map (pair_seen g.B.Disk.seen) l.fn.disks.items) (map (pair_seen g.B.Disk.seen) l.disks.items) ×
    NoneFalls (map (pair_seen g.B.Disk.seen) l.fn.disks.items) (map (pair_seen g.B.Disk.seen) l.disks.items)
