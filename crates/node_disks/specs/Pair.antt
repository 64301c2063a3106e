-- The two disks of a node, as contracts see them.
use Rattle.outside.specs.Disk.{DiskSeen, alone, with_beside}
use Rattle.node_disks.specs.declared.pair.NodeDisks.{NodeDisks}

-- the first disk, with the second one beside it
abbrev pub pair_seen : {D : Type 0} → (D → DiskSeen) → NodeDisks D → DiskSeen
pair_seen seen disks = with_beside (seen disks.first) (alone (seen disks.second))
