-- The disks that a run begins with.
use Rattle.std.specs.Prelude.{◌≡◌, [], true, None}
use Rattle.outside.specs.Disk.{DiskSeen, clean}
use Rattle.node_disks.specs.declared.pair.NodeDisks.{NodeDisks}
use Rattle.node_disks.specs.Pair.{pair_seen}
use Rattle.network_core.specs.Begins.{IsNew}

-- an empty disk tells what it holds, which is nothing, is calm and without faults, and has power and no fuse
pub record IsEmpty (d : DiskSeen) : Type 0 where
  pub tells : d.tells ≡ true
  pub state : d.state ≡ record { kept = []; now = clean []; past = [] }
  pub calm : d.calm ≡ true
  pub power : d.power ≡ true
  pub fuse : d.fuse ≡ None
  pub faults : d.faults ≡ 0

-- both disks of a node are empty, and what a network sees of them is a new disk
pub record AreEmpty (disks : NodeDisks DiskSeen) : Type 0 where
  pub first : IsEmpty disks.first
  pub second : IsEmpty disks.second
  pub new : IsNew (pair_seen (λ d. d) disks)
