-- Power and fuse are the disk's, whatever its room.
use Rattle.std.proofs.Common.{ℕ}
use Rattle.outside.specs.Disk.{DiskSeen, Burns, BurnsUpTo}
use Rattle.node_core.specs.Disks.{roomless}
use Rattle.node_core.specs.Seen.{AppendsWithPower}

pub burns_roomless : (calls : ℕ) (old new : DiskSeen) → Burns calls old new → Burns calls (roomless old) (roomless new)
burns_roomless calls old new b = record { fuse = b.fuse; power = b.power }

pub up_to_roomless : (most : ℕ) (old new : DiskSeen) → BurnsUpTo most old new → BurnsUpTo most (roomless old) (roomless new)
up_to_roomless most old new b = (b.0, b.1, burns_roomless b.0 old new b.2)

pub powered_roomless : (old new : DiskSeen) → AppendsWithPower old new → AppendsWithPower (roomless old) (roomless new)
powered_roomless old new p = record { burns = burns_roomless 4 old new p.burns; before = p.before; after = p.after }
