-- What power cuts left of a network's disks at a moment, as the disks that a network begins over.
use Rattle.std.specs.Prelude.{◌≡◌, ℕ, true, List, length, slice_get, Some}
use Rattle.outside.specs.Disk.{DiskSeen, clean}
use Rattle.net_base.specs.declared.names.Identity.{Identity}
use Rattle.net_model.specs.Environment.{Environment, environment, Meaning}
use Rattle.node_core.specs.Disks.{Image}
use Rattle.network_core.specs.Begins.{net_over}
use Rattle.network_core.specs.Drains.{Pair}
use Rattle.network_core.specs.Moments.{Instant, IsChoice, IsKept}
use Rattle.network_core.specs.Worlds.{World, Shows, AreOpenable, Coherent}

-- each of these disks tells that it holds the image at its place, with no write under way
pub record HoldImages (disks : List DiskSeen) (images : List Image) : Type 0 where
  pub count : length disks ≡ length images
  pub tells : (p : ℕ) (d : DiskSeen) → slice_get disks p ≡ Some d → d.tells ≡ true
  pub kept : (p : ℕ) (d : DiskSeen) (c : Image) → slice_get disks p ≡ Some d → slice_get images p ≡ Some c → d.state.kept ≡ c
  pub settled : (p : ℕ) (d : DiskSeen) (c : Image) → slice_get disks p ≡ Some d → slice_get images p ≡ Some c → d.state.now ≡ clean c

-- a network whose nodes are down over these disks shows a coherent world; and under a condition no opening refuses an image of them
abbrev pub MayBegin : {F : Type 0} → Environment F → List DiskSeen → Type 0 → Type 0
MayBegin e disks condition = (w : World) × Shows e (net_over e.nodes e.notary w.now disks) w × Coherent e w × (condition → AreOpenable w)

-- So it is over disks that hold what power cuts left, an image of each disk, at a moment of which all is as `IsKept` says; no opening refuses one, where none
-- refused an image of the network's disks before.
abbrev pub LeftIsCoherent : (F : Type 0) → Type 0
LeftIsCoherent F = (m : Meaning F) (id : Identity) (a : Pair (environment m id)) (s : Instant) (images : List Image) (disks : List DiskSeen)
    → IsKept (environment m id) a.net s → IsChoice s images → HoldImages disks images → MayBegin (environment m id) disks (AreOpenable a.world)
