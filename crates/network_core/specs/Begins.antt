-- How a network begins: over disks of which it is known what they may leave.
use Rattle.std.specs.Prelude.{◌≡◌, ◌⊎◌, ℕ, ◌+◌, ◌<◌, ◌≤◌, true, false, List, [], ◌∷◌, length, map, slice_get, MatchOption, Option, Some, None, Result, Ok, Err}
use Rattle.std.specs.List.{AllByRecursion}
use Rattle.outside.specs.Disk.{DiskSeen, clean}
use Rattle.net_base.specs.declared.names.Identity.{Identity}
use Rattle.net_base.specs.declared.values.Party.{Party}
use Rattle.net_model.specs.Environment.{Environment, environment, party, Meaning}
use Rattle.node_tables.specs.Journals.{Reads, state_of}
use Rattle.node_core.specs.declared.faults.BootFault.{BootFault}
use Rattle.node_core.specs.declared.faults.BootFault.TheVariants as boot_fault
use Rattle.node_core.specs.Seen.{NodeSeen, BootsAs, GaveUp, IsBy, acks_over}
use Rattle.node_core.specs.Disks.{roomless}
use Rattle.network_core.specs.Worlds.{World, NodeWorld, NetSeen, MaySpell, Shows, AreOpenable, Coherent}

-- the identity of the node at a place of a network
abbrev pub member : ℕ → Party → ℕ → Identity
member nodes notary p = record { party = party p; nodes = nodes; notary = notary }

-- a node that was down is up on its journal, which every image spells, each of them sound; nothing is acknowledged, and no frame waits; a calm disk stays calm
pub record BeginsUp {F : Type 0} (e : Environment F) (x y : NodeWorld) : Type 0 where
  pub after : y ≡ record { up = true; journal = x.journal; other = None; faults = y.faults; calm = y.calm; file = x.file; openable = true; acked = acks_over e [] x.journal; waiting = [] }
  pub later : x.faults ≤ y.faults
  pub calm : x.calm ≡ true → y.calm ≡ true

-- a node's disk may leave no journal that it might not have left before, and but for a fault it keeps what it kept
pub record LeavesDisk (why : BootFault) (x y : NodeWorld) : Type 0 where
  pub down : y.up ≡ false
  pub lists : (l : List (List ℕ)) → MaySpell y l → MaySpell x l
  pub kept : (why ≡ boot_fault.Fault → ⊥) → y.journal ≡ x.journal
  pub later : x.faults ≤ y.faults
  pub file : y.file ≡ x.file
  pub openable : y.openable ≡ x.openable

-- a refused boot
abbrev pub no_boot : BootFault → Result (Unit {0}) BootFault
no_boot why = Err why

-- a boot that was not refused
abbrev pub came_up : Result (Unit {0}) BootFault
came_up = Ok tt

-- the moment of the last cause of a node's journal, 0 without one or where the node is down
abbrev pub IsLast : {F : Type 0} → Reads F → Option (List (List ℕ)) → ℕ → Type 0
IsLast frame_at journal last = MatchOption journal (last ≡ 0) (λ bodies. last ≡ (state_of frame_at bodies).moment)

-- the nodes before a place were booted, and the moment is the greatest of their last causes'
pub record BootsUpTo {F : Type 0} (frame_at : Reads F) (place now : ℕ) (old new : List NodeSeen) : Type 0 where
  pub count : length new ≡ length old
  pub done : (p : ℕ) (n k : NodeSeen) → p < place → slice_get old p ≡ Some n → slice_get new p ≡ Some k → BootsAs frame_at n came_up k
  pub rest : (p : ℕ) (n k : NodeSeen) → place ≤ p → slice_get old p ≡ Some n → slice_get new p ≡ Some k → k ≡ n
  pub latest : (p : ℕ) (n k : NodeSeen) → p < place → slice_get old p ≡ Some n → slice_get new p ≡ Some k → IsBy frame_at k.journal now
  pub reached : (now ≡ 0) ⊎ ((p : ℕ) × (k : NodeSeen) × (p < place) × (slice_get new p ≡ Some k) × IsLast frame_at k.journal now)

-- the nodes before a place were booted, the boot at that place was refused, and those behind it were left
pub record BootStops {F : Type 0} (frame_at : Reads F) (place : ℕ) (why : BootFault) (old new : List NodeSeen) : Type 0 where
  pub count : length new ≡ length old
  pub within : place < length old
  pub done : (p : ℕ) (n k : NodeSeen) → p < place → slice_get old p ≡ Some n → slice_get new p ≡ Some k → BootsAs frame_at n came_up k
  pub refused : (n k : NodeSeen) → slice_get old place ≡ Some n → slice_get new place ≡ Some k → BootsAs frame_at n (no_boot why) k
  pub rest : (p : ℕ) (n k : NodeSeen) → place < p → slice_get old p ≡ Some n → slice_get new p ≡ Some k → k ≡ n

-- a node that is down over a disk, at a place of a network
abbrev pub node_over : ℕ → Party → ℕ → DiskSeen → NodeSeen
node_over nodes notary p disk = record { identity = member nodes notary p; disk = roomless disk; journal = None; acked = [] }

-- nodes that are down over these disks, from a place on
abbrev pub nodes_over : ℕ → Party → ℕ → List DiskSeen → List NodeSeen
nodes_over nodes notary p [] = []
nodes_over nodes notary p (d ∷ ds) = node_over nodes notary p d ∷ nodes_over nodes notary (p + 1) ds

-- a network whose nodes are down over these disks, at a moment; no frame waits
abbrev pub net_over : ℕ → Party → ℕ → List DiskSeen → NetSeen
net_over nodes notary now disks = record { nodes = nodes_over nodes notary 0 disks; waiting = map (λ d. []) disks; now = now }

-- a disk that tells what it holds, which is nothing, with no write under way
pub record IsNew (d : DiskSeen) : Type 0 where
  pub tells : d.tells ≡ true
  pub kept : d.state.kept ≡ []
  pub settled : d.state.now ≡ clean []

-- over new disks a network whose nodes are down shows a coherent world, whatever its moment, and no opening refuses an image of them
abbrev pub NewDisksAreCoherent : (F : Type 0) → Type 0
NewDisksAreCoherent F = (m : Meaning F) (nodes : ℕ) (notary : Party) (now : ℕ) (disks : List DiskSeen) → length disks ≡ nodes → AllByRecursion IsNew disks
    → (w : World) × Shows (environment m (member nodes notary 0)) (net_over nodes notary now disks) w × Coherent (environment m (member nodes notary 0)) w × AreOpenable w

-- each node came up on its journal, and the moment is the greatest of their last causes', 0 without one
pub record Begun {F : Type 0} (e : Environment F) (w v : World) : Type 0 where
  pub count : length v.nodes ≡ length w.nodes
  pub each : (p : ℕ) (x y : NodeWorld) → slice_get w.nodes p ≡ Some x → slice_get v.nodes p ≡ Some y → BeginsUp e x y
  pub latest : (p : ℕ) (y : NodeWorld) → slice_get v.nodes p ≡ Some y → (state_of e.frame_at y.journal).moment ≤ v.now
  pub reached : (v.now ≡ 0) ⊎ ((p : ℕ) × (y : NodeWorld) × (slice_get v.nodes p ≡ Some y) × (v.now ≡ (state_of e.frame_at y.journal).moment))

-- from each coherent world over the disks, whatever its moment, a network begins in a coherent world in which every node is up
abbrev pub BeginsWorld : {F : Type 0} → Meaning F → ℕ → Party → List DiskSeen → NetSeen → Type 0
BeginsWorld m nodes notary disks net =
    let e = environment m (member nodes notary 0) in
    (now : ℕ) (w : World) → Shows e (net_over nodes notary now disks) w → Coherent e w → (v : World) × Shows e net v × Coherent e v × Begun e w v

-- the images of the disks spell no journals that they didn't spell before, and but for a fault what they keep is as before; where no image was one that an opening refuses, the boot that was refused gave up
pub record StayDown (why : BootFault) (w v : World) : Type 0 where
  pub count : length v.nodes ≡ length w.nodes
  pub each : (p : ℕ) (x y : NodeWorld) → slice_get w.nodes p ≡ Some x → slice_get v.nodes p ≡ Some y → LeavesDisk why x y
  pub gave_up : AreOpenable w → GaveUp why

-- the boot of the node at that place was refused, so, or memory ran out before all boots; those before it came up, and those behind it were left; the disks come back in order, each as its node left it; from each coherent world over
-- the disks they go to a coherent world over those that come back
pub record IsRefused {F : Type 0} (m : Meaning F) (nodes : ℕ) (notary : Party) (disks : List DiskSeen) (node : ℕ) (why : BootFault) (back : List DiskSeen) : Type 0 where
  pub count : length back ≡ length disks
  pub refused : ((why ≡ boot_fault.Memory) × (node ≡ 0) × (back ≡ disks))
      ⊎ ((d : DiskSeen) × (b : DiskSeen) × (slice_get disks node ≡ Some d) × (slice_get back node ≡ Some b) × BootsAs m.frame_at (node_over nodes notary node d) (no_boot why) (node_over nodes notary node b))
  pub earlier : (p : ℕ) (d b : DiskSeen) → p < node → slice_get disks p ≡ Some d → slice_get back p ≡ Some b → (k : NodeSeen) × BootsAs m.frame_at (node_over nodes notary p d) came_up k × (roomless b ≡ k.disk)
  pub later : (p : ℕ) (d b : DiskSeen) → node < p → slice_get disks p ≡ Some d → slice_get back p ≡ Some b → roomless b ≡ roomless d
  pub world : let e = environment m (member nodes notary 0) in
      (now : ℕ) (w : World) → Shows e (net_over nodes notary now disks) w → Coherent e w → (v : World) × Shows e (net_over nodes notary now back) v × Coherent e v × StayDown why w v
