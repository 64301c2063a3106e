-- What power cuts may leave of all disks of a network at every moment of a call.
use Rattle.std.specs.Prelude.{◌≡◌, ℕ, List, ◌∷◌, [], ◌++◌, length, map, drop, slice_get, Contains, Some}
use Rattle.outside.specs.Disk.{DiskState, Durable, moment}
use Rattle.disk_journal.specs.Journal.{IsSound, IsYoung}
use Rattle.net_base.specs.declared.causes.Cause.{Cause}
use Rattle.net_model.specs.Environment.{Environment}
use Rattle.net_model.specs.Runs.{IsFaithful}
use Rattle.node_tables.specs.Journals.{records_of, causes_of}
use Rattle.node_core.specs.Disks.{Image, MayLeave, LeavesSound, IsOpenable, spelt}
use Rattle.node_core.specs.Seen.{NodeSeen}
use Rattle.network_core.specs.Worlds.{World, NetSeen, Choice, Coherent}

-- ---- instants

-- what each disk could leave at one moment, in the order of places
abbrev pub Instant : Type 0
Instant = List Durable

-- a moment of one disk since it was in the state d, where it is in the state e now: that of e, or one between
abbrev pub IsSince : DiskState → DiskState → Durable → Type 0
IsSince d e s = Contains (drop (moment d) (e.past ++ e.now ∷ [])) s

-- what the disks of a network could leave now
abbrev pub now_of : NetSeen → Instant
now_of net = map (λ n. n.disk.state.now) net.nodes

-- what the disks could leave at a moment between two networks of which one disk went on: each disk is at a moment of its own since
pub record IsBetween (old new : NetSeen) (s : Instant) : Type 0 where
  pub count : length s ≡ length old.nodes
  pub each : (q : ℕ) (n k : NodeSeen) (d : Durable) → slice_get old.nodes q ≡ Some n → slice_get new.nodes q ≡ Some k → slice_get s q ≡ Some d → IsSince n.disk.state k.disk.state d

-- the disk at one place went on at most, and the others rested; so the moments of that one are those of the network
pub record OneMoves (old new : NetSeen) : Type 0 where
  pub count : length new.nodes ≡ length old.nodes
  pub place : ℕ
  pub rest : (q : ℕ) (n k : NodeSeen) → slice_get old.nodes q ≡ Some n → slice_get new.nodes q ≡ Some k → (q ≡ place → ⊥) → k.disk.state ≡ n.disk.state
  pub goes : (n k : NodeSeen) → slice_get old.nodes place ≡ Some n → slice_get new.nodes place ≡ Some k → (since : List Durable) × (k.disk.state.past ≡ n.disk.state.past ++ since)

-- ---- what is said of an instant

-- one image of each disk
pub record IsChoice (s : Instant) (images : List Image) : Type 0 where
  pub count : length images ≡ length s
  pub each : (q : ℕ) (d : Durable) (c : Image) → slice_get s q ≡ Some d → slice_get images q ≡ Some c → MayLeave d c

-- the causes of an image begin with those of an image that the node's disk had then
abbrev pub Begins : {F : Type 0} → Environment F → NodeSeen → Image → Type 0
Begins e n c = (b : Image) × MayLeave n.disk.state.now b × (rest : List Cause) × (causes_of e.frame_at (spelt c) ≡ causes_of e.frame_at (spelt b) ++ rest)

-- every image of the node's disk is sound
abbrev pub AreSound : NodeSeen → Type 0
AreSound n = LeavesSound n.identity n.disk

-- a coherent world may spell these journals, one of each node
pub record MayBeSpelt {F : Type 0} (e : Environment F) (lists : List (List (List ℕ))) : Type 0 where
  pub world : World
  pub coherent : Coherent e world
  pub choice : Choice world lists

-- Whichever images power cuts leave at an instant, one of each disk, their journals are those of one run, and a coherent world may spell them; the causes
-- of each begin with those that an image of its disk spelt in the old network; and where each of a node's images was sound there, each is, and where each was
-- the node's own, begun or not, each is so.
pub record IsKept {F : Type 0} (e : Environment F) (old : NetSeen) (s : Instant) : Type 0 where
  pub count : length s ≡ length old.nodes
  pub faithful : (images : List Image) → IsChoice s images → IsFaithful e (map (records_of e.frame_at) (map spelt images))
  pub world : (images : List Image) → IsChoice s images → MayBeSpelt e (map spelt images)
  pub begins : (q : ℕ) (n : NodeSeen) (d : Durable) (c : Image) → slice_get old.nodes q ≡ Some n → slice_get s q ≡ Some d → MayLeave d c → Begins e n c
  pub sound : (q : ℕ) (n : NodeSeen) (d : Durable) (c : Image) → slice_get old.nodes q ≡ Some n → AreSound n → slice_get s q ≡ Some d → MayLeave d c → IsSound n.identity c
  pub young : (q : ℕ) (n : NodeSeen) (d : Durable) (c : Image) → slice_get old.nodes q ≡ Some n → IsOpenable n.identity n.disk → slice_get s q ≡ Some d → MayLeave d c → IsYoung n.identity c
