-- What nodes did side by side, and what it makes of a world.
use Rattle.std.specs.Prelude.{◌≡◌, ◌⊎◌, ℕ, ◌+◌, ◌≤◌, Bool, true, false, List, [], ◌∷◌, ◌++◌, length, map, slice_get, Some}
use Rattle.outside.specs.Faults.{Rose}
use Rattle.net_base.specs.declared.names.Identity.{Identity}
use Rattle.session_frames.specs.declared.sending.Outgoing.{Outgoing}
use Rattle.wire_queue.specs.Wire.{Frame, IsIn}
use Rattle.wire_rows.specs.Exchanges.{SentTo}
use Rattle.net_model.specs.Environment.{Meaning, environment}
use Rattle.node_core.specs.Seen.{NodeSeen}
use Rattle.network_core.specs.Worlds.{NodeWorld, World, MaySpell, Shows, Coherent}
use Rattle.work_law.specs.Calls.{Went}

-- ---- what the nodes did

-- what a node did: the frames that it took and that it sent, and how many records it committed
pub record Log : Type 0 where
  pub took : List Frame
  pub sent : List Outgoing
  pub count : ℕ

-- the numbers, added up
abbrev pub added : List ℕ → ℕ
added [] = 0
added (n ∷ ns) = n + added ns

-- a frame at a place waited there as the call began, or some node sent it there
abbrev pub Source : List (List Frame) → List Log → ℕ → Frame → Type 0
Source waited logs q x =
    ((frames : List Frame) × (slice_get waited q ≡ Some frames) × IsIn x frames)
    ⊎ ((r : ℕ) × (log : Log) × (slice_get logs r ≡ Some log) × SentTo q x log.sent)

-- each node of a list did what its log says
abbrev pub DidEach : {F : Type 0} → Meaning F → ℕ → List NodeSeen → List NodeSeen → List Log → Type 0
DidEach m now came nodes logs = (p : ℕ) (n : NodeSeen) (log : Log) → slice_get nodes p ≡ Some n → slice_get logs p ≡ Some log → (from : NodeSeen) × (slice_get came p ≡ Some from) × Went m now from n log.took log.sent log.count

-- what work side by side made of the nodes and of what waits at them: each node went on by calls that are answered as their clauses say, each frame that
-- one took had waited at it or been sent to it, and so had each frame that waits now
pub record Works {F : Type 0} (m : Meaning F) (now : ℕ) (came : List NodeSeen) (waited : List (List Frame)) (nodes : List NodeSeen) (waiting : List (List Frame)) (commits : ℕ) : Type 0 where
  pub logs : List Log
  pub count : length nodes ≡ length came
  pub lists : length waiting ≡ length waited
  pub logged : length logs ≡ length nodes
  pub each : DidEach m now came nodes logs
  pub took : (p : ℕ) (log : Log) → slice_get logs p ≡ Some log → (x : Frame) → IsIn x log.took → Source waited logs p x
  pub left : (q : ℕ) (frames : List Frame) → slice_get waiting q ≡ Some frames → (x : Frame) → IsIn x frames → Source waited logs q x
  pub committed : commits ≡ added (map (λ (log : Log). log.count) logs)

-- ---- what it makes of a world

-- 1 where a node went down, else 0
abbrev pub fell : Bool → Bool → ℕ
fell false up = 0
fell true true = 0
fell true false = 1

-- the journal goes on from the other one by this many records, and by this many more at most
pub record Grows (count most : ℕ) (old l : List (List ℕ)) : Type 0 where
  pub more : List (List ℕ)
  pub front : l ≡ old ++ more
  pub least : count ≤ length more
  pub bound : length more ≤ count + most

-- what stays of a node, whose disk's count never falls
pub record Stays (x z : NodeWorld) : Type 0 where
  pub down : x.up ≡ false → z ≡ record x { waiting = z.waiting }
  -- it goes down only where its disk's count rose
  pub rose : x.up ≡ true → z.up ≡ false → Rose x.faults z.faults
  pub later : x.faults ≤ z.faults
  pub calm : x.calm ≡ true → (z.calm ≡ true) × (z.up ≡ x.up)
  pub file : z.file ≡ x.file
  pub openable : x.openable ≡ true → z.openable ≡ true

-- a node that committed this many records: each journal that its images may spell goes on by them from one that they might spell before, and where it went down by one more at most
pub record NodeWorks (count : ℕ) (x z : NodeWorld) : Type 0 where
  pub lists : (l : List (List ℕ)) → MaySpell z l → (old : List (List ℕ)) × MaySpell x old × Grows count (fell x.up z.up) old l
  pub stays : Stays x z

-- all nodes of a world, which committed this many records together
pub record WorldWorks (commits : ℕ) (w v : World) : Type 0 where
  pub now : v.now ≡ w.now
  pub nodes : length v.nodes ≡ length w.nodes
  pub counts : List ℕ
  pub counted : length counts ≡ length w.nodes
  pub each : (p n : ℕ) (x z : NodeWorld) → slice_get counts p ≡ Some n → slice_get w.nodes p ≡ Some x → slice_get v.nodes p ≡ Some z → NodeWorks n x z
  pub sum : commits ≡ added counts

-- ---- the law

-- from each coherent world that the nodes showed they go to a coherent world that they show
abbrev pub KeepsCoherent : {F : Type 0} → Meaning F → ℕ → List NodeSeen → List (List Frame) → List NodeSeen → List (List Frame) → ℕ → Type 0
KeepsCoherent m now came waited nodes waiting commits = (id : Identity) (w : World) → Shows (environment m id) (record { nodes = came; waiting = waited; now = now }) w → Coherent (environment m id) w
    → (v : World) × Shows (environment m id) (record { nodes = nodes; waiting = waiting; now = now }) v × Coherent (environment m id) v × WorldWorks commits w v

abbrev pub WorksCoherently : (F : Type 0) → Type 0
WorksCoherently F = (m : Meaning F) (now commits : ℕ) (came nodes : List NodeSeen) (waited waiting : List (List Frame)) → Works m now came waited nodes waiting commits → KeepsCoherent m now came waited nodes waiting commits
