-- What leads from a network with its world to another one where nodes are worked on side by side in between.
use Rattle.std.specs.Prelude.{◌≡◌, ◌≤◌, ◌⊎◌, ℕ, suc, List, map, slice_get, Some}
use Rattle.net_base.specs.declared.causes.Cause.{Cause}
use Rattle.net_base.specs.declared.values.Party.{Party}
use Rattle.net_base.specs.declared.names.Key.{Key}
use Rattle.net_base.specs.declared.names.Identity.{Identity}
use Rattle.session_wire.specs.Frames.{IsFrame, frame}
use Rattle.session_wire.specs.declared.frame.Frame.TheVariants.{Ack}
use Rattle.net_model.specs.Environment.{Environment, environment, Meaning}
use Rattle.net_model.specs.Runs.{merged}
use Rattle.node_tables.specs.Journals.{causes_of}
use Rattle.node_core.specs.Disks.{Image, spelt}
use Rattle.network_core.specs.Acknowledged.{Reaches, Acknowledged, StandsOnce}
use Rattle.network_core.specs.Drains.{Pair}
use Rattle.network_core.specs.Moments.{Instant, IsChoice, IsKept}
use Rattle.network_core.specs.Ways.{Way, IsOn}
use Rattle.network_core.specs.Worlds.{NodeWorld, World, Choice, states_of, came_at, Coherent}
use Rattle.work_law.specs.Works.{Works, WorldWorks}

-- ---- worlds

-- worlds that steps, turns, posts and deliveries lead to, and work side by side between them
pub data Attains {F : Type 0} (e : Environment F) : World → World → Type 0 where
  by_steps : {w v : World} → Reaches e w v → Attains e w v
  by_work : {w u x v : World} (commits : ℕ) → Attains e w u → WorldWorks commits u x → Coherent e x → Reaches e x v → Attains e w v

-- each world that a coherent one leads to is coherent
abbrev pub AttainedAreCoherent : (F : Type 0) → Type 0
AttainedAreCoherent F = (e : Environment F) (w v : World) → Coherent e w → Attains e w v → Coherent e v

-- what is acknowledged in a coherent world stands once in the merged journals of each world that it leads to so, whichever journals power cuts leave of that one
abbrev pub AcknowledgedIsKept : (F : Type 0) → Type 0
AcknowledgedIsKept F = (e : Environment F) (w v : World) → Coherent e w → Attains e w v → (lists : List (List (List ℕ))) → Choice v lists → (p : ℕ) (cause : Cause) → Acknowledged e w p cause
    → StandsOnce (p, cause) (merged (map (causes_of e.frame_at) lists))

-- in each world that a coherent one attains, whichever journals power cuts leave of it, at least as many items have arrived as an acknowledgement
-- tells of that waits in the coherent one: also where the frame was lost since, or the node that posted it is down
abbrev pub AcksAreKept : (F : Type 0) → Type 0
AcksAreKept F = (e : Environment F) (w v : World) → Coherent e w → Attains e w v → (lists : List (List (List ℕ))) → Choice v lists
    → (q : ℕ) (y : NodeWorld) → slice_get w.nodes q ≡ Some y → (from to : Party) (key : Key) (direction upto place : ℕ) → IsFrame (Ack from to key direction upto)
    → slice_get y.waiting place ≡ Some (frame (Ack from to key direction upto)) → upto ≤ came_at (states_of e lists) from.0 key

-- ---- networks with their worlds

-- a network and its world were worked on side by side
pub record PairWorks {F : Type 0} (m : Meaning F) (id : Identity) (commits : ℕ) (a b : Pair (environment m id)) : Type 0 where
  pub works : Works m a.net.now a.net.nodes a.net.waiting b.net.nodes b.net.waiting commits
  pub world : WorldWorks commits a.world b.world

-- ways, one after another, with work side by side between one and the next
pub data Passage {F : Type 0} (m : Meaning F) (id : Identity) : Pair (environment m id) → Pair (environment m id) → Type 0 where
  goes : {a b : Pair (environment m id)} → Way m id a b → Passage m id a b
  works : {a b c d : Pair (environment m id)} (commits : ℕ) → Passage m id a b → PairWorks m id commits b c → Way m id c d → Passage m id a d

-- how many times the nodes were worked on side by side
abbrev pub times_worked : {F : Type 0} {m : Meaning F} {id : Identity} {a b : Pair (environment m id)} → Passage m id a b → ℕ
times_worked (goes way) = 0
times_worked (works commits before work way) = suc (times_worked before)

-- without such work a passage is a way
abbrev pub UnworkedAreWays : (F : Type 0) → Type 0
UnworkedAreWays F = (m : Meaning F) (id : Identity) (a b : Pair (environment m id)) (passage : Passage m id a b) → times_worked passage ≡ 0 → (way : Way m id a b) × (passage ≡ goes way)

-- what the disks could leave at a moment on one of these ways. Of a moment within the work nothing is said here, since there each disk goes on by itself:
-- what each of them alone could leave then is a law of its node (`Lasts`)
abbrev pub IsPassed : {F : Type 0} {m : Meaning F} {id : Identity} {a b : Pair (environment m id)} → Passage m id a b → Instant → Type 0
IsPassed (goes way) s = IsOn way s
IsPassed (works commits before work way) s = IsPassed before s ⊎ IsOn way s

-- at every such moment, whichever images power cuts leave of the disks, all is as `IsKept` says
abbrev pub KeptOnPassages : (F : Type 0) → Type 0
KeptOnPassages F = (m : Meaning F) (id : Identity) (a b : Pair (environment m id)) (passage : Passage m id a b) (s : Instant) → IsPassed passage s → IsKept (environment m id) a.net s

-- and what is acknowledged as it begins stands once in the merged journals
abbrev pub AcknowledgedOnPassages : (F : Type 0) → Type 0
AcknowledgedOnPassages F = (m : Meaning F) (id : Identity) (a b : Pair (environment m id)) (passage : Passage m id a b) (s : Instant) → IsPassed passage s → (images : List Image) → IsChoice s images
    → (p : ℕ) (cause : Cause) → Acknowledged (environment m id) a.world p cause → StandsOnce (p, cause) (merged (map (causes_of m.frame_at) (map spelt images)))
