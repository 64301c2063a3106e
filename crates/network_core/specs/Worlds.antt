-- The network as a record of plain lists, with what its disks may leave.
use Rattle.std.specs.Prelude.{◌≡◌, ◌⊎◌, ℕ, ◌≤◌, Bool, true, false, List, length, map, slice_get, Option, Some, None, option_and_then}
use Rattle.std.specs.Option.{option_map_or}
use Rattle.std.specs.List.{AllByRecursion}
use Rattle.net_base.specs.declared.names.Identity.{Identity}
use Rattle.net_base.specs.declared.names.Key.{Key}
use Rattle.session_wire.specs.Frames.{IsFrame, frame}
use Rattle.session_wire.specs.Sessions.{Session, session_of}
use Rattle.session_wire.specs.declared.frame.Frame.{Frame}
use Rattle.session_wire.specs.declared.frame.Frame.TheVariants.{Message, Ack}
use Rattle.session_frames.specs.Sending.{addressee}
use Rattle.net_model.specs.Environment.{Environment, environment, identity, Meaning}
use Rattle.net_model.specs.State.{NodeState}
use Rattle.net_model.specs.Runs.{IsLocal, IsMatched, IsFaithful, network_of, item_from}
use Rattle.node_tables.specs.Journals.{records_of, state_of, causes_of}
use Rattle.node_core.specs.Disks.{EachNow, IsOpenable, kept_journal, spelt}
use Rattle.node_core.specs.Seen.{NodeSeen}

-- what contracts see of a network
pub record NetSeen : Type 0 where
  -- in the order of their places
  pub nodes : List NodeSeen
  -- the frames that wait at each node, in the order in which they came
  pub waiting : List (List (List ℕ))
  pub now : ℕ

-- one node of a world
pub record NodeWorld : Type 0 where
  pub up : Bool
  -- the journal that its disk keeps, by the bodies of its records
  pub journal : List (List ℕ)
  -- the second journal that a power cut may leave, where there is one
  pub other : Option (List (List ℕ))
  -- of its disk
  pub faults : ℕ
  pub calm : Bool
  -- the disk is a file
  pub file : Bool
  -- no image of the disk is one that the node's own opening refuses, as no journal, another node's or a damaged one; false where that isn't known
  pub openable : Bool
  -- how many of the items that it sent are acknowledged, session by session; none while it is down
  pub acked : List ℕ
  -- the frames that wait at it, in the order in which they came
  pub waiting : List (List ℕ)

-- a world: its nodes in the order of their places, and its moment
pub record World : Type 0 where
  pub nodes : List NodeWorld
  pub now : ℕ

-- ---- a network shows a world

-- an image of the node's disk may spell this journal
abbrev pub MaySpell : NodeWorld → List (List ℕ) → Type 0
MaySpell x l = (l ≡ x.journal) ⊎ (x.other ≡ Some l)

-- a node that is up has its journal in every image
abbrev pub ShowsJournal : Option (List (List ℕ)) → NodeWorld → Type 0
ShowsJournal None x = x.up ≡ false
ShowsJournal (Some bodies) x = (x.up ≡ true) × (x.journal ≡ bodies) × (x.other ≡ None)

-- the node at a place stands in the world as this; its disk tells its content
pub record NodeShows {F : Type 0} (e : Environment F) (p : ℕ) (n : NodeSeen) (x : NodeWorld) : Type 0 where
  pub identity_is : n.identity ≡ identity e p
  pub tells : n.disk.tells ≡ true
  pub images : EachNow n.disk (λ c. MaySpell x (spelt c))
  pub kept : kept_journal n.disk ≡ x.journal
  pub journal : ShowsJournal n.journal x
  pub counts : x.faults ≡ n.disk.faults
  pub calm_is : x.calm ≡ n.disk.calm
  pub file_is : x.file ≡ n.disk.of_file
  pub acked_is : x.acked ≡ n.acked
  pub opens : x.openable ≡ true → IsOpenable n.identity n.disk

-- a network stands in the world as this, node by node
pub record Shows {F : Type 0} (e : Environment F) (net : NetSeen) (w : World) : Type 0 where
  pub count : length w.nodes ≡ length net.nodes
  pub each : (p : ℕ) (n : NodeSeen) (x : NodeWorld) → slice_get net.nodes p ≡ Some n → slice_get w.nodes p ≡ Some x → NodeShows e p n x
  pub waiting : map (λ (x : NodeWorld). x.waiting) w.nodes ≡ net.waiting
  pub clock : w.now ≡ net.now

-- of no node's disk there is an image that the node's own opening refuses
abbrev pub AreOpenable : World → Type 0
AreOpenable w = (p : ℕ) (x : NodeWorld) → slice_get w.nodes p ≡ Some x → x.openable ≡ true

-- ---- coherent worlds

-- one journal for each node, each of which the node's images may spell
pub record Choice (w : World) (lists : List (List (List ℕ))) : Type 0 where
  pub count : length lists ≡ length w.nodes
  pub each : (p : ℕ) (x : NodeWorld) (l : List (List ℕ)) → slice_get w.nodes p ≡ Some x → slice_get lists p ≡ Some l → MaySpell x l

-- the states that these journals make
abbrev pub states_of : {F : Type 0} → Environment F → List (List (List ℕ)) → List (NodeState F)
states_of e lists = map (state_of e.frame_at) lists

-- how many items arrived at a node in the session of a key, 0 without one
abbrev pub came_at : {F : Type 0} → List (NodeState F) → ℕ → Key → ℕ
came_at net p key = option_map_or (λ s. length s.came) (option_and_then (λ s. session_of key s.sessions) (slice_get net p)) 0

-- a frame tells what is: a message carries an item that its sender has for its addressee, and an acknowledgement is of no more items than arrived
abbrev pub IsTrue : {F : Type 0} → List (NodeState F) → Frame → Type 0
IsTrue net (Message from to key direction seq stamp body) = item_from net to.0 from.0 key seq ≡ Some (record { body = body; stamp = stamp })
IsTrue net (Ack from to key direction upto) = upto ≤ came_at net from.0 key

-- what waits at a node is a frame to it, and it tells what is
pub record WaitsAt {F : Type 0} (net : List (NodeState F)) (m : ℕ) (bytes : List ℕ) : Type 0 where
  pub carried : Frame
  pub lawful : IsFrame carried
  pub whole : bytes ≡ frame carried
  pub to : (addressee carried).0 ≡ m
  pub true_is : IsTrue net carried

-- no more items of a session are acknowledged than arrived at its other side
abbrev pub AreArrived : {F : Type 0} → List (NodeState F) → List Session → List ℕ → Type 0
AreArrived net sessions acked = (i : ℕ) (session : Session) (n : ℕ) → slice_get sessions i ≡ Some session → slice_get acked i ≡ Some n → n ≤ came_at net session.peer.0 session.key

-- Whichever journals a power cut leaves, they agree with each other and with all that is under way: each accepted item is its sender's,
-- each waiting frame tells what is, and no more is acknowledged than arrived.
pub record Agrees {F : Type 0} (e : Environment F) (w : World) (lists : List (List (List ℕ))) : Type 0 where
  pub matched : IsMatched (map (records_of e.frame_at) lists)
  pub waits : (m : ℕ) (x : NodeWorld) → slice_get w.nodes m ≡ Some x → AllByRecursion (WaitsAt (states_of e lists) m) x.waiting
  pub arrived : (p : ℕ) (x : NodeWorld) → slice_get w.nodes p ≡ Some x → x.up ≡ true → AreArrived (states_of e lists) (state_of e.frame_at x.journal).sessions x.acked

-- the journal is one of the node's own steps, none of them later than a moment, and each body is a record
pub record Sound {F : Type 0} (e : Environment F) (p now : ℕ) (bodies : List (List ℕ)) : Type 0 where
  pub local : IsLocal e p (records_of e.frame_at bodies)
  pub whole : length (records_of e.frame_at bodies) ≡ length bodies
  pub by : (state_of e.frame_at bodies).moment ≤ now

-- each journal that the node's images may spell is sound, and while it is up there is one
pub record NodeCoherent {F : Type 0} (e : Environment F) (p now : ℕ) (x : NodeWorld) : Type 0 where
  pub every : (l : List (List ℕ)) → MaySpell x l → Sound e p now l
  pub one : x.up ≡ true → x.other ≡ None

-- a world of the whole network, coherent at each node, whose nodes agree; a node that is up has one acknowledged number a session
pub record Coherent {F : Type 0} (e : Environment F) (w : World) : Type 0 where
  pub count : length w.nodes ≡ e.nodes
  pub each : (p : ℕ) (x : NodeWorld) → slice_get w.nodes p ≡ Some x → NodeCoherent e p w.now x
  pub numbers : (p : ℕ) (x : NodeWorld) → slice_get w.nodes p ≡ Some x → x.up ≡ true → length x.acked ≡ length (state_of e.frame_at x.journal).sessions
  pub agrees : (lists : List (List (List ℕ))) → Choice w lists → Agrees e w lists

-- from each coherent world that the network shows, it goes to a coherent world that it shows then
abbrev pub KeepsWorld : {F : Type 0} → Meaning F → NetSeen → NetSeen → (Environment F → World → World → Type 0) → Type 0
KeepsWorld m old new goal = (id : Identity) (w : World) → Shows (environment m id) old w → Coherent (environment m id) w
    → (v : World) × Shows (environment m id) new v × Coherent (environment m id) v × goal (environment m id) w v

-- ---- a law

-- whichever journals a power cut leaves of a coherent world, they are those of one run of the network, which leads to the states that they make
abbrev pub CoherentIsFaithful : (F : Type 0) → Type 0
CoherentIsFaithful F = (e : Environment F) (w : World) (lists : List (List (List ℕ))) → Coherent e w → Choice w lists
    → IsFaithful e (map (records_of e.frame_at) lists) × (network_of e (map (causes_of e.frame_at) lists) ≡ Some (map (state_of e.frame_at) lists))
