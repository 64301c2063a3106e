-- A drain of a network and of its worlds.
use Rattle.std.specs.Prelude.{◌≡◌, ◌⊎◌, ℕ, ◌+◌, ◌-◌, ◌≤◌, true, false, List, [], ◌∷◌, length, slice_get, Option, Some, None}
use Rattle.flow_machine.specs.Machine.{Machine}
use Rattle.net_base.specs.declared.names.Identity.{Identity}
use Rattle.net_model.specs.Environment.{Environment, environment, Meaning}
use Rattle.net_model.specs.Left.{left}
use Rattle.session_wire.specs.Sessions.{Session}
use Rattle.node_tables.specs.Journals.{state_of}
use Rattle.node_core.specs.Seen.{NodeSeen, picked_at}
use Rattle.network_core.specs.declared.steps.Outcome.{Outcome}
use Rattle.network_core.specs.declared.steps.Outcome.TheVariants as outcome
use Rattle.network_core.specs.Worlds.{World, NodeWorld, NetSeen, Shows, KeepsWorld, Choice, states_of, came_at, Coherent}
use Rattle.network_core.specs.Answers.{NetTurn, NetPost, NetHand, NetEnds, net_steps}
use Rattle.network_core.specs.Rounds.{DrainSteps, DrainGoal, EndsHands, Rounds, IsDrained, DrainStops, DrainsTo, in_front, Runs, RunsTo}
use Rattle.network_core.specs.WorldSteps.{WorldPlace, WorldTurns, WorldPosts, WorldHands}

-- ---- how many turns there can be

-- how many records a node may still take; none while it is down
abbrev pub journal_room : Option (List (List ℕ)) → ℕ
journal_room None = 0
journal_room (Some bodies) = 65536 - length bodies

-- the room of all nodes
abbrev pub total_room : List NodeSeen → ℕ
total_room [] = 0
total_room (n ∷ ns) = journal_room n.journal + total_room ns

-- the room of a network
unfoldable pub room : NetSeen → ℕ
room net = total_room net.nodes

-- by how much a turn or a delivery lessens the room at least
abbrev pub takes : Option Outcome → ℕ
takes (Some (outcome.Moved f)) = 1
takes (Some (outcome.Took upto)) = 1
takes _ = 0

-- ---- worlds

-- a turn at a place of a world
abbrev pub TurnAt : {F : Type 0} → Environment F → ℕ → World → Option Outcome → World → Type 0
TurnAt e p w o v = WorldPlace p w o v (λ x r y. WorldTurns e p w.now None x r y)

-- a delivery of the first waiting frame at a place of a world
abbrev pub HandAt : {F : Type 0} → Environment F → ℕ → World → Option Outcome → World → Type 0
HandAt e p w o v = WorldHands e false p 0 w o v

-- the deliveries at a place of a world end: no frame waits, or the node is down
abbrev pub WorldEnds : {F : Type 0} → Environment F → ℕ → ℕ → World → World → World → Type 0
WorldEnds e p count w u v = EndsHands (HandAt e) p u v

-- what a drain of a world is made of
abbrev pub world_steps : {F : Type 0} → Environment F → DrainSteps World
world_steps e = record { count = λ w. length w.nodes; turn = TurnAt e; post = WorldPosts e; hand = HandAt e; ends = WorldEnds e }

-- each item that a node sent to another that is up has arrived there
abbrev pub HasArrived : {F : Type 0} → Environment F → World → NodeWorld → Type 0
HasArrived e v x = (i q : ℕ) (session : Session) (y : NodeWorld) → slice_get (state_of e.frame_at x.journal).sessions i ≡ Some session → session.peer.0 ≡ q → slice_get v.nodes q ≡ Some y → y.up ≡ true
    → (lists : List (List (List ℕ))) → Choice v lists → length session.sent ≤ came_at (states_of e lists) q session.key

-- at no node that is up a flow can go on, and what nodes that are up sent each other has arrived
pub record Quiet {F : Type 0} (e : Environment F) (v : World) : Type 0 where
  pub idle : (p : ℕ) (x : NodeWorld) → slice_get v.nodes p ≡ Some x → x.up ≡ true → picked_at e v.now None x.journal ≡ None
  pub arrived : (p : ℕ) (x : NodeWorld) → slice_get v.nodes p ≡ Some x → x.up ≡ true → HasArrived e v x

-- what a drain makes of a world, by its outcome: where it ended by itself the network is quiet
abbrev pub WorldDrains : {F : Type 0} → Environment F → World → Option Outcome → World → Type 0
WorldDrains e w o v = DrainsTo (world_steps e) w o v × (o ≡ Some (outcome.Drained false) → Quiet e v)

-- ---- how many rounds there can be

-- a drain of this world has at most this many rounds in which a record was committed; where it was stopped, this many with the records of the last one
pub record RoundsAtMost {F : Type 0} (e : Environment F) (w : World) (most : ℕ) : Type 0 where
  pub rounds : (r : ℕ) (u : World) → Rounds (world_steps e) r w u → r ≤ most
  pub drained : (v : World) (drain : IsDrained (world_steps e) w v) → drain.0 ≤ most
  pub stopped : (o : Option Outcome) (v : World) (drain : DrainStops (world_steps e) o w v) → drain.0 + in_front (world_steps e) o drain.1 v drain.3 ≤ most

-- from a coherent world there are at most as many as the network of its journals may still do, whichever journal a power cut leaves of a node that is down
abbrev pub RoundsAreBounded : {F : Type 0} → Machine F → Type 0
RoundsAreBounded {F} m = (e : Environment F) → e.machine ≡ m → (w : World) → Coherent e w → (lists : List (List (List ℕ))) → Choice w lists → RoundsAtMost e w (left e (states_of e lists))

-- a drain makes turns, posts and deliveries and nothing else: none met a full journal or ran out of memory but a last one that stopped it
pub record IsByTurns {F : Type 0} (e : Environment F) (w v : World) : Type 0 where
  pub drained : IsDrained (world_steps e) w v → Runs (world_steps e) w v
  pub stopped : (o : Option Outcome) → DrainStops (world_steps e) o w v → RunsTo (world_steps e) w o v

-- so from each world to each world
abbrev pub DrainsByTurns : (F : Type 0) → Type 0
DrainsByTurns F = (e : Environment F) (w v : World) → IsByTurns e w v

-- ---- networks with the worlds that they show

-- a network, and a coherent world that it shows
pub record Pair {F : Type 0} (e : Environment F) : Type 0 where
  pub net : NetSeen
  pub world : World
  pub shows : Shows e net world
  pub coherent : Coherent e world

-- a network with this world
abbrev pub with_world : {F : Type 0} {e : Environment F} (net : NetSeen) (w : World) → Shows e net w → Coherent e w → Pair e
with_world net w shows coherent = record { net = net; world = w; shows = shows; coherent = coherent }

-- a delivery of a drain, of the network and of the world that it shows
abbrev pub PairHand : {F : Type 0} (m : Meaning F) (id : Identity) → ℕ → Pair (environment m id) → Option Outcome → Pair (environment m id) → Type 0
PairHand m id p a o b = NetHand m p a.net o b.net × HandAt (environment m id) p a.world o b.world

-- what a drain of a network is made of, each step both of the network and of the world that it shows
abbrev pub pair_steps : {F : Type 0} (m : Meaning F) (id : Identity) → DrainSteps (Pair (environment m id))
pair_steps m id = record {
  count = λ a. length a.net.nodes;
  turn = λ p a o b. NetTurn m p a.net o b.net × TurnAt (environment m id) p a.world o b.world;
  post = λ p a o b. NetPost m.frame_at p a.net o b.net × WorldPosts (environment m id) p a.world o b.world;
  hand = PairHand m id;
  ends = λ p d a c b. EndsHands (PairHand m id) p c b ⊎ ((b ≡ c) × NetEnds m p d a.net c.net b.net × WorldEnds (environment m id) p d a.world c.world b.world);
}

-- from each coherent world that the network shows, both go on to a network and a coherent world that it shows, which are so
abbrev pub KeepsPair : {F : Type 0} (m : Meaning F) → NetSeen → NetSeen → ((id : Identity) → Pair (environment m id) → Pair (environment m id) → Type 0) → Type 0
KeepsPair m old new goal = (id : Identity) (w : World) (shows : Shows (environment m id) old w) (coherent : Coherent (environment m id) w)
    → (v : World) × (later : Shows (environment m id) new v) × (sound : Coherent (environment m id) v) × goal id (with_world old w shows coherent) (with_world new v later sound)

-- what a drain makes of both, step by step
abbrev pub PairDrains : {F : Type 0} (m : Meaning F) (id : Identity) → Option Outcome → Pair (environment m id) → Pair (environment m id) → Type 0
PairDrains m id o a b = DrainsTo (pair_steps m id) a o b × (o ≡ Some (outcome.Drained false) → Quiet (environment m id) b.world)

-- ---- networks

-- the network goes from one state to another as is stated of drains, over any disks and of its worlds, and its room does not grow
pub record Drives {F : Type 0} (m : Meaning F) (old new : NetSeen) (goal : DrainGoal) : Type 0 where
  pub pairs : KeepsPair m old new (λ id a b. goal (Pair (environment m id)) (pair_steps m id) a b)
  pub seen : goal NetSeen (net_steps m) old new
  pub clock : new.now ≡ old.now
  pub left : room new ≤ room old
  pub count : length new.nodes ≡ length old.nodes

-- the outcome of a drain of a network, over any disks and of its worlds
pub record Drains {F : Type 0} (m : Meaning F) (old : NetSeen) (o : Option Outcome) (new : NetSeen) : Type 0 where
  pub pairs : KeepsPair m old new (λ id a b. PairDrains m id o a b)
  pub world : KeepsWorld m old new (λ e w v. WorldDrains e w o v)
  pub seen : DrainsTo (net_steps m) old o new
  pub clock : new.now ≡ old.now
  pub left : room new ≤ room old
  pub count : length new.nodes ≡ length old.nodes
