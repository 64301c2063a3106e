-- Ways of networks and of the worlds that they show, and all that power cuts may leave on a way.
use Rattle.std.specs.Prelude.{◌≡◌, ◌⊎◌, ⊤, ℕ, Bool, List, map, slice_get, Option, Some}
use Rattle.outside.specs.Disk.{Durable}
use Rattle.net_base.specs.declared.causes.Cause.{Cause}
use Rattle.net_base.specs.declared.names.Identity.{Identity}
use Rattle.net_model.specs.Environment.{environment, Meaning}
use Rattle.net_model.specs.Runs.{merged}
use Rattle.node_tables.specs.Journals.{causes_of}
use Rattle.node_core.specs.Disks.{Image, spelt}
use Rattle.node_core.specs.Seen.{NodeSeen}
use Rattle.network_core.specs.declared.steps.Outcome.{Outcome}
use Rattle.network_core.specs.declared.steps.Step.{Step}
use Rattle.network_core.specs.declared.steps.Step.TheVariants as step
use Rattle.network_core.specs.Acknowledged.{Acknowledged, StandsOnce}
use Rattle.network_core.specs.Answers.{Answered, answer_of, net_steps}
use Rattle.network_core.specs.Drains.{Pair, PairDrains, WorldDrains, pair_steps}
use Rattle.network_core.specs.Moments.{Instant, IsSince, now_of, IsBetween, OneMoves, IsChoice, IsKept}
use Rattle.network_core.specs.Rounds.{DoesAt, DrainsTo}
use Rattle.network_core.specs.Following.{Serve, Follows, NetFollows, PairServes, PairFollows}

-- A way from one network with its world to another: steps that are no drains, one after another, and the turns, posts and deliveries of drains, each
-- of the network and of the world that it shows.
pub data Way {F : Type 0} (m : Meaning F) (id : Identity) : Pair (environment m id) → Pair (environment m id) → Type 0 where
  stay : {a b : Pair (environment m id)} → b ≡ a → Way m id a b
  by_part : {a b c : Pair (environment m id)} (p : ℕ) (o : Option Outcome) → Way m id a b → DoesAt (pair_steps m id) p b o c → Way m id a c
  by_step : {a b c : Pair (environment m id)} (s : Step) (o : Option Outcome) → Way m id a b → (s ≡ step.Drain → ⊥) → Answered m s b.net (answer_of o) c.net → Serve (environment m id) s b.world o c.world → Way m id a c

-- what the disks could leave at a moment on a way: as it begins, or between one network on it and the next
abbrev pub IsOn : {F : Type 0} {m : Meaning F} {id : Identity} {a b : Pair (environment m id)} → Way m id a b → Instant → Type 0
IsOn (stay {a = a} is) s = s ≡ now_of a.net
IsOn (by_part {b = b} {c = c} p o way does) s = IsOn way s ⊎ IsBetween b.net c.net s
IsOn (by_step {b = b} {c = c} st o way drain answered serve) s = IsOn way s ⊎ IsBetween b.net c.net s

-- at every moment on a way, whichever images power cuts leave of the disks, all is as `IsKept` says
abbrev pub KeptOnWays : (F : Type 0) → Type 0
KeptOnWays F = (m : Meaning F) (id : Identity) (a b : Pair (environment m id)) (way : Way m id a b) (s : Instant) → IsOn way s → IsKept (environment m id) a.net s

-- ---- calls

-- what the calls of a network say of networks with their worlds is a way
pub record AreWays {F : Type 0} (m : Meaning F) (id : Identity) (a b : Pair (environment m id)) : Type 0 where
  pub apply : (s : Step) (o : Option Outcome) → PairServes m id s o a b → Way m id a b
  pub apply_all : (steps : List Step) (outcomes : List Outcome) (all : Bool) → PairFollows m id steps outcomes all a b → Way m id a b
  pub drain : (o : Option Outcome) → PairDrains m id o a b → Way m id a b

-- so from each network with its world to each
abbrev pub CallsAreWays : (F : Type 0) → Type 0
CallsAreWays F = (m : Meaning F) (id : Identity) (a b : Pair (environment m id)) → AreWays m id a b

-- what the calls of a network say of networks with their worlds, they say of the worlds alone and of the networks alone
pub record AreBoth {F : Type 0} (m : Meaning F) (id : Identity) (a b : Pair (environment m id)) : Type 0 where
  pub worlds : (steps : List Step) (outcomes : List Outcome) (all : Bool) → PairFollows m id steps outcomes all a b → Follows (environment m id) steps outcomes all a.world b.world
  pub nets : (steps : List Step) (outcomes : List Outcome) (all : Bool) → PairFollows m id steps outcomes all a b → NetFollows m steps outcomes all a.net b.net
  pub drained : (o : Option Outcome) → PairDrains m id o a b → WorldDrains (environment m id) a.world o b.world
  pub seen : (o : Option Outcome) → PairDrains m id o a b → DrainsTo (net_steps m) a.net o b.net

-- so from each network with its world to each
abbrev pub PairsAreBoth : (F : Type 0) → Type 0
PairsAreBoth F = (m : Meaning F) (id : Identity) (a b : Pair (environment m id)) → AreBoth m id a b

-- ---- all moments

-- no moment of a disk is left out: each of its moments since the way began is its moment at some instant on the way
abbrev pub WaysHaveAllMoments : (F : Type 0) → Type 0
WaysHaveAllMoments F = (m : Meaning F) (id : Identity) (a b : Pair (environment m id)) (way : Way m id a b) (q : ℕ) (n k : NodeSeen) (d : Durable) → slice_get a.net.nodes q ≡ Some n → slice_get b.net.nodes q ≡ Some k
    → IsSince n.disk.state k.disk.state d → (s : Instant) × IsOn way s × (slice_get s q ≡ Some d)

-- between one network on the way and the next one disk went on at most
abbrev pub MovesOneByOne : {F : Type 0} {m : Meaning F} {id : Identity} {a b : Pair (environment m id)} → Way m id a b → Type 0
MovesOneByOne (stay is) = ⊤
MovesOneByOne (by_part {b = b} {c = c} p o way does) = MovesOneByOne way × OneMoves b.net c.net
MovesOneByOne (by_step {b = b} {c = c} st o way drain answered serve) = MovesOneByOne way × OneMoves b.net c.net

-- so on each way
abbrev pub WaysMoveOneByOne : (F : Type 0) → Type 0
WaysMoveOneByOne F = (m : Meaning F) (id : Identity) (a b : Pair (environment m id)) (way : Way m id a b) → MovesOneByOne way

-- ---- what is acknowledged

-- what is acknowledged as a way begins stands once in the merged journals at every moment on it, whichever images power cuts leave
abbrev pub AcknowledgedAtAllMoments : (F : Type 0) → Type 0
AcknowledgedAtAllMoments F = (m : Meaning F) (id : Identity) (a b : Pair (environment m id)) (way : Way m id a b) (s : Instant) → IsOn way s → (images : List Image) → IsChoice s images
    → (p : ℕ) (cause : Cause) → Acknowledged (environment m id) a.world p cause → StandsOnce (p, cause) (merged (map (causes_of m.frame_at) (map spelt images)))
