-- Where a fact of all journals holds: of every coherent world, and at every moment of a way.
use Rattle.std.specs.Prelude.{ℕ, List, map}
use Rattle.node_core.specs.Disks.{Image, spelt}
use Rattle.net_base.specs.declared.names.Identity.{Identity}
use Rattle.net_base.specs.Names.{IsIdentity}
use Rattle.net_model.specs.Environment.{Environment, environment, Meaning}
use Rattle.net_model.specs.State.{NodeState}
use Rattle.network_core.specs.Drains.{Pair}
use Rattle.network_core.specs.Moments.{Instant, IsChoice}
use Rattle.network_core.specs.Ways.{Way, IsOn}
use Rattle.network_core.specs.Worlds.{World, Coherent, Choice, states_of}

-- a fact of the journals of all nodes, by the bodies of their records
abbrev pub Fact : Type 0 → Type 1
Fact F = Environment F → List (List (List ℕ)) → Type 0

-- a fact of the states that the journals make
abbrev pub Made : {F : Type 0} → (Environment F → List (NodeState F) → Type 0) → Fact F
Made holds e lists = holds e (states_of e lists)

-- it holds of every coherent world, whichever journals power cuts leave of it
abbrev pub InWorlds : {F : Type 0} → Meaning F → Fact F → Type 0
InWorlds m fact = (id : Identity) (w : World) (lists : List (List (List ℕ))) → IsIdentity id → Coherent (environment m id) w → Choice w lists → fact (environment m id) lists

-- it holds at every moment of a way, whichever images power cuts leave of the disks
abbrev pub OnWays : {F : Type 0} → Meaning F → Fact F → Type 0
OnWays m fact = (id : Identity) (a b : Pair (environment m id)) (way : Way m id a b) (s : Instant) (images : List Image) → IsIdentity id → IsOn way s → IsChoice s images → fact (environment m id) (map spelt images)
