-- What nodes have acknowledged, and that it outlives whatever comes.
use Rattle.std.specs.Prelude.{◌≡◌, ℕ, List, ◌∷◌, ◌++◌, map, slice_get, Option, Some, true}
use Rattle.std.specs.List.{AllByRecursion}
use Rattle.net_base.specs.declared.causes.Cause.{Cause}
use Rattle.net_model.specs.Environment.{Environment}
use Rattle.net_model.specs.Runs.{merged}
use Rattle.node_tables.specs.Journals.{causes_of}
use Rattle.network_core.specs.declared.steps.Outcome.{Outcome}
use Rattle.network_core.specs.declared.steps.Step.{Step}
use Rattle.network_core.specs.Worlds.{World, NodeWorld, MaySpell, Choice, Coherent}
use Rattle.network_core.specs.Following.{Serve}
use Rattle.network_core.specs.Drains.{world_steps}
use Rattle.network_core.specs.Rounds.{DoesAt}

-- worlds that steps lead to, and turns, posts and deliveries, also such for which memory ran out
pub data Reaches {F : Type 0} (e : Environment F) : World → World → Type 0 where
  here : {w v : World} → v ≡ w → Reaches e w v
  by_step : {w u v : World} (s : Step) (o : Option Outcome) → Reaches e w u → Serve e s u o v → Reaches e w v
  by_part : {w u v : World} (p : ℕ) (o : Option Outcome) → Reaches e w u → DoesAt (world_steps e) p u o v → Reaches e w v

-- All journals that the node's images may spell have this cause, whether the node is up or down. In a coherent world a node that is up has one:
-- what a start, a turn or a taken item was answered over is the last of its causes.
pub record Acknowledged {F : Type 0} (e : Environment F) (w : World) (p : ℕ) (cause : Cause) : Type 0 where
  pub node : NodeWorld
  pub there : slice_get w.nodes p ≡ Some node
  pub each : (l : List (List ℕ)) → MaySpell node l → (place : ℕ) × (slice_get (causes_of e.frame_at l) place ≡ Some cause)

-- in a coherent world a node that is up has acknowledged each cause of its journal
abbrev pub WhoIsUpAcknowledges : (F : Type 0) → Type 0
WhoIsUpAcknowledges F = (e : Environment F) (w : World) → Coherent e w → (p : ℕ) (x : NodeWorld) → slice_get w.nodes p ≡ Some x → x.up ≡ true
    → (place : ℕ) (cause : Cause) → slice_get (causes_of e.frame_at x.journal) place ≡ Some cause → Acknowledged e w p cause

-- an element stands once in a list: what is before it and what is behind it is other
pub record StandsOnce {X : Type 0} (x : X) (xs : List X) : Type 0 where
  pub before : List X
  pub behind : List X
  pub all : xs ≡ before ++ x ∷ behind
  pub first : AllByRecursion (λ y. y ≡ x → ⊥) before
  pub last : AllByRecursion (λ y. y ≡ x → ⊥) behind

-- what is acknowledged in a coherent world stands once in the merged journals of each world that it leads to, whichever journals power cuts
-- leave of that one
abbrev pub AcknowledgedStandsOnce : (F : Type 0) → Type 0
AcknowledgedStandsOnce F = (e : Environment F) (w v : World) → Coherent e w → Reaches e w v → (lists : List (List (List ℕ))) → Choice v lists → (p : ℕ) (cause : Cause) → Acknowledged e w p cause
    → StandsOnce (p, cause) (merged (map (causes_of e.frame_at) lists))
