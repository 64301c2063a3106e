-- What each step makes of a world, and what it answers; steps one after another; and the same of networks, alone and with the worlds that they show.
use Rattle.std.specs.Prelude.{◌≡◌, ◌⊎◌, ◌<◌, ◌≤◌, Bool, List, [], ◌∷◌, ◌++◌, Option, Some, None, true, false}
use Rattle.net_base.specs.declared.names.Identity.{Identity}
use Rattle.net_model.specs.Environment.{Environment, environment, Meaning}
use Rattle.network_core.specs.Answers.{Answered, answer_of}
use Rattle.network_core.specs.declared.refusal.Refusal.TheVariants as refusal
use Rattle.network_core.specs.declared.steps.Outcome.{Outcome}
use Rattle.network_core.specs.declared.steps.Outcome.TheVariants as outcome
use Rattle.network_core.specs.declared.steps.Step.{Step}
use Rattle.network_core.specs.declared.steps.Step.TheVariants as step
use Rattle.network_core.specs.Worlds.{World, NetSeen}
use Rattle.network_core.specs.WorldSteps.{WorldClock, WorldPlace, WorldStarts, WorldTurns, WorldPosts, WorldHands, LosesAt, WorldCuts, WorldBoots}
use Rattle.network_core.specs.Drains.{Pair, KeepsPair, PairDrains, WorldDrains}

-- what each step makes of a world, and its outcome, none at want of memory
abbrev pub Serve : {F : Type 0} → Environment F → Step → World → Option Outcome → World → Type 0
Serve e (step.Clock to) w o v = WorldClock to.0 w o v
Serve e (step.Start node class args) w o v = WorldPlace node w o v (λ x r y. WorldStarts e node w.now class args x r y)
Serve e (step.Turn node pick) w o v = WorldPlace node w o v (λ x r y. WorldTurns e node w.now pick x r y)
Serve e (step.Post node) w o v = WorldPosts e node w o v
Serve e (step.Deliver node at) w o v = WorldHands e false node at w o v
Serve e (step.Repeat node at) w o v = WorldHands e true node at w o v
Serve e (step.Lose node at) w o v = WorldPlace node w o v (λ x r y. LosesAt at x r y)
Serve e (step.Cut node calls kind) w o v = ((3 < kind) × (o ≡ Some (outcome.Refused refusal.Syntax)) × (v ≡ w)) ⊎ ((kind ≤ 3) × WorldPlace node w o v (λ x r y. WorldCuts calls x r y))
Serve e (step.Boot node) w o v = WorldPlace node w o v (λ x r y. WorldBoots e x r y)
Serve e step.Drain w o v = WorldDrains e w o v

-- ---- steps, one after another

-- states that steps lead to, with their outcomes: over states of any kind, by what a step makes of one, and its outcome
pub data Links {W : Type 0} (serve : Step → W → Option Outcome → W → Type 0) : List Step → List Outcome → W → W → Type 0 where
  none : {steps : List Step} {outcomes : List Outcome} {w v : W} → steps ≡ [] → outcomes ≡ [] → v ≡ w → Links serve steps outcomes w v
  more : {steps all : List Step} {outcomes longer : List Outcome} {w u v : W} (s : Step) (o : Outcome) → Links serve steps outcomes w u → serve s u (Some o) v → all ≡ steps ++ s ∷ [] → longer ≡ outcomes ++ o ∷ []
      → Links serve all longer w v

-- all steps have their outcome, or the first ones have, and want of memory ended the next one
abbrev pub LeadTo : {W : Type 0} → (Step → W → Option Outcome → W → Type 0) → List Step → List Outcome → Bool → W → W → Type 0
LeadTo {W} serve steps outcomes true w v = Links serve steps outcomes w v
LeadTo {W} serve steps outcomes false w v = (first : List Step) × (s : Step) × (rest : List Step) × (u : W) × (steps ≡ first ++ s ∷ rest) × Links serve first outcomes w u × serve s u None v

-- so of worlds
abbrev pub Follows : {F : Type 0} → Environment F → List Step → List Outcome → Bool → World → World → Type 0
Follows e steps outcomes all w v = LeadTo (Serve e) steps outcomes all w v

-- what each step makes of a network, and its outcome, none at want of memory, over any disks
abbrev pub NetServe : {F : Type 0} → Meaning F → Step → NetSeen → Option Outcome → NetSeen → Type 0
NetServe m s old o new = Answered m s old (answer_of o) new

-- so of networks, over any disks
abbrev pub NetFollows : {F : Type 0} → Meaning F → List Step → List Outcome → Bool → NetSeen → NetSeen → Type 0
NetFollows m steps outcomes all old new = LeadTo (NetServe m) steps outcomes all old new

-- ---- networks with the worlds that they show

-- what each step makes of a network and of the world that it shows, and its outcome; a drain also step by step
abbrev pub PairServes : {F : Type 0} (m : Meaning F) (id : Identity) → Step → Option Outcome → Pair (environment m id) → Pair (environment m id) → Type 0
PairServes m id s o a b = Answered m s a.net (answer_of o) b.net × Serve (environment m id) s a.world o b.world × (s ≡ step.Drain → PairDrains m id o a b)

-- so one after another
abbrev pub PairLinks : {F : Type 0} (m : Meaning F) (id : Identity) → List Step → List Outcome → Pair (environment m id) → Pair (environment m id) → Type 0
PairLinks m id steps outcomes a b = Links (λ s a o b. PairServes m id s o a b) steps outcomes a b

abbrev pub PairFollows : {F : Type 0} (m : Meaning F) (id : Identity) → List Step → List Outcome → Bool → Pair (environment m id) → Pair (environment m id) → Type 0
PairFollows m id steps outcomes all a b = LeadTo (λ s a o b. PairServes m id s o a b) steps outcomes all a b

-- so from each coherent world that the network shows
abbrev pub ServesPairs : {F : Type 0} → Meaning F → Step → Option Outcome → NetSeen → NetSeen → Type 0
ServesPairs m s o old new = KeepsPair m old new (λ id a b. PairServes m id s o a b)

abbrev pub FollowPairs : {F : Type 0} → Meaning F → List Step → List Outcome → Bool → NetSeen → NetSeen → Type 0
FollowPairs m steps outcomes all old new = KeepsPair m old new (λ id a b. PairFollows m id steps outcomes all a b)
