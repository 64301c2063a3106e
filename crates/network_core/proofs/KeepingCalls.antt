-- A drain of networks and worlds is one of networks and one of worlds, and a way.
use Rattle.std.proofs.Common.{inl, inr, ℕ, List, Bool, true, Option, Some, None, false, refl, sym, subst}
use Rattle.net_base.specs.declared.names.Identity.{Identity}
use Rattle.net_model.specs.Environment.{Environment, environment, Meaning}
use Rattle.network_core.specs.declared.steps.Outcome.{Outcome}
use Rattle.network_core.specs.Answers.{net_steps}
use Rattle.network_core.specs.Drains.{world_steps}
use Rattle.network_core.specs.Rounds.{DrainsTo, DoesAt}
use Rattle.network_core.specs.Drains.{Pair, pair_steps}
use Rattle.network_core.specs.Ways.{Way, stay, by_part, by_step, CallsAreWays, PairsAreBoth}
use Rattle.network_core.specs.declared.steps.Step.{Step}
use Rattle.network_core.specs.declared.steps.Step.TheVariants as step
use Rattle.network_core.specs.Following.{PairServes, PairLinks, none, more, PairFollows}
use Rattle.network_core.proofs.Driving.{to_net, to_world}
use Rattle.network_core.proofs.Mapping.{drains_go, drains_map}
use Rattle.network_core.proofs.Pairing.{follows_nets, follows_worlds}

module _ {F : Type 0} (m : Meaning F) (id : Identity) where
  abbrev e : Environment F
  e = environment m id

  way_more : (a b c : Pair e) (p : ℕ) (o : Option Outcome) → Way m id a b → DoesAt (pair_steps m id) p b o c → Way m id a c
  way_more a b c p o way does = by_part p o way does

  way_ends : (a x b c : Pair e) (p d : ℕ) → Way m id a b → (pair_steps m id).ends p d x b c → Way m id a c
  way_ends a x b c p d way (inl over) = by_part p (Some over.0) way (inr (inr over.1))
  way_ends a x b c p d way (inr still) = subst (Way m id a) (sym still.0) way

  pub drain_way : (a : Pair e) (o : Option Outcome) (b : Pair e) → DrainsTo (pair_steps m id) a o b → Way m id a b
  drain_way a o b h = drains_go (pair_steps m id) (Way m id) (λ w v is. stay is) way_more way_ends a o b h

module _ {F : Type 0} (m : Meaning F) (id : Identity) where
  way_then : (a b c : Pair (environment m id)) → Way m id a b → Way m id b c → Way m id a c
  way_then a b c one (stay is) = subst (Way m id a) (sym is) one
  way_then a b c one (by_part {b = d} p o way does) = by_part p o (way_then a b d one way) does
  way_then a b c one (by_step {b = d} s o way drain answered serve) = by_step s o (way_then a b d one way) drain answered serve

  apply_way : (a b : Pair (environment m id)) (s : Step) (o : Option Outcome) → PairServes m id s o a b → Way m id a b
  apply_way a b step.Drain o h = drain_way m id a o b (h.2 refl).0
  apply_way a b (step.Clock to) o h = by_step (step.Clock to) o (stay refl) (λ is. cc) h.0 h.1
  apply_way a b (step.Start node class args) o h = by_step (step.Start node class args) o (stay refl) (λ is. cc) h.0 h.1
  apply_way a b (step.Turn node pick) o h = by_step (step.Turn node pick) o (stay refl) (λ is. cc) h.0 h.1
  apply_way a b (step.Post node) o h = by_step (step.Post node) o (stay refl) (λ is. cc) h.0 h.1
  apply_way a b (step.Deliver node at) o h = by_step (step.Deliver node at) o (stay refl) (λ is. cc) h.0 h.1
  apply_way a b (step.Repeat node at) o h = by_step (step.Repeat node at) o (stay refl) (λ is. cc) h.0 h.1
  apply_way a b (step.Lose node at) o h = by_step (step.Lose node at) o (stay refl) (λ is. cc) h.0 h.1
  apply_way a b (step.Cut node calls kind) o h = by_step (step.Cut node calls kind) o (stay refl) (λ is. cc) h.0 h.1
  apply_way a b (step.Boot node) o h = by_step (step.Boot node) o (stay refl) (λ is. cc) h.0 h.1

  links_way : (a b : Pair (environment m id)) (steps : List Step) (outcomes : List Outcome) → PairLinks m id steps outcomes a b → Way m id a b
  links_way a b steps outcomes (none no_step nothing is) = stay is
  links_way a b all longer (more {steps = steps} {outcomes = outcomes} {u = c} s o before serves all_is longer_is) = way_then a c b (links_way a c steps outcomes before) (apply_way c b s (Some o) serves)

  follows_way : (a b : Pair (environment m id)) (steps : List Step) (outcomes : List Outcome) (all : Bool) → PairFollows m id steps outcomes all a b → Way m id a b
  follows_way a b steps outcomes true h = links_way a b steps outcomes h
  follows_way a b steps outcomes false (first, s, rest, c, is, before, serves) = way_then a c b (links_way a c first outcomes before) (apply_way c b s None serves)

pub calls_are_ways : {F : Type 0} → CallsAreWays F
calls_are_ways m id a b = record { apply = apply_way m id a b; apply_all = follows_way m id a b; drain = λ o h. drain_way m id a o b h.0 }

-- ---- the worlds alone, and the networks alone

pub pairs_are_both : {F : Type 0} → PairsAreBoth F
pairs_are_both m id a b = record {
  worlds = follows_worlds m id a b;
  nets = follows_nets m id a b;
  drained = λ o h. (drains_map (pair_steps m id) (world_steps (environment m id)) (λ (z : Pair (environment m id)). z.world) (to_world m id) a o b h.0, h.1);
  seen = λ o h. drains_map (pair_steps m id) (net_steps m) (λ (z : Pair (environment m id)). z.net) (to_net m id) a o b h.0;
}
