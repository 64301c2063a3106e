-- What a step makes of a network and of its world, as one.
use Rattle.std.proofs.Common.{◌≡◌, inl, inr, ⊎_elim, ℕ, zero, suc, ◌≤◌, arith, length, length-append, take, drop, List, [], ◌∷◌, ◌++◌, Option, Some, None, Result, Ok, Bool, true, false, refl, sym, ◌∙◌, ap, subst}
use Rattle.std.specs.List.{slice_get}
use Rattle.std.proofs.lemmas.List.{take_all}
use Rattle.net_base.specs.declared.names.Identity.{Identity}
use Rattle.net_model.specs.Environment.{environment, Meaning}
use Rattle.network_core.specs.declared.steps.Outcome.{Outcome}
use Rattle.network_core.specs.declared.steps.Step.{Step}
use Rattle.network_core.specs.declared.steps.Step.TheVariants as step
use Rattle.network_core.specs.Worlds.{NetSeen, KeepsWorld}
use Rattle.network_core.specs.Answers.{said, answer_of, AtPlace, StartServes, TurnServes, CutServes, BootServes, LoseServes, Posting, PostServes, Handing, HandServes, Answered, booted_at, journal_at, net_steps}
use Rattle.network_core.specs.Rounds.{DrainsTo}
use Rattle.network_core.specs.Drains.{Pair, with_world, pair_steps, KeepsPair, PairDrains, world_steps}
use Rattle.network_core.specs.Following.{Serve, Links, none, more, LeadTo, Follows, NetServe, NetFollows, PairServes, PairLinks, PairFollows, FollowPairs}
use Rattle.network_core.proofs.Mapping.{drains_map}
use Rattle.network_core.proofs.Driving.{to_world, to_net}

-- what is said of an outcome is said whatever stands for want of memory
bare : (o : Option Outcome) → said (answer_of o) ≡ o
bare (Some o) = refl
bare None = refl

module _ {F E : Type 0} (m : Meaning F) (old new : NetSeen) (r : Result Outcome E) where
  is : said (answer_of (said r)) ≡ said r
  is = bare (said r)

  start_bare : (p class : ℕ) (args : List ℕ) → AtPlace p old r new (λ n a k. StartServes m old.now class args n a k) → AtPlace p old (answer_of (said r)) new (λ n a k. StartServes m old.now class args n a k)
  start_bare p class args (inl (past, two, same)) = inl (past, is ∙ two, same)
  start_bare p class args (inr (n, k, at, nodes, waiting, (answer, answers, so))) = inr (n, k, at, nodes, waiting, (answer, answers, is ∙ so))

  turn_bare : (p : ℕ) (pick : Option ℕ) → AtPlace p old r new (λ n a k. TurnServes m old.now pick n a k) → AtPlace p old (answer_of (said r)) new (λ n a k. TurnServes m old.now pick n a k)
  turn_bare p pick (inl (past, two, same)) = inl (past, is ∙ two, same)
  turn_bare p pick (inr (n, k, at, nodes, waiting, (answer, answers, so))) = inr (n, k, at, nodes, waiting, (answer, answers, is ∙ so))

  cut_bare : (p calls kind : ℕ) → AtPlace p old r new (λ n a k. CutServes calls kind n a k) → AtPlace p old (answer_of (said r)) new (λ n a k. CutServes calls kind n a k)
  cut_bare p calls kind (inl (past, two, same)) = inl (past, is ∙ two, same)
  cut_bare p calls kind (inr (n, k, at, nodes, waiting, (answer, answers, so))) = inr (n, k, at, nodes, waiting, (answer, answers, is ∙ so))

  boot_bare : (p : ℕ) → AtPlace p old r new (λ n a k. BootServes m.frame_at n a k) → AtPlace p old (answer_of (said r)) new (λ n a k. BootServes m.frame_at n a k)
  boot_bare p (inl (past, two, same)) = inl (past, is ∙ two, same)
  boot_bare p (inr (n, k, at, nodes, waiting, inl (up, four, same))) = inr (n, k, at, nodes, waiting, inl (up, is ∙ four, same))
  boot_bare p (inr (n, k, at, nodes, waiting, inr (down, (mid, answer, restored, boots, so)))) = inr (n, k, at, nodes, waiting, inr (down, (mid, answer, restored, boots, is ∙ so)))

  post_bare : (p : ℕ) → PostServes m.frame_at p old r new → PostServes m.frame_at p old (answer_of (said r)) new
  post_bare p (inl (past, two, same)) = inl (past, is ∙ two, same)
  post_bare p (inr (n, at, posting)) = inr (n, at, subst (λ (a : Option Outcome). Posting m.frame_at n old a new) (sym is) posting)

  hand_bare : (repeated : Bool) (p i : ℕ) → HandServes m repeated p i old r new → HandServes m repeated p i old (answer_of (said r)) new
  hand_bare repeated p i (inl (past, two, same)) = inl (past, is ∙ two, same)
  hand_bare repeated p i (inr (n, frames, at, waits, handing)) = inr (n, frames, at, waits, subst (λ (a : Option Outcome). Handing m repeated p i n frames old a new) (sym is) handing)

  lose_bare : (p i : ℕ) → LoseServes p i old r new → LoseServes p i old (answer_of (said r)) new
  lose_bare p i (inl (past, two, same)) = inl (past, is ∙ two, same)
  lose_bare p i (inr (frames, at, inl (gone, seven, same))) = inr (frames, at, inl (gone, is ∙ seven, same))
  lose_bare p i (inr (frames, at, inr (bytes, there, lost, same))) = inr (frames, at, inr (bytes, there, is ∙ lost, same))

  answered_bare : (s : Step) → Answered m s old r new → Answered m s old (answer_of (said r)) new
  answered_bare (step.Clock to) h = (h.0, is ∙ h.1, h.2)
  answered_bare (step.Start node class args) h = (start_bare node class args h.0, h.1)
  answered_bare (step.Turn node pick) h = (turn_bare node pick h.0, h.1)
  answered_bare (step.Post node) h = post_bare node h
  answered_bare (step.Deliver node at) h = hand_bare false node at h
  answered_bare (step.Repeat node at) h = hand_bare true node at h
  answered_bare (step.Lose node at) h = lose_bare node at h
  answered_bare (step.Cut node calls kind) h = ⊎_elim (λ odd. inl (odd.0, is ∙ odd.1, odd.2)) (λ known. inr (known.0, cut_bare node calls kind known.1, known.2)) h
  answered_bare (step.Boot node) h = (boot_bare node h.0, subst (λ (o : Option Outcome). new.now ≡ booted_at m.frame_at old.now o (journal_at node new)) (sym is) h.1)
  answered_bare step.Drain h = (subst (λ (o : Option Outcome). DrainsTo (net_steps m) old o new) (sym is) h.0, h.1)

  -- any step but a drain
  pub pair_step : (s : Step) → (s ≡ step.Drain → ⊥) → KeepsWorld m old new (λ e w v. Serve e s w (said r) v) → Answered m s old r new → KeepsPair m old new (λ id a b. PairServes m id s (said r) a b)
  pair_step s other serves answers id w shows coherent =
      let one = serves id w shows coherent in
      (one.0, one.1, one.2, (answered_bare s answers, one.3, λ drain. absurd (other drain)))

-- a drain
pub pair_drain : {F : Type 0} (m : Meaning F) (old new : NetSeen) (o : Option Outcome) → new.now ≡ old.now → KeepsPair m old new (λ id a b. PairDrains m id o a b) → KeepsPair m old new (λ id a b. PairServes m id step.Drain o a b)
pair_drain m old new o clock pairs id w shows coherent =
    let b = pairs id w shows coherent in
    let one = with_world old w shows coherent in
    let two = with_world new b.0 b.1 b.2 in
    let net = drains_map (pair_steps m id) (net_steps m) (λ (z : Pair (environment m id)). z.net) (to_net m id) one o two b.3.0 in
    let world = drains_map (pair_steps m id) (world_steps (environment m id)) (λ (z : Pair (environment m id)). z.world) (to_world m id) one o two b.3.0 in
    (b.0, b.1, b.2, ((subst (λ (x : Option Outcome). DrainsTo (net_steps m) old x new) (sym (bare o)) net, clock), (world, b.3.1), λ drain. b.3))

-- ---- steps, one after another

-- what each step makes of states of one kind it makes of states of another
module _ {W V : Type 0} (serve : Step → W → Option Outcome → W → Type 0) (other : Step → V → Option Outcome → V → Type 0) (g : W → V) (each : (s : Step) (w : W) (o : Option Outcome) (v : W) → serve s w o v → other s (g w) o (g v)) where
  pub links_map : (steps : List Step) (outcomes : List Outcome) (w v : W) → Links serve steps outcomes w v → Links other steps outcomes (g w) (g v)
  links_map steps outcomes w v (none no_step nothing is) = none no_step nothing (ap g is)
  links_map all longer w v (more {steps = steps} {outcomes = outcomes} {u = u} s o before serves all_is longer_is) = more s o (links_map steps outcomes w u before) (each s u (Some o) v serves) all_is longer_is

  pub leads_map : (steps : List Step) (outcomes : List Outcome) (all : Bool) (w v : W) → LeadTo serve steps outcomes all w v → LeadTo other steps outcomes all (g w) (g v)
  leads_map steps outcomes true w v h = links_map steps outcomes w v h
  leads_map steps outcomes false w v (first, s, rest, u, is, before, serves) = (first, s, rest, g u, is, links_map first outcomes w u before, each s u None v serves)

-- each step that was made has its outcome
pub links_count : {W : Type 0} (serve : Step → W → Option Outcome → W → Type 0) (steps : List Step) (outcomes : List Outcome) (w v : W) → Links serve steps outcomes w v → length outcomes ≡ length steps
links_count serve steps outcomes w v (none no_step nothing is) = ap length nothing ∙ sym (ap length no_step)
links_count serve all longer w v (more {steps = steps} {outcomes = outcomes} {u = u} s o before serves all_is longer_is) =
    omega (arith, links_count serve steps outcomes w u before, ap length all_is, ap length longer_is, length-append steps (s ∷ []), length-append outcomes (o ∷ []))

-- those of a network, over any disks
module _ {F E : Type 0} (m : Meaning F) (old mid new : NetSeen) (r : Result Outcome E) where
  pub nets_more : (steps all : List Step) (outcomes longer : List Outcome) (s : Step) (o : Outcome) → Links (NetServe m) steps outcomes old mid → Answered m s mid r new → r ≡ Ok o → all ≡ steps ++ s ∷ [] → longer ≡ outcomes ++ o ∷ [] → Links (NetServe m) all longer old new
  nets_more steps all outcomes longer s o before answers is a b = more s o before (subst (λ (x : Option Outcome). NetServe m s mid x new) (ap said is) (answered_bare m mid new r s answers)) a b

  pub nets_end : (steps first rest : List Step) (outcomes : List Outcome) (s : Step) → Links (NetServe m) first outcomes old mid → Answered m s mid r new → said r ≡ None → steps ≡ first ++ s ∷ rest → NetFollows m steps outcomes false old new
  nets_end steps first rest outcomes s before answers is all = (first, s, rest, mid, all, before, subst (λ (x : Option Outcome). NetServe m s mid x new) is (answered_bare m mid new r s answers))

-- all steps were made
pub links_all : {W : Type 0} (serve : Step → W → Option Outcome → W → Type 0) (steps : List Step) (i : ℕ) (outcomes : List Outcome) (w v : W) → length steps ≤ i → Links serve (take i steps) outcomes w v → LeadTo serve steps outcomes true w v
links_all serve steps i outcomes w v le links = subst (λ (l : List Step). Links serve l outcomes w v) (take_all i steps le) links

module _ {F : Type 0} (m : Meaning F) where
  pub pairs_none : (net : NetSeen) (outcomes : List Outcome) → outcomes ≡ [] → KeepsPair m net net (λ id a b. PairLinks m id [] outcomes a b)
  pairs_none net outcomes empty id w shows coherent = (w, shows, coherent, none refl empty refl)

  pub pairs_more : (old mid new : NetSeen) (steps all : List Step) (outcomes longer : List Outcome) (s : Step) (o : Outcome) → KeepsPair m old mid (λ id a b. PairLinks m id steps outcomes a b) → KeepsPair m mid new (λ id a b. PairServes m id s (Some o) a b)
      → all ≡ steps ++ s ∷ [] → longer ≡ outcomes ++ o ∷ [] → KeepsPair m old new (λ id a b. PairLinks m id all longer a b)
  pairs_more old mid new steps all outcomes longer s o before serves a b id w shows coherent =
      let one = before id w shows coherent in
      let two = serves id one.0 one.1 one.2 in
      (two.0, two.1, two.2, more s o one.3 two.3 a b)

  pub pairs_end : (old mid new : NetSeen) (steps first rest : List Step) (outcomes : List Outcome) (s : Step) → KeepsPair m old mid (λ id a b. PairLinks m id first outcomes a b) → KeepsPair m mid new (λ id a b. PairServes m id s None a b)
      → steps ≡ first ++ s ∷ rest → KeepsPair m old new (λ id a b. PairFollows m id steps outcomes false a b)
  pairs_end old mid new steps first rest outcomes s before serves all id w shows coherent =
      let one = before id w shows coherent in
      let two = serves id one.0 one.1 one.2 in
      (two.0, two.1, two.2, (first, s, rest, with_world mid one.0 one.1 one.2, all, one.3, two.3))

  pub pairs_all : (old new : NetSeen) (steps : List Step) (i : ℕ) (outcomes : List Outcome) → length steps ≤ i → KeepsPair m old new (λ id a b. PairLinks m id (take i steps) outcomes a b) → KeepsPair m old new (λ id a b. PairFollows m id steps outcomes true a b)
  pairs_all old new steps i outcomes le keeps = subst (λ (l : List Step). KeepsPair m old new (λ id a b. PairLinks m id l outcomes a b)) (take_all i steps le) keeps

pub split_there : {X : Type 0} (xs : List X) (i : ℕ) (x : X) → slice_get xs i ≡ Some x → (xs ≡ take i xs ++ x ∷ drop (suc i) xs) × (take (suc i) xs ≡ take i xs ++ x ∷ [])
split_there [] i x e = cc
split_there (y ∷ ys) zero x e = let same : y ≡ x = cc in rw same (refl, refl)
split_there (y ∷ ys) (suc i) x e = let t = split_there ys i x e in (ap (λ l. y ∷ l) t.0, ap (λ l. y ∷ l) t.1)

-- ---- the worlds alone, and the networks alone

module _ {F : Type 0} (m : Meaning F) (id : Identity) where
  abbrev serves : Step → Pair (environment m id) → Option Outcome → Pair (environment m id) → Type 0
  serves s a o b = PairServes m id s o a b

  pub follows_worlds : (a b : Pair (environment m id)) (steps : List Step) (outcomes : List Outcome) (all : Bool) → PairFollows m id steps outcomes all a b → Follows (environment m id) steps outcomes all a.world b.world
  follows_worlds a b steps outcomes all h = leads_map serves (Serve (environment m id)) (λ (z : Pair (environment m id)). z.world) (λ s w o v h. h.1) steps outcomes all a b h

  pub follows_nets : (a b : Pair (environment m id)) (steps : List Step) (outcomes : List Outcome) (all : Bool) → PairFollows m id steps outcomes all a b → NetFollows m steps outcomes all a.net b.net
  follows_nets a b steps outcomes all h = leads_map serves (NetServe m) (λ (z : Pair (environment m id)). z.net) (λ s w o v h. h.0) steps outcomes all a b h

pub pairs_worlds : {F : Type 0} (m : Meaning F) (old new : NetSeen) (steps : List Step) (outcomes : List Outcome) (all : Bool) → FollowPairs m steps outcomes all old new → KeepsWorld m old new (λ e w v. Follows e steps outcomes all w v)
pairs_worlds m old new steps outcomes all pairs id w shows coherent =
    let b = pairs id w shows coherent in
    (b.0, b.1, b.2, follows_worlds m id (with_world old w shows coherent) (with_world new b.0 b.1 b.2) steps outcomes all b.3)
