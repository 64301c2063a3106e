-- Along a run the stamps of each node rise.
use Rattle.std.proofs.Common.{◌≡◌, ℕ, zero, suc, ◌<◌, ◌==◌, List, [], ◌∷◌, ◌++◌, Option, Some, None, true, false, IsSome, option_and_then, slice_get, slice_set, replicate, ⊎_elim, refl, sym, ap, subst}
use Rattle.std.proofs.lemmas.Bool.{eqb-true, eqb-false}
use Rattle.net_base.specs.declared.causes.Cause.{Cause}
use Rattle.net_base.proofs.Lists.{get_there}
use Rattle.net_model.specs.Environment.{Environment}
use Rattle.net_model.specs.State.{NodeState, Effect, fresh}
use Rattle.net_model.specs.Steps.{node_step}
use Rattle.net_model.specs.Runs.{item_for, net_step_at, net_step, run_from, fresh_net, run_of, stamp_of, AreRising, causes_at, StampsRise, PrefixesAreRuns}
use Rattle.net_model.proofs.Basics.{from_map, from_then, get_set}
use Rattle.net_model.proofs.Steps.{step_stamp}

-- the last stamp of a node, 0 where there is none
abbrev pub stamp_at : {F : Type 0} → Option (NodeState F) → ℕ
stamp_at None = 0
stamp_at (Some s) = s.stamp

module _ {F : Type 0} (w : Environment F) where
  step_mine : (net : List (NodeState F)) (q : ℕ) (cause : Cause) (done : List (NodeState F) × Effect F) → net_step w net q cause ≡ Some done
      → (stamp_at (slice_get net q) < cause.stamp) × (stamp_at (slice_get done.0 q) ≡ cause.stamp)
  unfolding net_step
  step_mine net q cause done h =
      from_then ((stamp_at (slice_get net q) < cause.stamp) × (stamp_at (slice_get done.0 q) ≡ cause.stamp)) (net_step_at w net q cause) (slice_get net q) done h (λ s here rest.
      from_map (λ d. (stamp_at (slice_get net q) < cause.stamp) × (stamp_at (slice_get d.0 q) ≡ cause.stamp)) (λ d. (slice_set net q d.0, d.1)) (node_step w q s cause (item_for net q s cause.event)) done rest (λ d is.
      let k = step_stamp w q s cause (item_for net q s cause.event) d is in
      (subst (λ o. stamp_at o < cause.stamp) (sym here) k.1, subst (λ o. stamp_at o ≡ cause.stamp) (sym (get_there net q s d.0 here)) k.0)))

  step_other : (net : List (NodeState F)) (q p : ℕ) (cause : Cause) (done : List (NodeState F) × Effect F) → net_step w net q cause ≡ Some done → (q == p) ≡ false
      → stamp_at (slice_get net p) ≡ stamp_at (slice_get done.0 p)
  unfolding net_step
  step_other net q p cause done h other =
      from_then (stamp_at (slice_get net p) ≡ stamp_at (slice_get done.0 p)) (net_step_at w net q cause) (slice_get net q) done h (λ s here rest.
      from_map (λ d. stamp_at (slice_get net p) ≡ stamp_at (slice_get d.0 p)) (λ d. (slice_set net q d.0, d.1)) (node_step w q s cause (item_for net q s cause.event)) done rest (λ d is.
      ⊎_elim (λ k. absurd (eqb-false q p other (sym k.0))) (λ k. sym (ap stamp_at k)) (get_set net q s d.0 p here)))

  from_is_some : {A B : Type 0} (P : Type 0) (f : A → Option B) (o : Option A) → IsSome (option_and_then f o) → ((a : A) → o ≡ Some a → IsSome (f a) → P) → P
  from_is_some P f None h p = cc
  from_is_some P f (Some a) h p = p a refl h

  rising : (net : List (NodeState F)) (causes : List (ℕ × Cause)) → IsSome (run_from w net causes) → (p : ℕ) → AreRising stamp_of (stamp_at (slice_get net p)) (causes_at p causes)
  rising net [] h p = tt
  rising net (x ∷ causes) h p =
      from_is_some (AreRising stamp_of (stamp_at (slice_get net p)) (causes_at p (x ∷ causes))) (λ done. run_from w done.0 causes) (net_step w net x.0 x.1) h (λ done here rest.
      (elim (x.0 == p) as (λ b. (x.0 == p) ≡ b → AreRising stamp_of (stamp_at (slice_get net p)) (elim b [ true ↦ x.1 ∷ causes_at p causes | false ↦ causes_at p causes ])) [
        | true ↦ λ mine.
            let k = subst (λ q. (stamp_at (slice_get net q) < x.1.stamp) × (stamp_at (slice_get done.0 q) ≡ x.1.stamp)) (eqb-true x.0 p mine) (step_mine net x.0 x.1 done here) in
            (k.0, subst (λ n. AreRising stamp_of n (causes_at p causes)) k.1 (rising done.0 causes rest p))
        | false ↦ λ other. subst (λ n. AreRising stamp_of n (causes_at p causes)) (sym (step_other net x.0 p x.1 done here other)) (rising done.0 causes rest p)
      ]) refl)

  prefix_from : (net : List (NodeState F)) (first rest : List (ℕ × Cause)) → IsSome (run_from w net (first ++ rest)) → IsSome (run_from w net first)
  prefix_from net [] rest h = refl
  prefix_from net (x ∷ first) rest h =
      from_is_some (IsSome (run_from w net (x ∷ first))) (λ done. run_from w done.0 (first ++ rest)) (net_step w net x.0 x.1) h (λ done here more.
      subst (λ o. IsSome (option_and_then (λ done. run_from w done.0 first) o)) (sym here) (prefix_from done.0 first rest more))

  fresh_stamp : (n p : ℕ) → stamp_at (slice_get (replicate n (fresh {F = F})) p) ≡ 0
  fresh_stamp zero p = refl
  fresh_stamp (suc n) zero = refl
  fresh_stamp (suc n) (suc p) = fresh_stamp n p

  pub stamps_of : (causes : List (ℕ × Cause)) → IsSome (run_of w causes) → (p : ℕ) → AreRising stamp_of 0 (causes_at p causes)
  unfolding run_of
  stamps_of causes h p = subst (λ n. AreRising stamp_of n (causes_at p causes)) (fresh_stamp w.nodes p) (rising (fresh_net w) causes h p)

pub stamps_rise : {F : Type 0} → StampsRise F
stamps_rise w causes h p = stamps_of w causes h p

pub prefixes_are_runs : {F : Type 0} → PrefixesAreRuns F
unfolding run_of
prefixes_are_runs w first rest h = prefix_from w (fresh_net w) first rest h
