-- The merged causes hold each journal, and nothing else.
use Rattle.std.proofs.Common.{◌≡◌, ℕ, zero, suc, ◌≤◌, ◌<◌, List, [], ◌∷◌, Option, Some, None, Bool, true, false, cond, ◌==◌, length, slice_get, get_or, refl, sym, ap, ◌∙◌, arith}
use Rattle.std.specs.List.{AllByRecursion}
use Rattle.std.proofs.lemmas.Bool.{eq-eqb, eqb-true, eqb-false, ne_eqb}
use Rattle.net_base.specs.declared.causes.Cause.{Cause}
use Rattle.net_base.proofs.Lists.{all_weaken}
use Rattle.net_model.specs.Runs.{merge, merged, stamp_of, causes_at, MergesEach}
use Rattle.net_model.proofs.Local.{of_node}
use Rattle.net_model.proofs.Merging.{merge_keeps, merge_from_nodes}

-- the causes of a node, the node's number on either side of the test
at_either : (p : ℕ) (xs : List (ℕ × Cause)) → causes_at p xs ≡ of_node p xs
at_either p [] = refl
at_either p (x ∷ xs) = by (p == x.0) refl (at_either p xs)
  where
    opened : (b : Bool) → (x.0 == p) ≡ b → causes_at p (x ∷ xs) ≡ elim b [ true ↦ x.1 ∷ causes_at p xs | false ↦ causes_at p xs ]
    opened b turned = ap (λ (c : Bool). elim c as (λ d. List Cause) [ true ↦ x.1 ∷ causes_at p xs | false ↦ causes_at p xs ]) turned

    by : (b : Bool) → (p == x.0) ≡ b → causes_at p xs ≡ of_node p xs → causes_at p (x ∷ xs) ≡ cond b (x.1 ∷ of_node p xs) (of_node p xs)
    by true is rest = let turned : (x.0 == p) ≡ true = eq-eqb x.0 p (sym (eqb-true p x.0 is)) in opened true turned ∙ ap (λ l. x.1 ∷ l) rest
    by false is rest = let turned : (x.0 == p) ≡ false = ne_eqb x.0 p (λ k. eqb-false p x.0 is (sym k)) in opened false turned ∙ rest

-- a node behind all of the list has none of it
of_earlier : (p : ℕ) (xs : List (ℕ × Cause)) → AllByRecursion (λ x. x.0 < p) xs → of_node p xs ≡ []
of_earlier p [] h = refl
of_earlier p (x ∷ xs) h = let l = h.0 in let e : (p == x.0) ≡ false = ne_eqb p x.0 (λ k. omega (arith, k, l)) in rw e (of_earlier p xs h.1)

past_all : (journals : List (List Cause)) (p : ℕ) → slice_get journals p ≡ None → (length journals ≤ p) × (get_or journals p [] ≡ [])
past_all [] p h = (omega arith, refl)
past_all (x ∷ xs) zero h = cc
past_all (x ∷ xs) (suc p) h = let r = past_all xs p h in let l = r.0 in (omega (arith, l), r.1)

there : (journals : List (List Cause)) (p : ℕ) (causes : List Cause) → slice_get journals p ≡ Some causes → causes ≡ get_or journals p []
there [] p causes h = cc
there (x ∷ xs) zero causes h = let same : Some x ≡ Some causes = h in let one : x ≡ causes = cc same in sym one
there (x ∷ xs) (suc p) causes h = there xs p causes h

pub merges_each : MergesEach
unfolding merge
merges_each journals p = at_either p (merged journals) ∙ by (slice_get journals p) refl
  where
    by : (o : Option (List Cause)) → slice_get journals p ≡ o → of_node p (merged journals) ≡ get_or journals p []
    by (Some causes) is = merge_keeps stamp_of journals p causes is ∙ there journals p causes is
    by None is = let r = past_all journals p is in let l = r.0 in of_earlier p (merged journals) (all_weaken _ (λ x. x.0 < p) _ (λ x k. let m = k.1 in omega (arith, l, m)) (merge_from_nodes stamp_of 0 journals)) ∙ sym r.1
