-- Tests that hold of all of a list.
use Rattle.std.proofs.Common.{◌≡◌, ℕ, zero, suc, List, [], ◌∷◌, ◌++◌, Option, Some, None, Bool, true, map, option_to_list, slice_get, slice_set, refl, subst}
use Rattle.std.specs.List.{list_all}
use Rattle.std.proofs.lemmas.Bool.{and_parts, and_from}
use Rattle.net_base.proofs.Options.{some_eq}

pub all_append : {X : Type 0} (test : X → Bool) (xs ys : List X) → list_all test xs ≡ true → list_all test ys ≡ true → list_all test (xs ++ ys) ≡ true
all_append test [] ys h k = k
all_append test (x ∷ xs) ys h k = let p = and_parts _ _ h in and_from _ _ p.0 (all_append test xs ys p.1 k)

pub all_one : {X : Type 0} (test : X → Bool) (x : X) → test x ≡ true → list_all test (x ∷ []) ≡ true
all_one test x h = and_from _ _ h refl

pub all_option : {X : Type 0} (test : X → Bool) (o : Option X) → ((x : X) → o ≡ Some x → test x ≡ true) → list_all test (option_to_list o) ≡ true
all_option test None f = refl
all_option test (Some x) f = all_one test x (f x refl)

pub all_set : {X : Type 0} (test : X → Bool) (xs : List X) (n : ℕ) (x : X) → list_all test xs ≡ true → test x ≡ true → list_all test (slice_set xs n x) ≡ true
all_set test [] n x h k = h
all_set test (y ∷ xs) zero x h k = let p = and_parts _ _ h in and_from _ _ k p.1
all_set test (y ∷ xs) (suc n) x h k = let p = and_parts _ _ h in and_from _ _ p.0 (all_set test xs n x p.1 k)

pub all_get : {X : Type 0} (test : X → Bool) (xs : List X) (n : ℕ) (x : X) → list_all test xs ≡ true → slice_get xs n ≡ Some x → test x ≡ true
all_get test [] n x h e = cc
all_get test (y ∷ xs) zero x h e = subst (λ z. test z ≡ true) (some_eq e) (and_parts _ _ h).0
all_get test (y ∷ xs) (suc n) x h e = all_get test xs n x (and_parts _ _ h).1 e

pub all_mapped : {X : Type 0} (test : X → Bool) (f : X → X) (xs : List X) → ((x : X) → test x ≡ true → test (f x) ≡ true) → list_all test xs ≡ true → list_all test (map f xs) ≡ true
all_mapped test f [] g h = refl
all_mapped test f (x ∷ xs) g h = let p = and_parts _ _ h in and_from _ _ (g x p.0) (all_mapped test f xs g p.1)
