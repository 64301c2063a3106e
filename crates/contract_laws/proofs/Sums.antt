-- Sums over lists.
use Rattle.std.proofs.Common.{◌≡◌, ℕ, ◌+◌, Bool, true, false, cond, List, [], ◌∷◌, sum_by, filter, refl, ap, sym, ◌∙◌, arith}
use Rattle.std.proofs.lemmas.List.Sums.{sum_by-cons}

module _ {X : Type 0} where
  -- over those that pass a test
  pub sum_filter : (f : X → ℕ) (p : X → Bool) (xs : List X) → sum_by f (filter p xs) ≡ sum_by (λ x. cond (p x) (f x) 0) xs
  sum_filter f p [] = refl
  sum_filter f p (x ∷ xs) = by (p x) (sum_filter f p xs) ∙ sym (sum_by-cons (λ y. cond (p y) (f y) 0) x xs)
    where
      by : (b : Bool) → sum_by f (filter p xs) ≡ sum_by (λ y. cond (p y) (f y) 0) xs → sum_by f (cond b (x ∷ filter p xs) (filter p xs)) ≡ cond b (f x) 0 + sum_by (λ y. cond (p y) (f y) 0) xs
      by true rest = sum_by-cons f x (filter p xs) ∙ ap (λ n. f x + n) rest
      by false rest = omega (arith, rest)

  -- of two terms each
  pub sum_both : (f g k : X → ℕ) (xs : List X) → ((x : X) → f x + g x ≡ k x) → sum_by f xs + sum_by g xs ≡ sum_by k xs
  sum_both f g k [] each = refl
  sum_both f g k (x ∷ xs) each = omega (arith, sum_by-cons f x xs, sum_by-cons g x xs, sum_by-cons k x xs, each x, sum_both f g k xs each)

  -- of equal terms
  pub sum_same : (f g : X → ℕ) (xs : List X) → ((x : X) → f x ≡ g x) → sum_by f xs ≡ sum_by g xs
  sum_same f g xs each = ap (λ (h : X → ℕ). sum_by h xs) (λ i x. each x i)

  pub sum_none : (f : X → ℕ) (xs : List X) → ((x : X) → f x ≡ 0) → sum_by f xs ≡ 0
  sum_none f [] each = refl
  sum_none f (x ∷ xs) each = omega (arith, sum_by-cons f x xs, each x, sum_none f xs each)
