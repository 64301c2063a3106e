-- Lists of which one place was set.
use Rattle.std.proofs.Common.{◌≡◌, ◌⊎◌, inl, inr, ⊎_elim, ℕ, zero, suc, ◌+◌, ◌<◌, List, [], ◌∷◌, slice_set, Some, refl, sym, ap, subst, arith}
use Rattle.std.specs.List.{slice_get}
use Rattle.std.proofs.lemmas.Bool.{cases_lt}
use Rattle.net_base.proofs.Lists.{get_set}

-- of two lists with one place set in both
pub get_set_both : {X Y : Type 0} (xs : List X) (ys : List Y) (i : ℕ) (a : X) (b : Y) (q : ℕ) (z : X) (u : Y) → slice_get (slice_set xs i a) q ≡ Some z → slice_get (slice_set ys i b) q ≡ Some u
    → ((q ≡ i) × (z ≡ a) × (u ≡ b)) ⊎ ((slice_get xs q ≡ Some z) × (slice_get ys q ≡ Some u))
get_set_both [] [] i a b q z u h g = cc
get_set_both [] (y ∷ ys) i a b q z u h g = cc
get_set_both (x ∷ xs) [] i a b q z u h g = cc
get_set_both (x ∷ xs) (y ∷ ys) zero a b zero z u h g = inl (refl, cc, cc)
get_set_both (x ∷ xs) (y ∷ ys) zero a b (suc q) z u h g = inr (h, g)
get_set_both (x ∷ xs) (y ∷ ys) (suc i) a b zero z u h g = inr (h, g)
get_set_both (x ∷ xs) (y ∷ ys) (suc i) a b (suc q) z u h g = ⊎_elim (λ s. inl (ap suc s.0, s.1, s.2)) (λ s. inr s) (get_set_both xs ys i a b q z u h g)

-- what stands at another place after one was set
pub set_apart : {X : Type 0} (xs : List X) (i q : ℕ) (y z : X) → (q ≡ i → ⊥) → slice_get (slice_set xs i y) q ≡ Some z → slice_get xs q ≡ Some z
set_apart xs i q y z other at = ⊎_elim (λ s. absurd (other s.0)) (λ s. s) (get_set xs i y q z at)

pub set_here : {X : Type 0} (xs : List X) (i : ℕ) (y z : X) → slice_get (slice_set xs i y) i ≡ Some z → z ≡ y
set_here [] i y z at = cc
set_here (x ∷ xs) zero y z at = cc
set_here (x ∷ xs) (suc i) y z at = set_here xs i y z at

-- ---- what all of a list are

-- up to a place, and one more
pub upto_more : {X : Type 0} (P : X → Type 0) (xs : List X) (place : ℕ) (y : X) → ((q : ℕ) (x : X) → q < place → slice_get xs q ≡ Some x → P x) → P y → (q : ℕ) (x : X) → q < place + 1 → slice_get (slice_set xs place y) q ≡ Some x → P x
upto_more {X} P xs place y before p q x lt at =
    ⊎_elim
    (λ below. before q x below (set_apart xs place q y x (λ s. absurd (omega (arith, s, below))) at))
    (λ above.
    let here : q ≡ place = omega (arith, above, lt) in
    let mine : x ≡ y = set_here xs place y x (subst (λ (i : ℕ). slice_get (slice_set xs place y) i ≡ Some x) here at) in
    subst (λ (z : X). P z) (sym mine) p)
    (cases_lt q place)
