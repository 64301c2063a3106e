-- A list with one item changed or added.
use Rattle.std.proofs.Common.{◌≡◌, ℕ, zero, suc, ◌+◌, ◌-◌, ◌≤◌, ◌<◌, List, [], ◌∷◌, ◌++◌, length, take, drop, slice_set, refl, ap, arith}

-- an item changed, as what stands before it, the new one and what stands behind it
pub set_parts : {X : Type 0} (xs : List X) (k : ℕ) (y : X) → k < length xs → slice_set xs k y ≡ take k xs ++ y ∷ drop (suc k) xs
set_parts [] k y lt = absurd (omega (arith, lt))
set_parts (x ∷ xs) zero y lt = refl
set_parts (x ∷ xs) (suc k) y lt = ap (λ (l : List _). x ∷ l) (set_parts xs k y (omega (arith, lt)))

-- an item added at the end
pub push_parts : {X : Type 0} (xs : List X) (k : ℕ) (y : X) → k ≡ length xs → xs ++ y ∷ [] ≡ take k xs ++ y ∷ drop (suc k) xs
push_parts [] zero y e = refl
push_parts [] (suc k) y e = absurd (omega (arith, e))
push_parts (x ∷ xs) zero y e = absurd (omega (arith, e))
push_parts (x ∷ xs) (suc k) y e = ap (λ (l : List _). x ∷ l) (push_parts xs k y (omega (arith, e)))

-- there is at most one more
pub length_parts : {X : Type 0} (xs : List X) (k : ℕ) (y : X) → k ≤ length xs → length (take k xs ++ y ∷ drop (suc k) xs) ≤ length xs + 1
length_parts [] zero y le = omega arith
length_parts [] (suc k) y le = absurd (omega (arith, le))
length_parts (x ∷ xs) zero y le = omega arith
length_parts (x ∷ xs) (suc k) y le = omega (arith, length_parts xs k y (omega (arith, le)))

-- there are no more than what there were and the changed place are within
pub length_within : {X : Type 0} (xs : List X) (k most : ℕ) (y : X) → k ≤ length xs → k < most → length xs ≤ most → length (take k xs ++ y ∷ drop (suc k) xs) ≤ most
length_within [] zero most y le lt few = omega (arith, lt)
length_within [] (suc k) most y le lt few = absurd (omega (arith, le))
length_within (x ∷ xs) zero most y le lt few = omega (arith, few)
length_within (x ∷ xs) (suc k) most y le lt few = omega (arith, lt, length_within xs k (most - 1) y (omega (arith, le)) (omega (arith, lt)) (omega (arith, few)))
