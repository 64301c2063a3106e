-- The root with implicit padding is the one by halves of the padded list.
use Rattle.std.proofs.Common.{◌≡◌, inl, inr, ℕ, zero, suc, ◌+◌, ◌-◌, ◌*◌, ◌<◌, ◌≤◌, ◌^◌, false, List, [], ◌∷◌, ◌++◌, length, take, drop, replicate, nat_le, refl, sym, ◌∙◌, ap, append_assoc, arith}
use Rattle.std.proofs.lemmas.Bool.{cases_lt, le-leb}
use Rattle.std.proofs.lemmas.Bool.Decides.{nat_tests}
use Rattle.std.proofs.lemmas.Nat.{pow_pos}
use Rattle.std.proofs.lemmas.List.{length-append, length-replicate, take_at, drop_at, take_all, drop_all, length-take, length-drop, take-append-drop, append-nil, replicate-append-replicate}
use Rattle.sha2.specs.Sha256.{sha256}
use Rattle.component_merkle.specs.Levels.{tree}
use Rattle.component_merkle.specs.Merkle.{halves, padded, depth, depth_from, root_of, group_of, zeros}

pow_double : (d : ℕ) → 2 ^ suc d ≡ 2 * 2 ^ d
pow_double d = omega arith

pub length-padded : (d : ℕ) (xs : List (List ℕ)) → length xs ≤ 2 ^ d → length (padded d xs) ≡ 2 ^ d
length-padded d xs le = omega (arith, length-append xs (replicate (2 ^ d - length xs) zeros), length-replicate (2 ^ d - length xs) zeros)

joined : (d : ℕ) (xs : List (List ℕ)) → length xs ≤ 2 ^ suc d → padded (suc d) xs ≡ padded d (take (2 ^ d) xs) ++ padded d (drop (2 ^ d) xs)
joined d xs le =
    let h = 2 ^ d in
    let two = pow_double d in
    elim (cases_lt h (length xs)) [
      | inl lt ↦
          let full : h - length (take h xs) ≡ 0 = omega (arith, length-take h xs) in
          let left : padded d (take h xs) ≡ take h xs = ap (λ (n : ℕ). take h xs ++ replicate n zeros) full ∙ append-nil (take h xs) in
          let count : h - length (drop h xs) ≡ 2 ^ suc d - length xs = omega (arith, length-drop h xs, two) in
          ap (λ (l : List (List ℕ)). l ++ replicate (2 ^ suc d - length xs) zeros) (sym (take-append-drop h xs))
          ∙ append_assoc (take h xs) (drop h xs) (replicate (2 ^ suc d - length xs) zeros)
          ∙ ap (λ (n : ℕ). take h xs ++ (drop h xs ++ replicate n zeros)) (sym count)
          ∙ ap (λ (l : List (List ℕ)). l ++ padded d (drop h xs)) (sym left)
      | inr ge ↦
          let all : take h xs ≡ xs = take_all h xs ge in
          let none : drop h xs ≡ [] = drop_all h xs ge in
          let count : 2 ^ suc d - length xs ≡ (h - length xs) + (h - 0) = omega (arith, two) in
          ap (λ (n : ℕ). xs ++ replicate n zeros) count
          ∙ ap (λ (l : List (List ℕ)). xs ++ l) (sym (replicate-append-replicate (h - length xs) (h - 0) zeros))
          ∙ sym (append_assoc xs (replicate (h - length xs) zeros) (replicate (h - 0) zeros))
          ∙ (λ i. padded d (sym all i) ++ padded d (sym none i))
    ]

tree_halves : (d : ℕ) (xs : List (List ℕ)) → length xs ≤ 2 ^ d → tree d zeros xs ≡ halves d (padded d xs)
tree_halves zero [] le = refl
tree_halves zero (x ∷ []) le = refl
tree_halves zero (x ∷ y ∷ xs) le = absurd (omega arith)
tree_halves (suc d) xs le =
    let h = 2 ^ d in
    let two = pow_double d in
    let short : length (take h xs) ≤ 2 ^ d = omega (arith, length-take h xs) in
    let rest : length (drop h xs) ≤ 2 ^ d = omega (arith, length-drop h xs, two) in
    let j = joined d xs le in
    let len = length-padded d (take h xs) short in
    let left : take h (padded (suc d) xs) ≡ padded d (take h xs) = ap (take h) j ∙ take_at (padded d (take h xs)) (padded d (drop h xs)) h len in
    let right : drop h (padded (suc d) xs) ≡ padded d (drop h xs) = ap (drop h) j ∙ drop_at (padded d (take h xs)) (padded d (drop h xs)) h len in
    let l : tree d zeros (take h xs) ≡ halves d (take h (padded (suc d) xs)) = tree_halves d (take h xs) short ∙ ap (halves d) (sym left) in
    let r : tree d zeros (drop h xs) ≡ halves d (drop h (padded (suc d) xs)) = tree_halves d (drop h xs) rest ∙ ap (halves d) (sym right) in
    λ i. sha256 (l i ++ r i)

record IsDepth (d n : ℕ) : Type 0 where
  fits : n ≤ 2 ^ d
  least : 2 ^ d < 2 * n

least_from : (fuel d n : ℕ) → 2 ^ d < 2 * n → n ≤ 2 ^ (d + fuel) → IsDepth (depth_from fuel d n) n
least_from zero d n low le = let same : d + 0 ≡ d = omega arith in record { fits = rw (← same) le; least = low }
least_from (suc fuel) d n low le =
    elim (cases_lt (2 ^ d) n) [
      | inl lt ↦
          let test : nat_le n (2 ^ d) ≡ false = grind (arith, nat_tests) in
          let two = pow_double d in
          let sum : d + suc fuel ≡ suc d + fuel = omega arith in
          rw test (least_from fuel (suc d) n (omega (arith, two)) (rw (← sum) le))
      | inr ge ↦ rw (le-leb n (2 ^ d) ge) (record { fits = ge; least = low })
    ]

pub below_pow : (n : ℕ) → n ≤ 2 ^ n
below_pow zero = omega arith
below_pow (suc n) = omega (arith, below_pow n, pow_double n, pow_pos n)

pub root_is : (xs : List (List ℕ)) (r : List ℕ) → 0 < length xs → ((d : ℕ) → length xs ≤ 2 ^ d → 2 ^ d < 2 * length xs → r ≡ tree d zeros xs) → r ≡ root_of xs
unfolding root_of
root_is [] r some each = absurd (omega arith)
root_is (x ∷ xs) r some each =
    let n = length (x ∷ xs) in
    let sum : 0 + n ≡ n = omega arith in
    let is = least_from n 0 n (omega arith) (rw sum (below_pow n)) in
    each (depth n) is.fits is.least ∙ tree_halves (depth n) (x ∷ xs) is.fits

pub root_none : (xs : List (List ℕ)) → length xs ≡ 0 → root_of xs ≡ zeros
unfolding root_of
root_none [] e = refl
root_none (x ∷ xs) e = absurd (omega arith)

pub group_none : (xs : List (List ℕ)) → length xs ≡ 0 → group_of xs ≡ replicate 32 255
unfolding group_of
group_none [] e = refl
group_none (x ∷ xs) e = absurd (omega arith)

pub group_some : (xs : List (List ℕ)) → 0 < length xs → group_of xs ≡ root_of xs
unfolding group_of
group_some [] e = absurd (omega arith)
group_some (x ∷ xs) e = refl
