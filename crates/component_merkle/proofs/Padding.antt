-- A tree whose hashes are a power of two has no pad.
use Rattle.std.proofs.Common.{◌≡◌, inl, inr, ℕ, zero, suc, ◌*◌, ◌/◌, ◌%◌, ◌<◌, ◌≤◌, ◌^◌, true, List, [], ◌∷◌, ◌++◌, length, take, drop, count_ones, refl, ◌∙◌, arith}
use Rattle.std.proofs.lemmas.Bool.{cases_lt}
use Rattle.std.proofs.lemmas.List.{length-take, length-drop}
use Rattle.std.proofs.lemmas.Nat.{zero_from_ones, ones_le_self}
use Rattle.std.proofs.Math.Pow.{pow_mono}
use Rattle.std.proofs.lemmas.Bool.Decides.{nat_tests}
use Rattle.std.specs.Int.{is_power_of_two}
use lib.Count.{ones_step}
use Rattle.sha2.specs.Sha256.{sha256}
use Rattle.component_merkle.specs.Levels.{tree}

pow_double : (d : ℕ) → 2 ^ suc d ≡ 2 * 2 ^ d
pow_double d = omega arith

-- where no hash lacks, the pad is not used
pub tree_full : (d : ℕ) (pad other : List ℕ) (xs : List (List ℕ)) → length xs ≡ 2 ^ d → tree d pad xs ≡ tree d other xs
tree_full zero pad other [] long = absurd (omega arith)
tree_full zero pad other (x ∷ xs) long = refl
tree_full (suc d) pad other xs long =
    let two = pow_double d in
    let left = tree_full d pad other (take (2 ^ d) xs) (omega (arith, length-take (2 ^ d) xs, two)) in
    let right = tree_full d pad other (drop (2 ^ d) xs) (omega (arith, length-drop (2 ^ d) xs, two)) in
    λ i. sha256 (left i ++ right i)

-- a number of which one bit is set is a power of two
one_bit : (fuel n : ℕ) → n ≤ fuel → count_ones n ≡ 1 → (k : ℕ) × (n ≡ 2 ^ k)
one_bit zero n le one = absurd (omega (arith, ones_le_self n))
one_bit (suc fuel) n le one =
    let step = ones_step n in
    elim (cases_lt (n % 2) 1) [
      | inl even ↦
          let half = one_bit fuel (n / 2) (omega (arith, ones_le_self n)) (omega arith) in
          (suc half.0, omega (arith, half.1, pow_double half.0))
      | inr odd ↦
          let none = zero_from_ones (n / 2) (omega arith) in
          (0, omega arith)
    ]

-- the least power of two that is not below a power of two is that one
least_power : (d k n : ℕ) → n ≡ 2 ^ k → n ≤ 2 ^ d → 2 ^ d < 2 * n → n ≡ 2 ^ d
least_power d k n is fits least =
    elim (cases_lt k d) [
      | inl lt ↦ absurd (omega (arith, pow_mono lt, pow_double k))
      | inr ge ↦ omega (arith, pow_mono ge)
    ]

-- over a power of two of hashes any pad makes the same tree
pub any_pad : (n : ℕ) (pad other : List ℕ) → is_power_of_two n ≡ true → (d : ℕ) (xs : List (List ℕ)) → length xs ≡ n → n ≤ 2 ^ d → 2 ^ d < 2 * n → tree d pad xs ≡ tree d other xs
any_pad n pad other test d xs long fits least =
    let one : count_ones n ≡ 1 = grind (arith, nat_tests) in
    let power = one_bit n n (omega arith) one in
    tree_full d pad other xs (long ∙ least_power d power.0 n power.1 fits least)
