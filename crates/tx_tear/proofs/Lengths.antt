-- Hashes have 32 bytes: digests, roots, values of groups.
use Rattle.std.proofs.Common.{◌≡◌, inl, inr, ℕ, zero, suc, ◌+◌, ◌-◌, ◌*◌, ◌≤◌, ◌^◌, false, List, [], ◌∷◌, length, take, drop, replicate, nat_le, refl, ◌∙◌, ap, arith}
use Rattle.std.specs.Prelude.{slice_index}
use Rattle.std.specs.List.{AllByRecursion}
use Rattle.std.specs.Int.{w32, to_be_bytes}
use Rattle.std.proofs.lemmas.Bool.{cases_lt, le-leb}
use Rattle.std.proofs.lemmas.Bool.Decides.{nat_tests}
use Rattle.std.proofs.lemmas.List.{length-append, length-take-le, length-drop}
use Rattle.net_base.proofs.Lists.{all_append}
use Rattle.sha2.specs.Sha256.{sha256, digest_bytes}
use Rattle.component_merkle.specs.Merkle.{halves, padded, depth, depth_from, root_of, group_of, zeros}
use Rattle.component_merkle.proofs.Rooted.{length-padded, below_pow}
use Rattle.ledger_types.specs.Ids.{leaves_from, value_of, values_from}
use Rattle.tx_tear.specs.Agreement.{Are32}

-- ---- lists

pub all_replicate : {A : Type 0} (P : A → Type 0) (n : ℕ) (x : A) → P x → AllByRecursion P (replicate n x)
all_replicate P zero x h = tt
all_replicate P (suc n) x h = (h, all_replicate P n x h)

-- ---- digests

length_words : (h : List ℕ) (n : ℕ) → length (digest_bytes h n) ≡ 4 * n
unfolding digest_bytes
length_words h zero = refl
length_words h (suc n) =
    let word : length (to_be_bytes w32 (slice_index h n)) ≡ 4 = refl in
    omega (arith, length-append (digest_bytes h n) (to_be_bytes w32 (slice_index h n)), word, length_words h n)

-- a digest has 32 bytes
pub length_digest : (m : List ℕ) → length (sha256 m) ≡ 32
unfolding sha256
length_digest m = length_words _ 8

-- ---- depths

pow_double : (d : ℕ) → 2 ^ suc d ≡ 2 * 2 ^ d
pow_double d = omega arith

fits_from : (fuel d n : ℕ) → n ≤ 2 ^ (d + fuel) → n ≤ 2 ^ depth_from fuel d n
fits_from zero d n le = let same : d + 0 ≡ d = omega arith in rw (← same) le
fits_from (suc fuel) d n le =
    elim (cases_lt (2 ^ d) n) [
      | inl lt ↦
          let test : nat_le n (2 ^ d) ≡ false = grind (arith, nat_tests) in
          let sum : d + suc fuel ≡ suc d + fuel = omega arith in
          rw test (fits_from fuel (suc d) n (rw (← sum) le))
      | inr ge ↦ rw (le-leb n (2 ^ d) ge) ge
    ]

-- a list is no longer than a tree of its depth is wide
pub fits : (n : ℕ) → n ≤ 2 ^ depth n
fits n = let sum : 0 + n ≡ n = omega arith in fits_from n 0 n (rw sum (below_pow n))

pub long_padded : (d : ℕ) (xs : List (List ℕ)) → Are32 xs → Are32 (padded d xs)
long_padded d xs h = all_append _ xs (replicate (2 ^ d - length xs) zeros) h (all_replicate _ (2 ^ d - length xs) zeros refl)

-- the halves of a list of 2 ^ (d + 1)
pub length_left : (d : ℕ) (xs : List (List ℕ)) → length xs ≡ 2 ^ suc d → length (take (2 ^ d) xs) ≡ 2 ^ d
length_left d xs e = length-take-le (2 ^ d) xs (omega (arith, pow_double d))

pub length_right : (d : ℕ) (xs : List (List ℕ)) → length xs ≡ 2 ^ suc d → length (drop (2 ^ d) xs) ≡ 2 ^ d
length_right d xs e = omega (arith, length-drop (2 ^ d) xs, pow_double d)

-- ---- roots

pub long_halves : (d : ℕ) (xs : List (List ℕ)) → length xs ≡ 2 ^ d → Are32 xs → length (halves d xs) ≡ 32
long_halves zero [] e h = absurd (omega arith)
long_halves zero (x ∷ xs) e h = h.0
long_halves (suc d) xs e h = length_digest _

-- the root of any list is by halves, of none too
pub root_halves : (xs : List (List ℕ)) → root_of xs ≡ halves (depth (length xs)) (padded (depth (length xs)) xs)
unfolding root_of
root_halves [] = refl
root_halves (x ∷ xs) = refl

pub long_root : (xs : List (List ℕ)) → Are32 xs → length (root_of xs) ≡ 32
long_root xs h =
    let d = depth (length xs) in
    ap length (root_halves xs) ∙ long_halves d (padded d xs) (length-padded d xs (fits (length xs))) (long_padded d xs h)

pub long_group : (xs : List (List ℕ)) → Are32 xs → length (group_of xs) ≡ 32
unfolding group_of
long_group [] h = refl
long_group (x ∷ xs) h = long_root (x ∷ xs) h

long_leaves : (salt : List ℕ) (group place : ℕ) (bs : List (List ℕ)) → Are32 (leaves_from salt group place bs)
long_leaves salt group place [] = tt
long_leaves salt group place (b ∷ bs) = (length_digest _, long_leaves salt group (place + 1) bs)

pub long_value : (salt : List ℕ) (group : ℕ) (bs : List (List ℕ)) → length (value_of salt group bs) ≡ 32
unfolding value_of
long_value salt group bs = long_group (leaves_from salt group 0 bs) (long_leaves salt group 0 bs)

pub long_values : (salt : List ℕ) (group : ℕ) (gs : List (List (List ℕ))) → Are32 (values_from salt group gs)
long_values salt group [] = tt
long_values salt group (bs ∷ gs) = (long_value salt group bs, long_values salt (group + 1) gs)
