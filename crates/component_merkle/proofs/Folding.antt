-- Folding pairs in place computes the tree by halves.
use Rattle.std.proofs.Common.{◌≡◌, ⊎_elim, ℕ, zero, suc, ◌+◌, ◌*◌, ◌/◌, ◌%◌, ◌<◌, ◌≤◌, ◌^◌, true, List, [], ◌∷◌, ◌++◌, length, take, drop, slice_index_or, nat_lt, if◌then◌else◌, refl, sym, ◌∙◌, ap, arith}
use Rattle.std.proofs.lemmas.Bool.Decides.{nat_tests}
use Rattle.std.proofs.lemmas.Bool.{cases_lt, lt-ltb, le-ltb}
use Rattle.std.proofs.lemmas.List.{ext_get_or, length-take-le, get_or-take}
use Rattle.sha2.specs.Sha256.{sha256}
use Rattle.component_merkle.specs.Levels.{tree, paired, pair_at}

-- twice k
double : ℕ → ℕ
double zero = zero
double (suc k) = suc (suc (double k))

double_is : (k : ℕ) → double k ≡ 2 * k
unfolding double
double_is zero = refl
double_is (suc k) = omega (arith, double_is k)

take_double : (pad : List ℕ) (k : ℕ) (xs : List (List ℕ)) → paired pad (take (double k) xs) ≡ take k (paired pad xs)
unfolding double
take_double pad zero xs = refl
take_double pad (suc k) [] = refl
take_double pad (suc zero) (x ∷ []) = refl
take_double pad (suc (suc k)) (x ∷ []) = refl
take_double pad (suc k) (x ∷ y ∷ rest) = ap (λ (l : List (List ℕ)). sha256 (x ++ y) ∷ l) (take_double pad k rest)

drop_double : (pad : List ℕ) (k : ℕ) (xs : List (List ℕ)) → paired pad (drop (double k) xs) ≡ drop k (paired pad xs)
unfolding double
drop_double pad zero xs = refl
drop_double pad (suc k) [] = refl
drop_double pad (suc zero) (x ∷ []) = refl
drop_double pad (suc (suc k)) (x ∷ []) = refl
drop_double pad (suc k) (x ∷ y ∷ rest) = drop_double pad k rest

pow_double : (d : ℕ) → 2 ^ suc d ≡ double (2 ^ d)
pow_double d = omega (arith, double_is (2 ^ d))

-- a level of pairs is one level of the tree
pub tree_paired : (d : ℕ) (pad : List ℕ) (xs : List (List ℕ)) → tree (suc d) pad xs ≡ tree d (sha256 (pad ++ pad)) (paired pad xs)
tree_paired zero pad [] = refl
tree_paired zero pad (x ∷ []) = refl
tree_paired zero pad (x ∷ y ∷ rest) = refl
tree_paired (suc d) pad xs =
    let above = sha256 (pad ++ pad) in
    let left : tree (suc d) pad (take (2 ^ suc d) xs) ≡ tree d above (take (2 ^ d) (paired pad xs)) =
    tree_paired d pad (take (2 ^ suc d) xs) ∙ ap (λ (n : ℕ). tree d above (paired pad (take n xs))) (pow_double d) ∙ ap (λ (l : List (List ℕ)). tree d above l) (take_double pad (2 ^ d) xs) in
    let right : tree (suc d) pad (drop (2 ^ suc d) xs) ≡ tree d above (drop (2 ^ d) (paired pad xs)) =
    tree_paired d pad (drop (2 ^ suc d) xs) ∙ ap (λ (n : ℕ). tree d above (paired pad (drop n xs))) (pow_double d) ∙ ap (λ (l : List (List ℕ)). tree d above l) (drop_double pad (2 ^ d) xs) in
    λ i. sha256 (left i ++ right i)

pub length-paired : (pad : List ℕ) (xs : List (List ℕ)) → length (paired pad xs) ≡ length xs / 2 + length xs % 2
length-paired pad [] = refl
length-paired pad (x ∷ []) = refl
length-paired pad (x ∷ y ∷ rest) = omega (arith, length-paired pad rest)

same_test : (k n m : ℕ) → m ≡ n + 2 → nat_lt (2 * k + 1) n ≡ nat_lt (2 * suc k + 1) m
same_test k n m is = ⊎_elim
    (λ (lt : 2 * k + 1 < n). lt-ltb _ _ lt ∙ sym (lt-ltb (2 * suc k + 1) m (omega arith)))
    (λ (ge : n ≤ 2 * k + 1). le-ltb _ _ ge ∙ sym (le-ltb (2 * suc k + 1) m (omega arith)))
    (cases_lt (2 * k + 1) n)

pub get-paired : (pad : List ℕ) (xs : List (List ℕ)) (k : ℕ) → 2 * k < length xs → slice_index_or (paired pad xs) k [] ≡ pair_at pad xs k
get-paired pad [] k lt = absurd (omega arith)
get-paired pad (x ∷ []) zero lt = refl
get-paired pad (x ∷ []) (suc k) lt = absurd (omega arith)
get-paired pad (x ∷ y ∷ rest) zero lt =
    let test : nat_lt (2 * 0 + 1) (length (x ∷ y ∷ rest)) ≡ true = grind (arith, nat_tests) in
    λ i. sha256 (x ++ (if sym test i then y else pad))
get-paired pad (x ∷ y ∷ rest) (suc k) lt =
    let test : nat_lt (2 * k + 1) (length rest) ≡ nat_lt (2 * suc k + 1) (length (x ∷ y ∷ rest)) = same_test k (length rest) (length (x ∷ y ∷ rest)) (omega arith) in
    let two : suc (suc (2 * k)) ≡ 2 * suc k = omega arith in
    let first : slice_index_or rest (2 * k) [] ≡ slice_index_or (x ∷ y ∷ rest) (2 * suc k) [] = ap (λ (n : ℕ). slice_index_or (x ∷ y ∷ rest) n []) two in
    let three : suc (suc (2 * k + 1)) ≡ 2 * suc k + 1 = omega arith in
    let second : slice_index_or rest (2 * k + 1) [] ≡ slice_index_or (x ∷ y ∷ rest) (2 * suc k + 1) [] = ap (λ (n : ℕ). slice_index_or (x ∷ y ∷ rest) n []) three in
    get-paired pad rest k (omega arith) ∙ (λ i. sha256 (first i ++ (if test i then second i else pad)))

-- what the loop wrote is the pairs
pub paired_is : (pad : List ℕ) (old new : List (List ℕ)) (half : ℕ) → half ≡ length old / 2 + length old % 2 → length new ≡ length old
    → ((k : ℕ) → 2 * k < length old → slice_index_or new k [] ≡ pair_at pad old k) → take half new ≡ paired pad old
paired_is pad old new half is same each =
    let few : half ≤ length new = omega arith in
    let long : length (take half new) ≡ half = length-take-le half new few in
    ext_get_or [] (take half new) (paired pad old) (long ∙ is ∙ sym (length-paired pad old)) (λ k lt.
    let below : k < half = omega (arith, long) in
    let inside : 2 * k < length old = omega (arith, below, is) in
    get_or-take half new k [] below ∙ each k inside ∙ sym (get-paired pad old k inside))

-- the root above the pairs is the root
pub one_up : (d : ℕ) (pad : List ℕ) (old new : List (List ℕ)) (r : List ℕ) → 2 ≤ length old → length new ≡ length old
    → ((k : ℕ) → 2 * k < length old → slice_index_or new k [] ≡ pair_at pad old k) → length old ≤ 2 ^ d → 2 ^ d < 2 * length old
    → ((e : ℕ) → length (take (length old / 2 + length old % 2) new) ≤ 2 ^ e → 2 ^ e < 2 * length (take (length old / 2 + length old % 2) new)
    → r ≡ tree e (sha256 (pad ++ pad)) (take (length old / 2 + length old % 2) new))
    → r ≡ tree d pad old
one_up zero pad old new r two same each fits least above = absurd (omega arith)
one_up (suc d) pad old new r two same each fits least above =
    let half = length old / 2 + length old % 2 in
    let long : length (take half new) ≡ half = length-take-le half new (omega arith) in
    let pow = double_is (2 ^ d) in
    let pow' = pow_double d in
    above d (omega (arith, long, pow, pow', fits)) (omega (arith, long, pow, pow', least))
    ∙ ap (λ (l : List (List ℕ)). tree d (sha256 (pad ++ pad)) l) (paired_is pad old new half refl same each)
    ∙ sym (tree_paired d pad old)
