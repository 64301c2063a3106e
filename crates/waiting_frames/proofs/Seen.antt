-- Lists of bytes by what contracts see of them.
use Rattle.std.proofs.Common.{◌≡◌, ℕ, zero, suc, ◌+◌, arith, Bool, true, false, not, ◌||◌, List, [], ◌∷◌, ◌++◌, refl, sym, ◌∙◌, ap, map, take, drop, remove, slice_get, subst}
use Rattle.std.specs.Prelude.{bytes_eq, if◌then◌else◌}
use Rattle.std.specs.List.{list_any, IsDistinct, AllByRecursion}
use Rattle.std.proofs.lemmas.Bool.{and_from, and_parts}
use Rattle.std.proofs.lemmas.List.{map-append, take-map, drop-map}
use Rattle.indexmap.specs.IndexSet.{insert_key}
use Rattle.waiting_frames.specs.Waiting.{is_waiting, joined, waits_once}

-- one frame fewer
pub dropped_next : {V : Type 0} (n : ℕ) (ks : List V) → drop (n + 1) ks ≡ remove (drop n ks) 0
dropped_next n ks = let next : n + 1 ≡ suc n = omega arith in ap (λ k. drop k ks) next ∙ by n ks
  where
    by : {V : Type 0} (n : ℕ) (ks : List V) → drop (suc n) ks ≡ remove (drop n ks) 0
    by zero [] = refl
    by zero (k ∷ ks) = refl
    by (suc n) [] = refl
    by (suc n) (k ∷ ks) = by n ks

-- the frame at a place of those that wait
pub get_behind : {V : Type 0} (n i : ℕ) (ks : List V) → slice_get (drop n ks) i ≡ slice_get ks (n + i)
get_behind {V} n i ks = let sum : i + n ≡ n + i = omega arith in by n ks ∙ ap (slice_get ks) sum
  where
    by : (n : ℕ) (ks : List V) → slice_get (drop n ks) i ≡ slice_get ks (i + n)
    by zero ks = let sum : i ≡ i + 0 = omega arith in ap (slice_get ks) sum
    by (suc n) [] = refl
    by (suc n) (k ∷ ks) = let sum : suc (i + n) ≡ i + suc n = omega arith in by n ks ∙ ap (slice_get (k ∷ ks)) sum

module _ {V : Type 0} (items : V → List ℕ) where
  -- equal bytes are found exactly where they wait
  pub any_is : (frame : List ℕ) (ks : List V) → list_any (λ k. bytes_eq frame (items k)) ks ≡ is_waiting frame (map items ks)
  any_is frame [] = refl
  any_is frame (k ∷ ks) = ap (λ b. bytes_eq frame (items k) || b) (any_is frame ks)

  none_later : (frame : List ℕ) (ks : List V)
      → AllByRecursion (λ k. bytes_eq frame (items k) ≡ false) ks → is_waiting frame (map items ks) ≡ false
  none_later frame [] h = refl
  none_later frame (k ∷ ks) h = ap (λ b. b || is_waiting frame (map items ks)) h.0 ∙ none_later frame ks h.1

  -- distinct keys are frames of which no two are equal
  pub once_is : (ks : List V) → IsDistinct (λ a b. bytes_eq (items a) (items b)) ks → waits_once (map items ks) ≡ true
  unfolding IsDistinct
  once_is [] h = refl
  once_is (k ∷ ks) h = and_from _ _ (ap not (none_later (items k) ks h.0)) (once_is ks h.1)

  -- a key that is inserted joins the frames
  pub joined_is : (v : V) (ks : List V)
      → map items (insert_key (λ a b. bytes_eq (items a) (items b)) ks v) ≡ joined (items v) (map items ks)
  joined_is v ks =
      by (list_any (λ k. bytes_eq (items v) (items k)) ks)
      ∙ ap (λ b. if b then map items ks else map items ks ++ items v ∷ []) (any_is (items v) ks)
    where
      by : (b : Bool) → map items (if b then ks else ks ++ v ∷ []) ≡ (if b then map items ks else map items ks ++ items v ∷ [])
      by true = refl
      by false = map-append items ks (v ∷ [])

  pub removed_is : (ks : List V) (i : ℕ) → map items (remove ks i) ≡ remove (map items ks) i
  removed_is ks i =
      map-append items (take i ks) (drop (suc i) ks)
      ∙ (λ j. sym (take-map items i ks) j ++ sym (drop-map items (suc i) ks) j)

  -- of which no two are equal either
  pub once_fewer : (n : ℕ) (ks : List V) → waits_once (map items (drop n ks)) ≡ true → waits_once (map items (drop (n + 1) ks)) ≡ true
  once_fewer n ks once = let next : suc n ≡ n + 1 = omega arith in subst (λ k. waits_once (map items (drop k ks)) ≡ true) next (by n ks once)
    where
      by : (n : ℕ) (ks : List V) → waits_once (map items (drop n ks)) ≡ true → waits_once (map items (drop (suc n) ks)) ≡ true
      by zero [] h = h
      by zero (k ∷ ks) h = (and_parts _ _ h).1
      by (suc n) [] h = h
      by (suc n) (k ∷ ks) h = by n ks h
