-- Which sessions have an item that isn't acknowledged.
use Rattle.std.proofs.Common.{◌≡◌, ℕ, zero, suc, ◌<◌, Bool, true, false, ◌&&◌, ◌||◌, not, List, [], ◌∷◌, ◌++◌, Option, Some, None, refl, sym, ◌∙◌, ap, subst, cond, max, length, arith, is_some, get_or, nat_eq, nat_lt, position, true≢false}
use Rattle.std.proofs.lemmas.Bool.{eqb-true, ne_eqb, lt-ltb, ltb-true}
use Rattle.std.proofs.lemmas.Cmp.{nat_eq_equiv}
use Rattle.std.proofs.lemmas.List.Quantifiers.{position-Some}
use Rattle.std.proofs.lemmas.List.Sorted.{IsNonDecreasingBy-from_sort, list_any-IsPermutation}
use Rattle.std.proofs.lemmas.Map.Keys.{IsDistinct-IsPermutation, IsStrictlyIncreasing-from_distinct}
use Rattle.std.proofs.lemmas.Map.Steps.{set_value_same}
use Rattle.std.specs.List.{IsDistinct}
use Rattle.std.specs.List.Sorted.{IsPermutation, IsSorted}
use Rattle.std.specs.Map.{lookup, keys_of, set_value}
use Rattle.std.specs.Ordering.{nat_cmp}
use Rattle.indexmap.proofs.MapLemmas.{some_index}
use Rattle.net_base.specs.declared.names.Key.{Key}
use Rattle.session_wire.specs.Sessions.{key_eq}
use Rattle.session_table.specs.Kept.{Rewrites, one_sent, acked_to}
use Rattle.session_table.specs.Waiting.{IsInOrder, IsListed, Joins, Leaves, has_place, place_in, waits, waits_at}
use Rattle.session_table.specs.declared.standing.Standing.{Standing}
use Rattle.session_table.proofs.Found.{nat_same}
use Rattle.session_table.proofs.Items.{same_suc}
use Rattle.session_table.proofs.Keeping.{keys_set}
use Rattle.session_table.proofs.Owning.{map_rewritten}

-- places that differ, sorted
pub in_order : (qs xs ps : List ℕ) → xs ≡ qs → IsDistinct nat_eq qs → IsPermutation xs ps → IsSorted nat_cmp ps → IsInOrder qs ps
in_order qs xs ps same apart moved sorted =
    let moves : IsPermutation qs ps = subst (λ (l : List ℕ). IsPermutation l ps) same moved in
    record {
      ascending = IsStrictlyIncreasing-from_distinct ps (IsNonDecreasingBy-from_sort (λ x. x) ps sorted) (IsDistinct-IsPermutation nat_eq nat_eq_equiv.symm qs ps moves apart);
      same = λ n. sym (list_any-IsPermutation (nat_eq n) qs ps moves);
    }

-- a change that leaves what waits leaves the list
pub listed_same : (k : Key) (change : Standing → Standing) (old new : List (Key × Standing)) (places : List ℕ) → ((q : Key) (v : Standing) → waits (q, change v) ≡ waits (q, v)) → Rewrites k change old new → IsListed old places → IsListed new places
listed_same k change old new places same rewrites is = record { listed = λ n. is.listed n ∙ sym (ap (λ (l : List Bool). get_or l n false) (map_rewritten waits k change old new same rewrites)) }

-- and so does one more session that doesn't wait
pub listed_begun : (lines : List (Key × Standing)) (e : Key × Standing) (places : List ℕ) → waits e ≡ false → IsListed lines places → IsListed (lines ++ e ∷ []) places
listed_begun lines e places quiet is = record { listed = λ n. is.listed n ∙ sym (more lines n) }
  where
    more : (es : List (Key × Standing)) (n : ℕ) → waits_at (es ++ e ∷ []) n ≡ waits_at es n
    more [] zero = quiet
    more [] (suc n) = refl
    more (x ∷ xs) zero = refl
    more (x ∷ xs) (suc n) = more xs n

-- which places wait where the session at one of them stands otherwise
waits_set : (k : Key) (w : Standing) (lines : List (Key × Standing)) (p n : ℕ) → p < length (keys_of lines) → key_eq k (get_or (keys_of lines) p k) ≡ true → ((i : ℕ) → i < p → key_eq k (get_or (keys_of lines) i k) ≡ false) → waits_at (set_value (key_eq k) lines w) n ≡ cond (nat_eq p n) (waits (k, w)) (waits_at lines n)
waits_set k w [] p n within here before = absurd (omega (arith, within))
waits_set k w (e ∷ es) zero zero within here before = rw here refl
waits_set k w (e ∷ es) zero (suc m) within here before =
    let apart : nat_eq 0 (suc m) ≡ false = ne_eqb 0 (suc m) (λ h. omega (arith, h)) in
    rw here (rw apart refl)
waits_set k w (e ∷ es) (suc q) zero within here before =
    let first : key_eq k e.0 ≡ false = before 0 (omega arith) in
    let apart : nat_eq (suc q) 0 ≡ false = ne_eqb (suc q) 0 (λ h. omega (arith, h)) in
    rw first (rw apart refl)
waits_set k w (e ∷ es) (suc q) (suc m) within here before =
    let first : key_eq k e.0 ≡ false = before 0 (omega arith) in
    rw first (rw (same_suc q m) (waits_set k w es q m (omega (arith, within)) here (λ i h. before (suc i) (omega (arith, h)))))

module _ (k : Key) (lines : List (Key × Standing)) (p : ℕ) (at : place_in k lines ≡ Some p) where
  set_at : (w : Standing) (n : ℕ) → waits_at (set_value (key_eq k) lines w) n ≡ cond (nat_eq p n) (waits (k, w)) (waits_at lines n)
  set_at w n = let f = position-Some (key_eq k) (keys_of lines) p k at in waits_set k w lines p n f.0 f.1 f.2

  -- the session of the key is the one at its place
  found_at : (v : Standing) → lookup (key_eq k) lines ≡ Some v → waits_at lines p ≡ waits (k, v)
  found_at v there = ap (λ (l : List (Key × Standing)). waits_at l p) (sym (set_value_same (key_eq k) lines v there)) ∙ set_at v p ∙ rw (nat_same p) refl

-- where there is no session of the key there is no place of it, and where there is one there is
no_place : (k : Key) (lines : List (Key × Standing)) → lookup (key_eq k) lines ≡ None → None ≡ place_in k lines
no_place k lines none = by (place_in k lines) refl
  where
    by : (o : Option ℕ) → place_in k lines ≡ o → None ≡ o
    by None is = refl
    by (Some p) is = absurd (true≢false (ap is_some (sym is) ∙ some_index (key_eq k) lines ∙ ap is_some none))

some_place : (k : Key) (lines : List (Key × Standing)) (v : Standing) → lookup (key_eq k) lines ≡ Some v → (p : ℕ) × (place_in k lines ≡ Some p)
some_place k lines v there = by (place_in k lines) refl
  where
    by : (o : Option ℕ) → place_in k lines ≡ o → (p : ℕ) × (place_in k lines ≡ Some p)
    by None is = absurd (true≢false (ap is_some (sym there) ∙ sym (some_index (key_eq k) lines) ∙ ap is_some is))
    by (Some p) is = (p, is)

-- a session stands otherwise, and its place alone is listed anew
module _ (k : Key) (change : Standing → Standing) (old new : List (Key × Standing)) (places after : List ℕ) (op : Bool → Bool → Bool → Bool) (others : (h w : Bool) → op h false w ≡ h) (mine : (v : Standing) → op (waits (k, v)) true (waits (k, change v)) ≡ waits (k, change v)) where
  relisted : Rewrites k change old new → IsListed old places → (None ≡ place_in k new → after ≡ places) → ((p n : ℕ) → Some p ≡ place_in k new → has_place after n ≡ op (has_place places n) (nat_eq p n) (waits_at new p)) → IsListed new after
  relisted rewrites is lost found = by (lookup (key_eq k) old) refl
    where
      at_one : (v : Standing) (p : ℕ) → lookup (key_eq k) old ≡ Some v → place_in k old ≡ Some p → (n : ℕ) → has_place after n ≡ waits_at new n
      at_one v p there at n =
          let written : new ≡ set_value (key_eq k) old (change v) = rewrites.found v (sym there) in
          let at_new : Some p ≡ place_in k new = sym at ∙ ap (position (key_eq k)) (sym (ap keys_of written ∙ keys_set k old v (change v) (sym there))) in
          let waits_new : waits_at new p ≡ waits (k, change v) = ap (λ (l : List (Key × Standing)). waits_at l p) written ∙ set_at k old p at (change v) p ∙ rw (nat_same p) refl in
          found p n at_new
          ∙ ap (λ (b : Bool). op b (nat_eq p n) (waits_at new p)) (is.listed n)
          ∙ ap (op (waits_at old n) (nat_eq p n)) waits_new
          ∙ same (nat_eq p n) refl
          ∙ sym (ap (λ (l : List (Key × Standing)). waits_at l n) written ∙ set_at k old p at (change v) n)
        where
          same : (b : Bool) → nat_eq p n ≡ b → op (waits_at old n) b (waits (k, change v)) ≡ cond b (waits (k, change v)) (waits_at old n)
          same false is = others (waits_at old n) (waits (k, change v))
          same true is = ap (λ (m : ℕ). op (waits_at old m) true (waits (k, change v))) (sym (eqb-true p n is)) ∙ ap (λ (b : Bool). op b true (waits (k, change v))) (found_at k old p at v there) ∙ mine v

      by : (o : Option Standing) → lookup (key_eq k) old ≡ o → IsListed new after
      by None none =
          let written : new ≡ old = rewrites.lost (sym none) in
          let left : after ≡ places = lost (no_place k new (ap (lookup (key_eq k)) written ∙ none)) in
          record { listed = λ n. ap (λ (l : List ℕ). has_place l n) left ∙ is.listed n ∙ ap (λ (l : List (Key × Standing)). waits_at l n) (sym written) }
      by (Some v) there = let at = some_place k old v there in record { listed = at_one v at.0 there at.1 }

-- a session in which an item was sent waits
pub listed_sent : (k : Key) (old new : List (Key × Standing)) (places after : List ℕ) → Rewrites k one_sent old new → IsListed old places → Joins k new places after → IsListed new after
listed_sent k old new places after rewrites is joins = relisted k one_sent old new places after (λ h e w. h || (e && w)) others mine rewrites is joins.lost joins.found
  where
    others : (h w : Bool) → (h || (false && w)) ≡ h
    others true w = refl
    others false w = refl

    mine : (v : Standing) → (waits (k, v) || (true && waits (k, one_sent v))) ≡ waits (k, one_sent v)
    mine v = by (waits (k, v)) refl
      where
        by : (b : Bool) → nat_lt v.acked v.sent ≡ b → (b || (true && waits (k, one_sent v))) ≡ waits (k, one_sent v)
        by true less = sym (lt-ltb _ _ (omega (arith, ltb-true _ _ less)))
        by false less = refl

-- and one of which items were acknowledged waits no longer if those were all
pub listed_acked : (k : Key) (upto : ℕ) (old new : List (Key × Standing)) (places after : List ℕ) → Rewrites k (acked_to upto) old new → IsListed old places → Leaves k new places after → IsListed new after
listed_acked k upto old new places after rewrites is leaves = relisted k (acked_to upto) old new places after (λ h e w. h && not (e && not w)) others mine rewrites is leaves.lost leaves.found
  where
    others : (h w : Bool) → (h && not (false && not w)) ≡ h
    others true w = refl
    others false w = refl

    mine : (v : Standing) → (waits (k, v) && not (true && not (waits (k, acked_to upto v)))) ≡ waits (k, acked_to upto v)
    mine v = by (waits (k, v)) (waits (k, acked_to upto v)) refl refl
      where
        by : (b w : Bool) → nat_lt v.acked v.sent ≡ b → nat_lt (max v.acked upto) v.sent ≡ w → (b && not (true && not w)) ≡ w
        by true true less more = refl
        by true false less more = refl
        by false false less more = refl
        by false true less more = absurd (true≢false (sym (lt-ltb _ _ (omega (arith, ltb-true _ _ more))) ∙ less))
