-- The items that aren't acknowledged, gathered from the sessions that have some.
use Rattle.std.proofs.Common.{◌≡◌, ℕ, zero, suc, ◌+◌, ◌<◌, ◌≤◌, Bool, true, false, ◌||◌, List, [], ◌∷◌, ◌++◌, Option, Some, None, refl, sym, ◌∙◌, ap, subst, map, drop, length, slice_get, arith, nat_eq, nat_lt, true≢false}
use Rattle.std.proofs.lemmas.Bool.{eqb-true, eqb-false, ne_eqb, ltb-true, ltb-false, or_left}
use Rattle.std.proofs.lemmas.List.{length-map}
use Rattle.std.proofs.lemmas.Option.{get_or_from_slice_get}
use Rattle.std.proofs.lemmas.Map.Keys.{sorted_head, sorted_tail, sorted_from_strictly_increasing}
use Rattle.std.proofs.lemmas.Map.Entries.{lookup_from_place}
use Rattle.std.specs.Prelude.{zip, flat_map}
use Rattle.std.specs.declared.cmp.Ordering.TheVariants.{Less, Equal, Greater}
use Rattle.std.specs.List.{AllByRecursion, IsDistinct, list_any}
use Rattle.std.specs.List.Sorted.{IsStrictlySortedBy}
use Rattle.std.specs.Map.{lookup, keys_of}
use Rattle.std.specs.Option.{option_map_or}
use Rattle.std.specs.Ordering.{nat_cmp}
use Rattle.net_base.specs.declared.names.Key.{Key}
use Rattle.net_base.specs.declared.values.Party.{Party}
use Rattle.net_base.proofs.Lists.{get_map}
use Rattle.session_wire.specs.declared.body.Body.{Body}
use Rattle.session_wire.specs.Sessions.{Session, key_eq}
use Rattle.session_table.specs.Kept.{session_at, IsCounted}
use Rattle.session_table.specs.Tables.{unacked, unacked_at, unacked_in}
use Rattle.session_table.specs.Waiting.{IsInOrder, IsListed, waits, waits_at}
use Rattle.session_table.specs.declared.standing.Standing.{Standing}
use Rattle.session_table.specs.declared.standing.Place.{Place}
use Rattle.session_table.specs.declared.standing.Posted.{Posted}
use Rattle.session_table.proofs.Found.{nat_same, count_is}
use Rattle.session_table.proofs.Keeping.{key_laws}
use Rattle.session_table.proofs.Resending.{item_end, unacked_is, no_pair, pair_at, pairs_are}

-- a number that is below each of a list's is not among them
below_all : (n : ℕ) (ps : List ℕ) → AllByRecursion (λ p. n < p) ps → list_any (nat_eq n) ps ≡ false
below_all n [] h = refl
below_all n (p ∷ ps) h =
    let less : n < p = h.0 in
    let apart : nat_eq n p ≡ false = ne_eqb n p (λ e. omega (arith, e, less)) in
    rw apart (below_all n ps h.1)

less_by_cmp : (n p : ℕ) → nat_cmp n p ≡ Less → n < p
less_by_cmp n p is = by (nat_lt n p) (nat_eq n p) refl refl
  where
    by : (b e : Bool) → nat_lt n p ≡ b → nat_eq n p ≡ e → n < p
    by true e less same = ltb-true n p less
    by false true less same = absurd (let h : Equal ≡ Less = rw (less, same) at is in cc h)
    by false false less same = absurd (let h : Greater ≡ Less = rw (less, same) at is in cc h)

all_above : (n : ℕ) (ps : List ℕ) → AllByRecursion (λ p. nat_cmp n p ≡ Less) ps → AllByRecursion (λ p. n < p) ps
all_above n [] h = tt
all_above n (p ∷ ps) h = (less_by_cmp n p h.0, all_above n ps h.1)

-- numbers of which none is n, and each is n or above, are above n
raised : (n : ℕ) (ps : List ℕ) → AllByRecursion (λ p. n ≤ p) ps → list_any (nat_eq n) ps ≡ false → AllByRecursion (λ p. n < p) ps
raised n [] low none = tt
raised n (p ∷ ps) low none = by (nat_eq n p) refl (λ rest. raised n ps low.1 rest)
  where
    by : (b : Bool) → nat_eq n p ≡ b → (list_any (nat_eq n) ps ≡ false → AllByRecursion (λ q. n < q) ps) → AllByRecursion (λ q. n < q) (p ∷ ps)
    by true is tail = absurd (true≢false (let at : (true || list_any (nat_eq n) ps) ≡ false = rw is at none in at))
    by false is tail =
        let rest : list_any (nat_eq n) ps ≡ false = rw is at none in
        let low_one : n ≤ p = low.0 in
        let apart : n ≡ p → ⊥ = eqb-false n p is in
        let less : n < p = omega (arith, low_one, apart) in
        (less, tail rest)

all_below : (k p : ℕ) (ps : List ℕ) → k < p → AllByRecursion (λ q. p < q) ps → AllByRecursion (λ q. k < q) ps
all_below k p [] less h = tt
all_below k p (q ∷ qs) less h = (let above : p < q = h.0 in omega (arith, less, above), all_below k p qs less h.1)

lifted : (n : ℕ) (ps : List ℕ) → AllByRecursion (λ p. n < p) ps → AllByRecursion (λ p. n + 1 ≤ p) ps
lifted n [] h = tt
lifted n (p ∷ ps) h = (let less : n < p = h.0 in omega (arith, less), lifted n ps h.1)

module _ {X V : Type 0} (f : X → List V) (all : List X) (mark : ℕ → Bool) where
  abbrev at : ℕ → List V
  at n = option_map_or f (slice_get all n) []

  -- what is left behind an element
  left : (xs : List X) (k : ℕ) (ys : List X) (x : X) → drop k ys ≡ x ∷ xs → (slice_get ys k ≡ Some x) × (drop (suc k) ys ≡ xs)
  left xs zero [] x e = absurd (cc e)
  left xs zero (y ∷ ys) x e = (let one : y ≡ x = cc e in ap Some one, let rest : ys ≡ xs = cc e in rest)
  left xs (suc k) [] x e = absurd (cc e)
  left xs (suc k) (y ∷ ys) x e = left xs k ys x e

  -- where nothing is left there is no element
  none_left : (k n : ℕ) (ys : List X) → drop k ys ≡ [] → k ≤ n → slice_get ys n ≡ None
  none_left k n [] e h = refl
  none_left zero n (y ∷ ys) e h = absurd (cc e)
  none_left (suc k) zero (y ∷ ys) e h = absurd (omega (arith, h))
  none_left (suc k) (suc n) (y ∷ ys) e h = none_left k n ys e (omega (arith, h))

  -- what stands at the marked places is all, where nothing stands at the others
  gathered : ((n : ℕ) → mark n ≡ false → at n ≡ []) → (xs : List X) (k : ℕ) (ps : List ℕ) → drop k all ≡ xs → AllByRecursion (λ p. k ≤ p) ps → IsStrictlySortedBy nat_cmp ps → ((n : ℕ) → mark n ≡ true → n < length all) → ((n : ℕ) → k ≤ n → list_any (nat_eq n) ps ≡ mark n) → flat_map at ps ≡ flat_map f xs
  gathered quiet [] k [] rest low up within same = refl
  gathered quiet [] k (p ∷ ps) rest low up within same =
      let first : k ≤ p = low.0 in
      let here : mark p ≡ true = sym (same p first) ∙ or_left (nat_eq p p) (list_any (nat_eq p) ps) (nat_same p) in
      absurd (past all p (none_left k p all rest first) (within p here))
    where
      past : (ys : List X) (n : ℕ) → slice_get ys n ≡ None → n < length ys → ⊥
      past [] n e h = omega (arith, h)
      past (y ∷ ys) zero e h = cc e
      past (y ∷ ys) (suc n) e h = past ys n e (omega (arith, h))
  gathered quiet (x ∷ xs) k ps rest low up within same = by (mark k) refl ps low up same (gathered quiet xs (k + 1))
    where
      up_one : suc k ≡ k + 1
      up_one = omega arith

      there : (slice_get all k ≡ Some x) × (drop (suc k) all ≡ xs)
      there = left xs k all x rest

      next : drop (k + 1) all ≡ xs
      next = ap (λ (m : ℕ). drop m all) (sym up_one) ∙ there.1

      here : at k ≡ f x
      here = ap (λ (o : Option X). option_map_or f o []) there.0

      Rest : Type 0
      Rest = (qs : List ℕ) → drop (k + 1) all ≡ xs → AllByRecursion (λ p. k + 1 ≤ p) qs → IsStrictlySortedBy nat_cmp qs → ((n : ℕ) → mark n ≡ true → n < length all) → ((n : ℕ) → k + 1 ≤ n → list_any (nat_eq n) qs ≡ mark n) → flat_map at qs ≡ flat_map f xs

      by : (b : Bool) → mark k ≡ b → (ps : List ℕ) → AllByRecursion (λ p. k ≤ p) ps → IsStrictlySortedBy nat_cmp ps → ((n : ℕ) → k ≤ n → list_any (nat_eq n) ps ≡ mark n) → Rest → flat_map at ps ≡ f x ++ flat_map f xs
      by false off ps low up same on =
          let none : list_any (nat_eq k) ps ≡ false = same k (omega arith) ∙ off in
          let nothing : f x ≡ [] = sym here ∙ quiet k off in
          on ps next (lifted k ps (raised k ps low none)) up within (λ n h. same n (omega (arith, h))) ∙ ap (λ (l : List V). l ++ flat_map f xs) (sym nothing)
      by true is [] low up same on = absurd (true≢false (sym is ∙ sym (same k (omega arith))))
      by true is (p ∷ ps) low up same on = inner (nat_eq k p) refl
        where
          above : AllByRecursion (λ q. p < q) ps
          above = all_above p ps (sorted_head nat_cmp p ps up)

          inner : (b : Bool) → nat_eq k p ≡ b → at p ++ flat_map at ps ≡ f x ++ flat_map f xs
          inner true at_p =
              let one : k ≡ p = eqb-true k p at_p in
              let above_k : AllByRecursion (λ q. k < q) ps = subst (λ (m : ℕ). AllByRecursion (λ q. m < q) ps) (sym one) above in
              let others : (n : ℕ) → k + 1 ≤ n → list_any (nat_eq n) ps ≡ mark n = λ n h.
              let apart : nat_eq n p ≡ false = ne_eqb n p (λ e. omega (arith, e, one, h)) in
              let all_at : list_any (nat_eq n) (p ∷ ps) ≡ mark n = same n (omega (arith, h)) in
              (rw apart at all_at) in
              let tail = on ps next (lifted k ps above_k) (sorted_tail nat_cmp p ps up) within others in
              λ i. (ap at (sym one) ∙ here) i ++ tail i
          inner false apart =
              let first : k ≤ p = low.0 in
              let less : k < p = omega (arith, first, eqb-false k p apart) in
              let none : list_any (nat_eq k) (p ∷ ps) ≡ false = rw apart (below_all k ps (all_below k p ps less above)) in
              absurd (true≢false (sym is ∙ sym (same k (omega arith)) ∙ none))

-- the items of the sessions at these places are all that aren't acknowledged
module _ (me : Party) (lines : List (Key × Standing)) (sent : List (Place × Posted)) (came : List (Place × Body)) (counted : IsCounted (λ s. s.sent) lines sent) (unique : IsDistinct key_eq (keys_of lines)) where
  abbrev sessions : List Session
  sessions = map (session_at sent came) lines

  abbrev acks : List ℕ
  acks = map (λ e. e.1.acked) lines

  abbrev pairs : List (Session × ℕ)
  pairs = zip sessions acks

  -- a session that doesn't wait has no such items
  quiet : (n : ℕ) → waits_at lines n ≡ false → unacked_at me sessions acks n ≡ []
  quiet n off = by (slice_get lines n) refl
    where
      by : (o : Option (Key × Standing)) → slice_get lines n ≡ o → unacked_at me sessions acks n ≡ []
      by None is = ap (λ (o : Option (Session × ℕ)). option_map_or (unacked_in me) o []) (no_pair (session_at sent came) (λ e. e.1.acked) lines n is)
      by (Some e) is =
          let s : Session = session_at sent came e in
          let there : lookup (key_eq e.0) lines ≡ Some e.1 = lookup_from_place key_laws lines n e.0 e.1 unique is in
          let size : length s.sent ≡ e.1.sent = length-map _ _ ∙ count_is (λ v. v.sent) lines sent e.0 e.1 counted (sym there) in
          let flag : waits e ≡ false = sym (get_or_from_slice_get (map waits lines) n (waits e) false (get_map waits lines n e is)) ∙ off in
          let all_acked : e.1.sent ≤ e.1.acked = ltb-false e.1.acked e.1.sent flag in
          ap (λ (o : Option (Session × ℕ)). option_map_or (unacked_in me) o []) (pair_at (session_at sent came) (λ e. e.1.acked) lines n e is)
          ∙ sym (unacked_is me s e.1.acked)
          ∙ item_end me s e.1.acked (omega (arith, size, all_acked))

  within : (n : ℕ) → waits_at lines n ≡ true → n < length pairs
  within n on = omega (arith, pairs_are (session_at sent came) (λ e. e.1.acked) lines, inside lines n on)
    where
      inside : (es : List (Key × Standing)) (n : ℕ) → waits_at es n ≡ true → n < length es
      inside [] n e = absurd (true≢false (sym e))
      inside (e ∷ es) zero is = omega arith
      inside (e ∷ es) (suc n) is = let rest = inside es n is in omega (arith, rest)

  pub gathered_is : (places ps : List ℕ) → IsListed lines places → IsInOrder places ps → flat_map (unacked_at me sessions acks) ps ≡ unacked me sessions acks
  gathered_is places ps listed sorted =
      gathered (unacked_in me) pairs (waits_at lines) quiet pairs 0 ps refl (all_from_zero ps) (sorted_from_strictly_increasing ps sorted.ascending) within (λ n h. sorted.same n ∙ listed.listed n)
    where
      all_from_zero : (qs : List ℕ) → AllByRecursion (λ p. 0 ≤ p) qs
      all_from_zero [] = tt
      all_from_zero (q ∷ qs) = (omega arith, all_from_zero qs)
