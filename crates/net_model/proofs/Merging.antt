-- The merged list keeps each node's order, and its stamps rise where those of the nodes do.
use Rattle.std.proofs.Common.{◌≡◌, ℕ, zero, suc, ◌+◌, ◌<◌, ◌≤◌, ⊎_elim, List, [], ◌∷◌, Some, Bool, true, false, cond, ◌==◌, map, length, slice_get, refl, ap, ◌∙◌, arith}
use Rattle.std.specs.Prelude.{⊤}
use Rattle.std.specs.List.{AllByRecursion}
use Rattle.std.proofs.lemmas.Bool.{eq-eqb, eqb-true, ne_eqb, ltb-true, ltb-false, or_cases, or_parts, and_parts}
use Rattle.net_base.proofs.Lists.{all_weaken}
use Rattle.net_model.specs.State.{Record}
use Rattle.net_model.specs.Runs.{is_before, put, merge_two, merge_from, merge, record_stamp, at_node}
use Rattle.net_model.proofs.Local.{of_node, Rising, AreBelow}

-- ---- what holds of all

pub all_put : {X : Type 0} (P : X → Type 0) (before : X → X → Bool) (x : X) (rest : List X → List X) (ys : List X) → P x → ((zs : List X) → AllByRecursion P zs → AllByRecursion P (rest zs)) → AllByRecursion P ys → AllByRecursion P (put before x rest ys)
all_put P before x rest [] p f h = (p, f [] tt)
all_put P before x rest (y ∷ ys) p f h = elim (before y x) as (λ b. AllByRecursion P (elim b [ true ↦ y ∷ put before x rest ys | false ↦ x ∷ rest (y ∷ ys) ])) [ true ↦ (h.0, all_put P before x rest ys p f h.1) | false ↦ (p, f (y ∷ ys) h) ]

pub all_merge_two : {X : Type 0} (P : X → Type 0) (before : X → X → Bool) (xs ys : List X) → AllByRecursion P xs → AllByRecursion P ys → AllByRecursion P (merge_two before xs ys)
all_merge_two P before [] ys h k = k
all_merge_two P before (x ∷ xs) ys h k = all_put P before x (merge_two before xs) ys h.0 (λ zs l. all_merge_two P before xs zs h.1 l) k

-- ---- each node's list

empty_skip : {X : Type 0} (b : Bool) (v : X) (l m : List X) → cond b (v ∷ l) l ≡ [] → (l ≡ []) × (cond b (v ∷ m) m ≡ m)
empty_skip true v l m k = cc
empty_skip false v l m k = (k, refl)

module _ {X : Type 0} (p : ℕ) where
  put_mine : (before : ℕ × X → ℕ × X → Bool) (x : ℕ × X) (rest : List (ℕ × X) → List (ℕ × X)) (tail : List X) (ys : List (ℕ × X)) → ((zs : List (ℕ × X)) → of_node p zs ≡ [] → of_node p (rest zs) ≡ tail) → of_node p ys ≡ [] → of_node p (put before x rest ys) ≡ cond (p == x.0) (x.1 ∷ tail) tail
  put_mine before x rest tail [] f h = rw (f [] refl)
  put_mine before x rest tail (y ∷ ys) f h =
      let k = empty_skip (p == y.0) y.1 (of_node p ys) (of_node p (put before x rest ys)) h in
      elim (before y x) as (λ b. of_node p (elim b [ true ↦ y ∷ put before x rest ys | false ↦ x ∷ rest (y ∷ ys) ]) ≡ cond (p == x.0) (x.1 ∷ tail) tail)
      [ true ↦ k.1 ∙ put_mine before x rest tail ys f k.0 | false ↦ rw (f (y ∷ ys) h) ]

  put_other : (before : ℕ × X → ℕ × X → Bool) (x : ℕ × X) (rest : List (ℕ × X) → List (ℕ × X)) (ys : List (ℕ × X)) → (p == x.0) ≡ false → ((zs : List (ℕ × X)) → of_node p (rest zs) ≡ of_node p zs) → of_node p (put before x rest ys) ≡ of_node p ys
  put_other before x rest [] e f = rw (e, f [])
  put_other before x rest (y ∷ ys) e f =
      elim (before y x) as (λ b. of_node p (elim b [ true ↦ y ∷ put before x rest ys | false ↦ x ∷ rest (y ∷ ys) ]) ≡ of_node p (y ∷ ys))
      [ true ↦ rw (put_other before x rest ys e f) | false ↦ rw e (f (y ∷ ys)) ]

  merge_mine : (before : ℕ × X → ℕ × X → Bool) (xs ys : List (ℕ × X)) → of_node p ys ≡ [] → of_node p (merge_two before xs ys) ≡ of_node p xs
  merge_mine before [] ys h = h
  merge_mine before (x ∷ xs) ys h = put_mine before x (merge_two before xs) (of_node p xs) ys (λ zs k. merge_mine before xs zs k) h

  of_own : (xs : List X) → of_node p (at_node p xs) ≡ xs
  of_own [] = refl
  of_own (x ∷ xs) = rw (eq-eqb p p refl, of_own xs)

  merge_other : (q : ℕ) (before : ℕ × X → ℕ × X → Bool) (xs : List X) (ys : List (ℕ × X)) → (p == q) ≡ false → of_node p (merge_two before (at_node q xs) ys) ≡ of_node p ys
  merge_other q before [] ys e = refl
  merge_other q before (x ∷ xs) ys e = put_other before (q, x) (merge_two before (at_node q xs)) ys e (λ zs. merge_other q before xs zs e)

  pub of_later : (xs : List (ℕ × X)) → AllByRecursion (λ x. p < x.0) xs → of_node p xs ≡ []
  of_later [] h = refl
  of_later (x ∷ xs) h = let l = h.0 in let e : (p == x.0) ≡ false = ne_eqb p x.0 (λ k. omega arith) in rw e (of_later xs h.1)

all_tagged : {X : Type 0} (P : ℕ × X → Type 0) (q : ℕ) (xs : List X) → ((x : X) → P (q, x)) → AllByRecursion P (at_node q xs)
all_tagged P q [] f = tt
all_tagged P q (x ∷ xs) f = (f x, all_tagged P q xs f)

-- the nodes of a merged list
pub merge_from_nodes : {X : Type 0} (stamp : X → ℕ) (q : ℕ) (lists : List (List X)) → AllByRecursion (λ x. (q ≤ x.0) × (x.0 < q + length lists)) (merge_from stamp q lists)
merge_from_nodes stamp q [] = tt
merge_from_nodes {X} stamp q (xs ∷ lists) =
    all_merge_two (λ x. (q ≤ x.0) × (x.0 < q + length (xs ∷ lists))) (is_before stamp) (at_node q xs) (merge_from stamp (q + 1) lists)
    (all_tagged (λ x. (q ≤ x.0) × (x.0 < q + length (xs ∷ lists))) q xs (λ x. (omega arith, omega arith)))
    (all_weaken _ (λ x. (q ≤ x.0) × (x.0 < q + length (xs ∷ lists))) _ (λ x h. (omega arith, omega arith)) (merge_from_nodes stamp (q + 1) lists))

merge_from_of : {X : Type 0} (stamp : X → ℕ) (q k : ℕ) (lists : List (List X)) (xs : List X) → slice_get lists k ≡ Some xs → of_node (q + k) (merge_from stamp q lists) ≡ xs
merge_from_of stamp q k [] xs h = cc
merge_from_of {X} stamp q zero (ys ∷ lists) xs h =
    let same : ys ≡ xs = cc in
    let e : q + 0 ≡ q = omega arith in
    let later : of_node q (merge_from stamp (q + 1) lists) ≡ [] = of_later q _ (all_weaken _ (λ x. q < x.0) _ (λ x l. let m = l.0 in omega arith) (merge_from_nodes stamp (q + 1) lists)) in
    rw e (merge_mine q (is_before stamp) (at_node q ys) _ later ∙ (of_own q ys ∙ same))
merge_from_of {X} stamp q (suc k) (ys ∷ lists) xs h =
    let e : q + suc k ≡ (q + 1) + k = omega arith in
    let no : (q + suc k == q) ≡ false = ne_eqb (q + suc k) q (λ l. omega arith) in
    merge_other (q + suc k) q (is_before stamp) ys _ no ∙ (ap (λ n. of_node n (merge_from stamp (q + 1) lists)) e ∙ merge_from_of stamp (q + 1) k lists xs h)

-- the merged list has each node's list, in its order
pub merge_keeps : {X : Type 0} (stamp : X → ℕ) (lists : List (List X)) (p : ℕ) (xs : List X) → slice_get lists p ≡ Some xs → of_node p (merge stamp lists) ≡ xs
unfolding merge
merge_keeps stamp lists p xs h = let e : p ≡ 0 + p = omega arith in ap (λ n. of_node n (merge_from stamp 0 lists)) e ∙ merge_from_of stamp 0 p lists xs h

pub merge_below : {F : Type 0} (lists : List (List (Record F))) → AreBelow (length lists) (merge record_stamp lists)
unfolding merge
merge_below lists = all_weaken _ (λ x. x.0 < length lists) _ (λ x h. let k = h.1 in omega arith) (merge_from_nodes record_stamp 0 lists)

-- ---- rising stamps

before_le : {F : Type 0} (a b : ℕ × Record F) → is_before record_stamp a b ≡ true → record_stamp a.1 ≤ record_stamp b.1
before_le a b h = ⊎_elim (λ k. let l = ltb-true (record_stamp a.1) (record_stamp b.1) k in omega arith) (λ k. let l = eqb-true (record_stamp a.1) (record_stamp b.1) (and_parts _ _ k).0 in omega arith) (or_cases _ _ h)

not_before : {F : Type 0} (a b : ℕ × Record F) → is_before record_stamp a b ≡ false → record_stamp b.1 ≤ record_stamp a.1
not_before a b h = ltb-false (record_stamp a.1) (record_stamp b.1) (or_parts _ _ h).0

abbrev From : {F : Type 0} → ℕ → List (ℕ × Record F) → Type 0
From n xs = AllByRecursion (λ y. n ≤ record_stamp y.1) xs

from_less : {F : Type 0} (n m : ℕ) (xs : List (ℕ × Record F)) → n ≤ m → From m xs → From n xs
from_less n m xs l h = all_weaken (λ y. m ≤ record_stamp y.1) (λ y. n ≤ record_stamp y.1) xs (λ x k. omega arith) h

rising_put : {F : Type 0} (x : ℕ × Record F) (rest : List (ℕ × Record F) → List (ℕ × Record F)) (ys : List (ℕ × Record F)) → ((n : ℕ) (zs : List (ℕ × Record F)) → n ≤ record_stamp x.1 → From n zs → From n (rest zs)) → ((zs : List (ℕ × Record F)) → Rising zs → Rising (rest zs)) → Rising ys → Rising (put (is_before record_stamp) x rest ys)
rising_put x rest [] f g r = (f (record_stamp x.1) [] (omega arith) tt, g [] tt)
rising_put {F} x rest (y ∷ ys) f g r =
    (elim (is_before record_stamp y x) as (λ b. is_before record_stamp y x ≡ b → Rising (elim b [ true ↦ y ∷ put (is_before record_stamp) x rest ys | false ↦ x ∷ rest (y ∷ ys) ])) [
      | true ↦ λ e. let l = before_le y x e in (all_put (λ z. record_stamp y.1 ≤ record_stamp z.1) (is_before record_stamp) x rest ys l (λ zs k. f (record_stamp y.1) zs l k) r.0, rising_put x rest ys f g r.1)
      | false ↦ λ e. let l = not_before y x e in (f (record_stamp x.1) (y ∷ ys) (omega arith) (l, from_less _ _ ys l r.0), g (y ∷ ys) r)
    ]) refl

rising_merge_two : {F : Type 0} (xs ys : List (ℕ × Record F)) → Rising xs → Rising ys → Rising (merge_two (is_before record_stamp) xs ys)
rising_merge_two [] ys r q = q
rising_merge_two (x ∷ xs) ys r q =
    rising_put x (merge_two (is_before record_stamp) xs) ys (λ n zs l h. all_merge_two (λ y. n ≤ record_stamp y.1) (is_before record_stamp) xs zs (from_less _ _ xs l r.0) h) (λ zs h. rising_merge_two xs zs r.1 h) q

-- the stamps of a journal rise from a number on
abbrev pub Climbs : {F : Type 0} → ℕ → List (Record F) → Type 0
Climbs n [] = ⊤
Climbs n (r ∷ rs) = (n < record_stamp r) × Climbs (record_stamp r) rs

climbs_from : {F : Type 0} (p n m : ℕ) (rs : List (Record F)) → m ≤ n → Climbs n rs → From m (at_node p rs)
climbs_from p n m [] l h = tt
climbs_from p n m (r ∷ rs) l h = let k = h.0 in (omega arith, climbs_from p (record_stamp r) m rs (omega arith) h.1)

climbs_rising : {F : Type 0} (p n : ℕ) (rs : List (Record F)) → Climbs n rs → Rising (at_node p rs)
climbs_rising p n [] h = tt
climbs_rising p n (r ∷ rs) h = (climbs_from p (record_stamp r) (record_stamp r) rs (omega arith) h.1, climbs_rising p (record_stamp r) rs h.1)

merge_from_rising : {F : Type 0} (q : ℕ) (lists : List (List (Record F))) → AllByRecursion (Climbs 0) lists → Rising (merge_from record_stamp q lists)
merge_from_rising q [] h = tt
merge_from_rising q (rs ∷ lists) h = rising_merge_two (at_node q rs) _ (climbs_rising q 0 rs h.0) (merge_from_rising (q + 1) lists h.1)

pub merge_rising : {F : Type 0} (lists : List (List (Record F))) → AllByRecursion (Climbs 0) lists → Rising (merge record_stamp lists)
unfolding merge
merge_rising lists h = merge_from_rising 0 lists h

-- ---- a merged list, seen through a map

module _ {X Y : Type 0} (f : X → Y) (stamp : Y → ℕ) where
  abbrev Seen : ℕ × X → ℕ × Y
  Seen x = (x.0, f x.1)

  abbrev Old : ℕ × X → ℕ × X → Bool
  Old = is_before (λ x. stamp (f x))

  put_map : (x : ℕ × X) (rest : List (ℕ × X) → List (ℕ × X)) (other : List (ℕ × Y) → List (ℕ × Y)) (ys : List (ℕ × X)) → ((zs : List (ℕ × X)) → map Seen (rest zs) ≡ other (map Seen zs)) → map Seen (put Old x rest ys) ≡ put (is_before stamp) (Seen x) other (map Seen ys)
  put_map x rest other [] h = ap (λ (l : List (ℕ × Y)). Seen x ∷ l) (h [])
  put_map x rest other (y ∷ ys) h =
      elim (Old y x) as (λ b. map Seen (elim b [ true ↦ y ∷ put Old x rest ys | false ↦ x ∷ rest (y ∷ ys) ]) ≡ elim b [ true ↦ Seen y ∷ put (is_before stamp) (Seen x) other (map Seen ys) | false ↦ Seen x ∷ other (Seen y ∷ map Seen ys) ])
      [ true ↦ ap (λ (l : List (ℕ × Y)). Seen y ∷ l) (put_map x rest other ys h) | false ↦ ap (λ (l : List (ℕ × Y)). Seen x ∷ l) (h (y ∷ ys)) ]

  merge_two_map : (xs ys : List (ℕ × X)) → map Seen (merge_two Old xs ys) ≡ merge_two (is_before stamp) (map Seen xs) (map Seen ys)
  merge_two_map [] ys = refl
  merge_two_map (x ∷ xs) ys = put_map x (merge_two Old xs) (merge_two (is_before stamp) (map Seen xs)) ys (λ zs. merge_two_map xs zs)

  tagged_map : (q : ℕ) (xs : List X) → map Seen (at_node q xs) ≡ at_node q (map f xs)
  tagged_map q [] = refl
  tagged_map q (x ∷ xs) = ap (λ (l : List (ℕ × Y)). (q, f x) ∷ l) (tagged_map q xs)

  merge_from_map : (q : ℕ) (lists : List (List X)) → map Seen (merge_from (λ x. stamp (f x)) q lists) ≡ merge_from stamp q (map (map f) lists)
  merge_from_map q [] = refl
  merge_from_map q (xs ∷ lists) = merge_two_map (at_node q xs) (merge_from (λ x. stamp (f x)) (q + 1) lists) ∙ rw (tagged_map q xs, merge_from_map (q + 1) lists)

  pub merge_map : (lists : List (List X)) → map Seen (merge (λ x. stamp (f x)) lists) ≡ merge stamp (map (map f) lists)
  unfolding merge
  merge_map lists = merge_from_map 0 lists
