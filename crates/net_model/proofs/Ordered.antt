-- The merged list is in order by stamp and then by node.
use Rattle.std.proofs.Common.{◌≡◌, ℕ, ◌+◌, ◌<◌, ◌≤◌, ◌⊎◌, inl, inr, ⊎_elim, List, [], ◌∷◌, true, false, ◌==◌, nat_lt, refl, arith}
use Rattle.std.specs.List.{AllByRecursion}
use Rattle.std.proofs.lemmas.Bool.{and_parts, and_from, or_cases, or_parts, or_left, or_right, eqb-true, eqb-false, eq-eqb, ltb-true, ltb-false, lt-ltb}
use Rattle.net_base.proofs.Lists.{all_weaken}
use Rattle.net_model.specs.Runs.{is_before, put, merge_two, merge_from, merge, AreOrdered, AreRising, MergesInOrder, at_node}
use Rattle.net_model.proofs.Merging.{all_put, all_merge_two, merge_from_nodes}

module _ {X : Type 0} (stamp : X → ℕ) where
  abbrev Before : ℕ × X → ℕ × X → Type 0
  Before a b = (stamp a.1 < stamp b.1) ⊎ ((stamp a.1 ≡ stamp b.1) × (a.0 < b.0))

  read : (a b : ℕ × X) → is_before stamp a b ≡ true → Before a b
  read a b h = ⊎_elim (λ k. inl (ltb-true (stamp a.1) (stamp b.1) k)) (λ k. let p = and_parts (stamp a.1 == stamp b.1) (nat_lt a.0 b.0) k in inr (eqb-true (stamp a.1) (stamp b.1) p.0, ltb-true a.0 b.0 p.1)) (or_cases (nat_lt (stamp a.1) (stamp b.1)) _ h)

  write : (a b : ℕ × X) → Before a b → is_before stamp a b ≡ true
  write a b h = ⊎_elim (λ k. or_left (nat_lt (stamp a.1) (stamp b.1)) _ (lt-ltb (stamp a.1) (stamp b.1) k)) (λ k. or_right (nat_lt (stamp a.1) (stamp b.1)) _ (and_from _ _ (eq-eqb (stamp a.1) (stamp b.1) k.0) (lt-ltb a.0 b.0 k.1))) h

  through : (a b c : ℕ × X) → is_before stamp a b ≡ true → is_before stamp b c ≡ true → is_before stamp a c ≡ true
  through a b c h k = write a c (⊎_elim
      (λ p. ⊎_elim (λ q. inl (omega arith)) (λ q. let e = q.0 in inl (omega arith)) (read b c k))
      (λ p. let d = p.0 in let l = p.1 in ⊎_elim (λ q. inl (omega arith)) (λ q. let e = q.0 in let m = q.1 in inr (omega arith, omega arith)) (read b c k))
      (read a b h))

  turned : (a b : ℕ × X) → a.0 < b.0 → is_before stamp b a ≡ false → is_before stamp a b ≡ true
  turned a b l h =
      let p = or_parts (nat_lt (stamp b.1) (stamp a.1)) _ h in
      let le = ltb-false (stamp b.1) (stamp a.1) p.0 in
      (elim (stamp a.1 == stamp b.1) as (λ t. (stamp a.1 == stamp b.1) ≡ t → is_before stamp a b ≡ true) [
        | true ↦ λ e. write a b (inr (eqb-true (stamp a.1) (stamp b.1) e, l))
        | false ↦ λ e. let ne = eqb-false (stamp a.1) (stamp b.1) e in write a b (inl (omega arith))
      ]) refl

  abbrev Behind : ℕ × X → List (ℕ × X) → Type 0
  Behind x xs = AllByRecursion (λ y. is_before stamp x y ≡ true) xs

  behind_more : (a b : ℕ × X) (xs : List (ℕ × X)) → is_before stamp a b ≡ true → Behind b xs → Behind a xs
  behind_more a b xs h k = all_weaken (λ y. is_before stamp b y ≡ true) (λ y. is_before stamp a y ≡ true) xs (λ y l. through a b y h l) k

  ordered_put : (x : ℕ × X) (rest : List (ℕ × X) → List (ℕ × X)) (ys : List (ℕ × X)) → ((a : ℕ × X) (zs : List (ℕ × X)) → is_before stamp a x ≡ true → Behind a zs → Behind a (rest zs)) → ((zs : List (ℕ × X)) → Behind x zs → Behind x (rest zs)) → ((zs : List (ℕ × X)) → AllByRecursion (λ y. x.0 < y.0) zs → AreOrdered stamp zs → AreOrdered stamp (rest zs)) → AllByRecursion (λ y. x.0 < y.0) ys → AreOrdered stamp ys → AreOrdered stamp (put (is_before stamp) x rest ys)
  ordered_put x rest [] f g h n o = (g [] tt, h [] tt tt)
  ordered_put x rest (y ∷ ys) f g h n o =
      (elim (is_before stamp y x) as (λ b. is_before stamp y x ≡ b → AreOrdered stamp (elim b [ true ↦ y ∷ put (is_before stamp) x rest ys | false ↦ x ∷ rest (y ∷ ys) ])) [
        | true ↦ λ e. (all_put (λ z. is_before stamp y z ≡ true) (is_before stamp) x rest ys e (λ zs k. f y zs e k) o.0, ordered_put x rest ys f g h n.1 o.1)
        | false ↦ λ e. let t = turned x y n.0 e in (g (y ∷ ys) (t, behind_more x y ys t o.0), h (y ∷ ys) n o)
      ]) refl

  ordered_two : (q : ℕ) (xs : List X) (ys : List (ℕ × X)) → AreOrdered stamp (at_node q xs) → AllByRecursion (λ y. q < y.0) ys → AreOrdered stamp ys → AreOrdered stamp (merge_two (is_before stamp) (at_node q xs) ys)
  ordered_two q [] ys o n p = p
  ordered_two q (x ∷ xs) ys o n p =
      ordered_put (q, x) (merge_two (is_before stamp) (at_node q xs)) ys
      (λ a zs h k. all_merge_two (λ z. is_before stamp a z ≡ true) (is_before stamp) (at_node q xs) zs (behind_more a (q, x) (at_node q xs) h o.0) k)
      (λ zs k. all_merge_two (λ z. is_before stamp (q, x) z ≡ true) (is_before stamp) (at_node q xs) zs o.0 k)
      (λ zs m k. ordered_two q xs zs o.1 m k) n p

  rising_behind : (q : ℕ) (x : X) (n : ℕ) (xs : List X) → stamp x ≤ n → AreRising stamp n xs → Behind (q, x) (at_node q xs)
  rising_behind q x n [] l h = tt
  rising_behind q x n (y ∷ ys) l h = let k = h.0 in (write (q, x) (q, y) (inl (omega arith)), rising_behind q x (stamp y) ys (omega arith) h.1)

  rising_ordered : (q n : ℕ) (xs : List X) → AreRising stamp n xs → AreOrdered stamp (at_node q xs)
  rising_ordered q n [] h = tt
  rising_ordered q n (x ∷ xs) h = (rising_behind q x (stamp x) xs (omega arith) h.1, rising_ordered q (stamp x) xs h.1)

  ordered_from : (q : ℕ) (lists : List (List X)) → AllByRecursion (AreRising stamp 0) lists → AreOrdered stamp (merge_from stamp q lists)
  ordered_from q [] h = tt
  ordered_from q (xs ∷ lists) h =
      ordered_two q xs (merge_from stamp (q + 1) lists) (rising_ordered q 0 xs h.0)
      (all_weaken _ (λ y. q < y.0) _ (λ y k. let a = k.0 in omega arith) (merge_from_nodes stamp (q + 1) lists)) (ordered_from (q + 1) lists h.1)

  pub merge_ordered : (lists : List (List X)) → AllByRecursion (AreRising stamp 0) lists → AreOrdered stamp (merge stamp lists)
  unfolding merge
  merge_ordered lists h = ordered_from 0 lists h

pub merges_in_order : {X : Type 0} → MergesInOrder X
merges_in_order stamp lists h = merge_ordered stamp lists h
