-- Lists of what is seen of items, as of the frames that stacks share.
use Rattle.std.proofs.Common.{◌≡◌, ◌-◌, ◌<◌, ℕ, zero, suc, get_or, subst, List, [], ◌∷◌, ◌++◌, length, map, take, drop, reverse, sym, ap, ◌∙◌, arith}
use Rattle.std.specs.List.{AllByRecursion}
use Rattle.std.proofs.lemmas.List.{map-append, reverse-append, length-map, length-drop, take-append-drop}

-- without the last item
last_off : {F : Type 0} (front back : List F) → length back ≡ 1 → drop 1 (reverse (front ++ back)) ≡ reverse front
last_off front [] h = absurd (omega (arith, h))
last_off front (x ∷ []) h = ap (drop 1) (reverse-append front (x ∷ []))
last_off front (x ∷ y ∷ back) h = absurd (omega (arith, h))

module _ {A F : Type 0} (see : A → F) where
  -- one more at the end is one more at the front of the reverse
  pub seen_more : (xs : List A) (x : A) → reverse (map see (xs ++ x ∷ [])) ≡ see x ∷ reverse (map see xs)
  seen_more xs x = ap reverse (map-append see xs (x ∷ [])) ∙ reverse-append (map see xs) (see x ∷ [])

  -- all but the last is the reverse without its first
  pub seen_less : (xs : List A) → 0 < length xs → reverse (map see (take (length xs - 1) xs)) ≡ drop 1 (reverse (map see xs))
  seen_less xs more =
      let k = length xs - 1 in
      let one : length (map see (drop k xs)) ≡ 1 = omega (arith, more, length-map (drop k xs) see, length-drop k xs) in
      sym (last_off (map see (take k xs)) (map see (drop k xs)) one) ∙ ap (λ (l : List F). drop 1 (reverse l)) (sym (map-append see (take k xs) (drop k xs)) ∙ ap (map see) (take-append-drop k xs))

  -- what holds of all that is seen holds of what is seen of the item at a place
  pub seen_at : (P : F → Type 0) (xs : List A) (i : ℕ) (x : A) → i < length xs → AllByRecursion P (map see xs) → x ≡ get_or xs i x → P (see x)
  seen_at P [] i x short h is = absurd (omega (arith, short))
  seen_at P (y ∷ xs) zero x short h is = subst (λ (z : A). P (see z)) (sym is) h.0
  seen_at P (y ∷ xs) (suc i) x short h is = seen_at P xs i x (omega (arith, short)) h.1 is
