-- A list changed in place, item by item.
use Rattle.std.proofs.Common.{◌≡◌, ◌≤◌, ◌<◌, ◌+◌, ℕ, List, [], ◌∷◌, ◌++◌, length, take, drop, map, set, get_or, refl, sym, ◌∙◌, ap, arith, length-set}
use Rattle.std.proofs.lemmas.List.{take_all, take_more, take_more_set, drop_more, drop-set-lt, map-append}

-- ys is xs with what f makes of each of the first n items
pub record Marked {X : Type 0} (f : X → X) (xs ys : List X) (n : ℕ) : Type 0 where
  front : take n ys ≡ map f (take n xs)
  rest : drop n ys ≡ drop n xs
  long : length ys ≡ length xs

pub marked_none : {X : Type 0} (f : X → X) (xs : List X) → Marked f xs xs 0
marked_none f xs = record { front = refl; rest = refl; long = refl }

pub marked_all : {X : Type 0} (f : X → X) (xs ys : List X) (n : ℕ) → Marked f xs ys n → length xs ≤ n → ys ≡ map f xs
marked_all f xs ys n m all = sym (take_all n ys (rw m.long all)) ∙ m.front ∙ ap (map f) (take_all n xs all)

-- what follows the first n items of both
next : {X : Type 0} (xs ys : List X) (n : ℕ) (d : X) → drop n ys ≡ drop n xs → n < length ys → length ys ≡ length xs → (get_or ys n d ≡ get_or xs n d) × (drop (n + 1) ys ≡ drop (n + 1) xs)
next xs ys n d rest lt long =
    let both : get_or ys n d ∷ drop (n + 1) ys ≡ get_or xs n d ∷ drop (n + 1) xs = sym (drop_more ys n d lt) ∙ rest ∙ drop_more xs n d (omega (arith, lt, long)) in
    (cc both, cc both)

front_more : {X : Type 0} (f : X → X) (xs : List X) (n : ℕ) (d : X) → n < length xs → map f (take n xs) ++ f (get_or xs n d) ∷ [] ≡ map f (take (n + 1) xs)
front_more f xs n d lt = sym (ap (map f) (take_more xs n d lt) ∙ map-append f (take n xs) (get_or xs n d ∷ []))

-- the next item is written
pub marked_set : {X : Type 0} (f : X → X) (xs ys : List X) (n : ℕ) (d y : X) → Marked f xs ys n → n < length xs → y ≡ f (get_or ys n d) → Marked f xs (set ys n y) (n + 1)
marked_set f xs ys n d y m short is =
    let long : n < length ys = omega (arith, short, m.long) in
    let e = next xs ys n d m.rest long m.long in
    record {
      front = take_more_set ys n y long ∙ ap (λ l. l ++ y ∷ []) m.front ∙ ap (λ v. map f (take n xs) ++ v ∷ []) (is ∙ ap f e.0) ∙ front_more f xs n d short;
      rest = drop-set-lt (n + 1) ys n y (omega arith) ∙ e.1;
      long = length-set ys n y ∙ m.long;
    }
