-- Tests over lists.
use Rattle.std.proofs.Common.{◌≡◌, Bool, true, false, cond, ◌&&◌, List, [], ◌∷◌, map, filter, refl, sym, ◌∙◌, ap}

-- a filter of a filter is one filter by both tests
pub filter_twice : {X : Type 0} (p s q : X → Bool) → ((x : X) → q x ≡ (p x && s x)) → (xs : List X) → filter q xs ≡ filter s (filter p xs)
filter_twice p s q both [] = refl
filter_twice {X} p s q both (x ∷ xs) = ap (λ b. cond b (x ∷ filter q xs) (filter q xs)) (both x) ∙ by (filter_twice p s q both xs) (p x) (s x) refl
  where
    by : filter q xs ≡ filter s (filter p xs) → (a b : Bool) → s x ≡ b → cond (a && b) (x ∷ filter q xs) (filter q xs) ≡ filter s (cond a (x ∷ filter p xs) (filter p xs))
    by more true true e = ap (λ (l : List X). x ∷ l) more ∙ ap (λ c. cond c (x ∷ filter s (filter p xs)) (filter s (filter p xs))) (sym e)
    by more true false e = more ∙ ap (λ c. cond c (x ∷ filter s (filter p xs)) (filter s (filter p xs))) (sym e)
    by more false b e = more

-- a filter by what a change of the items keeps
pub filter_changed : {X : Type 0} (p : X → Bool) (g : X → X) → ((x : X) → p (g x) ≡ p x) → (xs : List X) → filter p (map g xs) ≡ map g (filter p xs)
filter_changed p g keeps [] = refl
filter_changed {X} p g keeps (x ∷ xs) = ap (λ b. cond b (g x ∷ filter p (map g xs)) (filter p (map g xs))) (keeps x) ∙ by (filter_changed p g keeps xs) (p x)
  where
    by : filter p (map g xs) ≡ map g (filter p xs) → (b : Bool) → cond b (g x ∷ filter p (map g xs)) (filter p (map g xs)) ≡ map g (cond b (x ∷ filter p xs) (filter p xs))
    by more true = ap (λ (l : List X). g x ∷ l) more
    by more false = more

pub map_same : {X Y : Type 0} (f g : X → Y) → ((x : X) → f x ≡ g x) → (xs : List X) → map f xs ≡ map g xs
map_same f g same [] = refl
map_same f g same (x ∷ xs) = λ i. same x i ∷ map_same f g same xs i

pub true_or_false : {P : Type 0} (b : Bool) → (b ≡ true → P) → (b ≡ false → P) → P
true_or_false true holds fails = holds refl
true_or_false false holds fails = fails refl
