-- The disks of the nodes of a run, in front of all others.
use Rattle.std.proofs.Common.{◌≡◌, ℕ, zero, suc, ◌<◌, List, [], ◌∷◌, ◌++◌, length, map, take, drop, Some, refl, sym, ◌∙◌, ap, arith}
use Rattle.std.specs.Prelude.{slice_index_or}
use Rattle.std.specs.List.{slice_get, insert, remove}
use Rattle.std.proofs.lemmas.List.{append_assoc, drop_at, length-append, length-map, length-take, map-append, take_at}

-- one of the first is one of all
pub first_at : {X : Type 0} (n : ℕ) (l : List X) (p : ℕ) (x : X) → slice_get (take n l) p ≡ Some x → (p < n) × (slice_get l p ≡ Some x)
first_at zero l p x at = cc
first_at (suc n) [] p x at = cc
first_at (suc n) (y ∷ l) zero x at = (omega arith, at)
first_at (suc n) (y ∷ l) (suc p) x at = let rest = first_at n l p x at in (omega (arith, rest.0), rest.1)

pub first_count : {X : Type 0} (n : ℕ) (a b : List X) → length a ≡ length b → length (take n a) ≡ length (take n b)
first_count n a b same = omega (arith, length-take n a, length-take n b, same)

-- ---- taking out and putting back

-- the next one was taken
pub one_taken : {X : Type 0} (own rest more less all : List X) (x : X) → own ++ rest ≡ all → 0 < length rest → x ≡ slice_index_or rest 0 x → less ≡ remove rest 0 → more ≡ own ++ x ∷ [] → more ++ less ≡ all
one_taken own [] more less all x whole some is out pushed = absurd (omega (arith, some))
one_taken own (y ∷ rest) more less all x whole some is out pushed =
    ap (λ l. l ++ less) pushed ∙ ap (λ l. (own ++ x ∷ []) ++ l) out ∙ append_assoc own (x ∷ []) rest ∙ ap (λ z. own ++ z ∷ rest) is ∙ whole

at_front : {X : Type 0} (l : List X) (x : X) → insert l 0 x ≡ x ∷ l
at_front [] x = refl
at_front (y ∷ l) x = refl

-- the last one was put back
pub one_put_back : {X : Type 0} (own less rest more : List X) (x : X) → own ≡ less ++ x ∷ [] → more ≡ insert rest 0 x → (less ++ more ≡ own ++ rest) × (length more ≡ suc (length rest)) × (length own ≡ suc (length less))
one_put_back own less rest more x popped put =
    let long = length-append less (x ∷ []) in
    (ap (λ l. less ++ l) (put ∙ at_front rest x) ∙ sym (append_assoc less (x ∷ []) rest) ∙ ap (λ l. l ++ rest) (sym popped), ap length (put ∙ at_front rest x), ap length popped ∙ long ∙ omega arith)

-- ---- all disks, by those of the nodes and the others

module _ {X Y : Type 0} (f : X → Y) (own rest all : List X) (n : ℕ) (whole : own ++ rest ≡ all) (count : length own ≡ n) where
  pub front : take n (map f all) ≡ map f own
  front = ap (λ l. take n (map f l)) (sym whole) ∙ ap (take n) (map-append f own rest) ∙ take_at (map f own) (map f rest) n (length-map own f ∙ count)

  pub behind : drop n all ≡ rest
  behind = ap (drop n) (sym whole) ∙ drop_at own rest n count
