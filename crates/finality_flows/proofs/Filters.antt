-- Items that pass two tests.
use Rattle.std.proofs.Common.{◌≡◌, Bool, true, false, cond, List, [], ◌∷◌, refl, ap}
use Rattle.std.specs.Prelude.{filter, ◌&&◌}

-- an item that passes both, before the others
one : {X : Type 0} (x : X) (p : Bool) (q : X → Bool) (both rest : List X) → both ≡ filter q rest → cond (p && q x) (x ∷ both) both ≡ filter q (cond p (x ∷ rest) rest)
one x true q both rest e = ap (λ l. cond (q x) (x ∷ l) l) e
one x false q both rest e = e

-- one test after the other
pub filter_both : {X : Type 0} (p q : X → Bool) (xs : List X) → filter (λ x. p x && q x) xs ≡ filter q (filter p xs)
filter_both p q [] = refl
filter_both p q (x ∷ xs) = one x (p x) q (filter (λ y. p y && q y) xs) (filter p xs) (filter_both p q xs)
