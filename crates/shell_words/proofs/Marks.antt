-- What follows a first `#`.
use Rattle.std.proofs.Common.{◌≡◌, ◌≢◌, ◌==◌, Bool, ap, true, false, ℕ, List, [], ◌∷◌, Option, Some, None, option_map, map, ◌||◌, refl, sym, arith}
use Rattle.std.specs.Prelude.{MatchOption}
use Rattle.std.specs.List.{list_any}
use Rattle.std.specs.Borrow.{Bor}
use Rattle.std.proofs.lemmas.Bool.Decides.{nat_tests}
use Rattle.shell_words.specs.Script.{after_hash}

-- the clause of `strip_prefix` at `#`
pub after_hash_from : (bs : List ℕ) (r : Option (Bor (List ℕ)))
    → MatchOption r ((rest : List ℕ) → bs ≢ 35 ∷ rest) (λ x. bs ≡ 35 ∷ x.now) → option_map (λ s. s.now) r ≡ after_hash bs
after_hash_from [] None h = refl
after_hash_from [] (Some x) h = cc
after_hash_from (b ∷ bs) None h = go (b == 35) refl
  where
    go : (t : Bool) → (b == 35) ≡ t → None ≡ after_hash (b ∷ bs)
    go true e = absurd (h bs (ap (λ n. n ∷ bs) (grind (arith, nat_tests))))
    go false e = rw e
after_hash_from (b ∷ bs) (Some x) h = sym (ap after_hash h)

-- a test of the images
pub list_any_map : {X Y : Type 0} (p : Y → Bool) (h : X → Y) (xs : List X) → list_any p (map h xs) ≡ list_any (λ x. p (h x)) xs
list_any_map p h [] = refl
list_any_map p h (x ∷ xs) = ap (λ t. p (h x) || t) (list_any_map p h xs)
