-- How many bytes records take.
use Rattle.std.proofs.Common.{◌≡◌, ◌⊎◌, inl, inr, ℕ, zero, suc, ◌+◌, true, false, List, [], ◌∷◌, length, take, drop, refl, sym, ◌∙◌, ap, arith, length-drop}
use Rattle.std.proofs.lemmas.List.{length-take-le}
use Rattle.std.proofs.lemmas.Bool.{cases_Bool}
use Rattle.disk_journal.specs.Journal.{is_whole, length_at, bodies, extent, placed, size_of}
use Rattle.disk_journal.proofs.Records.{whole, bodies_open, bodies_shut, extent_open, extent_shut}

pub length-placed : (at : ℕ) (bs : List (List ℕ)) → length (placed at bs) ≡ length bs
length-placed at [] = refl
length-placed at (b ∷ bs) = let rest = length-placed (at + (5 + length b)) bs in omega (arith, rest)

pub size-placed : (n at : ℕ) (x : List ℕ) → size_of (placed at (bodies n x)) ≡ extent n x
size-placed zero at x = refl
size-placed (suc n) at x = by (size-placed n (at + (5 + length (take (length_at x) (drop 5 x)))) (drop (5 + length_at x) x)) (cases_Bool (is_whole x))
  where
    by : size_of (placed (at + (5 + length (take (length_at x) (drop 5 x)))) (bodies n (drop (5 + length_at x) x))) ≡ extent n (drop (5 + length_at x) x) → (is_whole x ≡ true) ⊎ (is_whole x ≡ false) → size_of (placed at (bodies (suc n) x)) ≡ extent (suc n) x
    by rest (inl is_open) =
        let len : length (take (length_at x) (drop 5 x)) ≡ length_at x = length-take-le (length_at x) (drop 5 x) (omega (arith, (whole x is_open).fits, length-drop 5 x)) in
        ap (λ (l : List (List ℕ)). size_of (placed at l)) (bodies_open n x is_open)
        ∙ ap (λ (k : ℕ). 5 + length (take (length_at x) (drop 5 x)) + k) rest
        ∙ ap (λ (k : ℕ). 5 + k + extent n (drop (5 + length_at x) x)) len
        ∙ sym (extent_open n x is_open)
    by rest (inr not_open) = ap (λ (l : List (List ℕ)). size_of (placed at l)) (bodies_shut n x not_open) ∙ sym (extent_shut n x not_open)
