-- Five words and more.
use Rattle.std.proofs.Common.{◌≡◌, ◌≤◌, ap, ℕ, List, [], ◌∷◌, map, length, get_or, sym, arith, ◌∙◌}
use Rattle.shell_words.specs.Script.{many_words, command_of}

-- what five words and more ask for, by the first two
pub five_words : {X : Type 0} (h : X → List ℕ) (xs : List X) (w n : X) → 5 ≤ length xs → w ≡ get_or xs 0 w → n ≡ get_or xs 1 n → command_of (map h xs) ≡ many_words (h w) (h n)
five_words h [] w n few = absurd (omega arith)
five_words h (a ∷ []) w n few = absurd (omega arith)
five_words h (a ∷ b ∷ []) w n few = absurd (omega arith)
five_words h (a ∷ b ∷ c ∷ []) w n few = absurd (omega arith)
five_words h (a ∷ b ∷ c ∷ d ∷ []) w n few = absurd (omega arith)
five_words h (a ∷ b ∷ c ∷ d ∷ x ∷ xs) w n few = λ e g. ap (λ t. many_words (h t) (h b)) (sym e) ∙ ap (λ t. many_words (h w) (h t)) (sym g)
