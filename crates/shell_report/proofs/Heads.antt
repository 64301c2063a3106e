-- The pieces of a line, one after another.
use Rattle.std.proofs.Common.{◌≡◌, ◌++◌, List, ℕ, ◌∙◌, append_assoc}

-- four, grouped from the left, are the same as grouped from the right
pub four : (a b c d : List ℕ) → a ++ b ++ c ++ d ≡ a ++ (b ++ (c ++ d))
four a b c d = append_assoc (a ++ b) c d ∙ append_assoc a b (c ++ d)

-- and so are eight
pub eight : (a b c d e f g h : List ℕ) → a ++ b ++ c ++ d ++ e ++ f ++ g ++ h ≡ a ++ (b ++ (c ++ (d ++ (e ++ (f ++ (g ++ h))))))
eight a b c d e f g h =
    append_assoc (a ++ b ++ c ++ d ++ e ++ f) g h
    ∙ append_assoc (a ++ b ++ c ++ d ++ e) f (g ++ h)
    ∙ append_assoc (a ++ b ++ c ++ d) e (f ++ (g ++ h))
    ∙ append_assoc (a ++ b ++ c) d (e ++ (f ++ (g ++ h)))
    ∙ four a b c (d ++ (e ++ (f ++ (g ++ h))))

-- and six
pub six : (a b c d e f : List ℕ) → a ++ b ++ c ++ d ++ e ++ f ≡ a ++ (b ++ (c ++ (d ++ (e ++ f))))
six a b c d e f = append_assoc (a ++ b ++ c ++ d) e f ∙ append_assoc (a ++ b ++ c) d (e ++ f) ∙ four a b c (d ++ (e ++ f))

-- and ten
pub ten : (a b c d e f g h i j : List ℕ) → a ++ b ++ c ++ d ++ e ++ f ++ g ++ h ++ i ++ j ≡ a ++ (b ++ (c ++ (d ++ (e ++ (f ++ (g ++ (h ++ (i ++ j))))))))
ten a b c d e f g h i j = append_assoc (a ++ b ++ c ++ d ++ e ++ f ++ g ++ h) i j ∙ append_assoc (a ++ b ++ c ++ d ++ e ++ f ++ g) h (i ++ j) ∙ eight a b c d e f g (h ++ (i ++ j))
