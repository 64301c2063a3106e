-- The lines of bytes that grow by one.
use Rattle.std.proofs.Common.{◌≡◌, ◌≢◌, ◌==◌, false, ℕ, zero, suc, ◌<◌, List, [], ◌∷◌, ◌++◌, length, refl, sym, ap, ◌∙◌, append_assoc, append-nil, All, arith}
use Rattle.std.proofs.lemmas.List.Elements.{All-append, All-nil, All-cons}
use Rattle.std.proofs.lemmas.List.{map-append}
use Rattle.std.proofs.lemmas.Grind.{flat_map-append}
use Rattle.std.specs.List.{flat_map}
use Rattle.shell_words.specs.Script.{ended_line, HasNoEnd, AreLines, without_cr, whole_lines, last_line}

-- no bytes are no lines
pub lines_none : AreLines [] [] []
lines_none = record { whole = refl; each = All-nil HasNoEnd; open_rest = All-nil (λ b. b ≢ 10) }

all_one : {X : Type 0} (P : X → Type 0) (x : X) → P x → All P (x ∷ [])
all_one P x p = All-cons P x [] p (All-nil P)

module _ {bytes : List ℕ} {lines : List (List ℕ)} {rest : List ℕ} (a : AreLines bytes lines rest) where
  -- a byte that ends no line
  pub lines_byte : (b : ℕ) → b ≢ 10 → AreLines (bytes ++ b ∷ []) lines (rest ++ b ∷ [])
  lines_byte b open_b = record {
    whole = ap (λ l. l ++ b ∷ []) a.whole ∙ append_assoc (flat_map ended_line lines) rest (b ∷ []);
    each = a.each;
    open_rest = All-append (λ x. x ≢ 10) rest (b ∷ []) a.open_rest (all_one (λ x. x ≢ 10) b open_b);
  }

  -- a byte that ends one
  pub lines_end : AreLines (bytes ++ 10 ∷ []) (lines ++ rest ∷ []) []
  lines_end = record {
    whole = ap (λ l. l ++ 10 ∷ []) a.whole ∙ append_assoc (flat_map ended_line lines) rest (10 ∷ []) ∙ sym (append-nil _ ∙ flat_map-append ended_line lines (rest ∷ []) ∙ ap (λ l. flat_map ended_line lines ++ l) (append-nil (rest ++ 10 ∷ [])));
    each = All-append HasNoEnd lines (rest ∷ []) a.each (all_one HasNoEnd rest a.open_rest);
    open_rest = All-nil (λ b. b ≢ 10);
  }

-- one more whole line
pub whole_more : (lines : List (List ℕ)) (rest : List ℕ) → whole_lines (lines ++ rest ∷ []) ≡ whole_lines lines ++ without_cr rest ∷ []
whole_more lines rest = map-append without_cr lines (rest ∷ [])

-- a rest that isn't empty is a last line
pub last_one : (rest : List ℕ) → 0 < length rest → last_line rest ≡ rest ∷ []
last_one [] h = absurd (omega arith)
last_one (b ∷ bs) h = refl

-- what isn't empty has a byte
pub some_byte : (n : ℕ) → (n == 0) ≡ false → 0 < n
some_byte zero h = cc
some_byte (suc n) h = omega arith
