-- Numbers in words.
use Rattle.std.specs.Prelude.{ℕ, List, [], ◌∷◌, Option, Some, None, Bool, true, false, nat_lt, ◌==◌, ◌&&◌, not, if◌then◌else◌, ◌^◌}
use Rattle.std.specs.Char.{is_ascii_digit}
use Rattle.std.specs.List.{list_all}
use Rattle.std.specs.Str.Parse.{digits_value}

-- at least one byte, and with more than one the first isn't `0`
abbrev pub is_plain : List ℕ → Bool
is_plain [] = false
is_plain (c ∷ []) = true
is_plain (c ∷ d ∷ ds) = not (c == 48)

-- decimal digits, at least one, with no leading zero
unfoldable pub is_numeral : List ℕ → Bool
is_numeral word = list_all is_ascii_digit word && is_plain word

-- the number that a word is, below 2 ^ 64
unfoldable pub number_of : List ℕ → Option ℕ
number_of word = if is_numeral word && nat_lt (digits_value 10 word) (2 ^ 64) then Some (digits_value 10 word) else None
