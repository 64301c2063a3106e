use Rattle.std.proofs.Common.{◌≡◌, ℕ, List, [], ◌∷◌, Some, None, true, Result, Ok, Err, cond, nat_lt, ◌^◌, ◌<◌, length, ap, rules, arith, ◌≤◌}
use Rattle.std.specs.Char.{is_ascii_digit}
use Rattle.std.specs.List.{list_all}
use Rattle.std.specs.Result.{result_ok, OkIff}
use Rattle.std.specs.Str.Parse.{digits_value, ParsesUnsigned}
use Rattle.std.proofs.lemmas.Str.Parse.{IsNumeralModel, numerals_by_value, parse_digits}
use Rattle.std.proofs.lemmas.Bool.{lt-ltb, le-ltb, and_parts}
use Rattle.net_base.specs.Numbers.{is_numeral, is_plain, number_of}

own : IsNumeralModel (λ ds. list_all is_ascii_digit ds ≡ true) (digits_value 10)
own = numerals_by_value _ (search rules)

plain_length : (word : List ℕ) → is_plain word ≡ true → 0 < length word
plain_length [] e = cc
plain_length (c ∷ cs) e = omega arith

picked : {E : Type 0} (r : Result ℕ E) (v n : ℕ) → OkIff r ((0 < n) × (v < 2 ^ 64)) v → 0 < n → result_ok r ≡ cond (nat_lt v (2 ^ 64)) (Some v) None
picked (Ok x) v n h p = rw (lt-ltb v (2 ^ 64) h.0.1) (ap Some h.1)
picked (Err e) v n h p =
    let not_small : v < 2 ^ 64 → ⊥ = λ small. h (p, small) in
    let large : 2 ^ 64 ≤ v = omega arith in
    rw (le-ltb v (2 ^ 64) large)

-- what parse gives of a numeral is its number
pub number_parsed : {E : Type 0} (word : List ℕ) (r : Result ℕ E) → ParsesUnsigned 64 10 word r → is_numeral word ≡ true → result_ok r ≡ number_of word
unfolding number_of is_numeral
number_parsed word r h e =
    let parts = and_parts _ _ e in
    rw e (picked r (digits_value 10 word) (length word) (parse_digits own 64 word r h parts.0) (plain_length word parts.1))
