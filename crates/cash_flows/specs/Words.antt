-- What a word of a payment is that names a moment.
use Rattle.std.specs.Prelude.{◌≡◌, ℕ, ◌^◌, List, Option, Some, None}
use Rattle.net_base.specs.declared.values.Moment.{Moment}
use Rattle.net_base.specs.Values.{IsMoment}
use Rattle.flow_forms.specs.Arguments.{word_below, word_is_below}

-- a moment that was read
abbrev pub moment_in : Option ℕ → Option Moment
moment_in None = None
moment_in (Some n) = Some (record { 0 = n })

-- the moment that a word is: a number below 2 ^ 64
abbrev pub moment_of : List ℕ → Option Moment
moment_of word = moment_in (word_below (2 ^ 64) word)

-- ---- laws

moment_is : (n : Option ℕ) (m : Moment) → moment_in n ≡ Some m → n ≡ Some m.0
moment_is None m e = absurd cc
moment_is (Some n) m e = cc

-- a moment that was read has 64 bits
pub moment_within : (word : List ℕ) (m : Moment) → moment_of word ≡ Some m → IsMoment m
moment_within word m e = word_is_below (2 ^ 64) word m.0 (moment_is (word_below (2 ^ 64) word) m e)
