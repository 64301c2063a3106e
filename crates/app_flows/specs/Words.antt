-- The words of the flows that only talk, and the bytes of their arguments.
use Rattle.std.specs.Prelude.{ℕ, ◌^◌, List, [], ◌∷◌, ◌++◌, Option, Result}
use Rattle.std.specs.Int.{w16, w32}
use Rattle.net_base.specs.Reading.{number}
use Rattle.net_base.specs.Forms.{byte_at, number_at}
use Rattle.net_base.specs.Combining.{mapped_at, pair_at}
use Rattle.flow_forms.specs.Arguments.{then_of, then_words, word_below, no_words, end_at}
use Rattle.flow_forms.specs.declared.arguments.End.{End}
use Rattle.flow_forms.specs.declared.arguments.Then.{Then}

-- ---- a count: `K`

abbrev pub count_words : List (List ℕ) → Option (Then ℕ End)
count_words words = then_words (word_below (2 ^ 32)) no_words words

abbrev pub count_bytes : Then ℕ End → List ℕ
count_bytes a = number w32 a.first ++ []

abbrev pub count_at : List ℕ → Result (Then ℕ End × List ℕ) ℕ
count_at bytes = mapped_at then_of (pair_at (number_at w32) end_at) bytes

-- ---- a ping: `P K`

abbrev pub ping_words : List (List ℕ) → Option (Then ℕ (Then ℕ End))
ping_words words = then_words (word_below (2 ^ 8)) (then_words (word_below (2 ^ 32)) no_words) words

abbrev pub ping_bytes : Then ℕ (Then ℕ End) → List ℕ
ping_bytes a = (a.first ∷ []) ++ (number w32 a.rest.first ++ [])

abbrev pub ping_at : List ℕ → Result (Then ℕ (Then ℕ End) × List ℕ) ℕ
ping_at bytes = mapped_at then_of (pair_at byte_at (mapped_at then_of (pair_at (number_at w32) end_at))) bytes

-- ---- a probe: `P CLASS`

abbrev pub probe_words : List (List ℕ) → Option (Then ℕ (Then ℕ End))
probe_words words = then_words (word_below (2 ^ 8)) (then_words (word_below (2 ^ 16)) no_words) words

abbrev pub probe_bytes : Then ℕ (Then ℕ End) → List ℕ
probe_bytes a = (a.first ∷ []) ++ (number w16 a.rest.first ++ [])

abbrev pub probe_at : List ℕ → Result (Then ℕ (Then ℕ End) × List ℕ) ℕ
probe_at bytes = mapped_at then_of (pair_at byte_at (mapped_at then_of (pair_at (number_at w16) end_at))) bytes
