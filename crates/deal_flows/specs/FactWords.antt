-- The words of a fact, `P NAME VALUE`, and the bytes of these arguments.
use Rattle.std.specs.Prelude.{ℕ, ◌^◌, List, [], ◌∷◌, ◌++◌, Option, Result}
use Rattle.std.specs.Int.{w64}
use Rattle.net_base.specs.Reading.{number}
use Rattle.net_base.specs.Forms.{byte_at, number_at}
use Rattle.net_base.specs.Combining.{mapped_at, pair_at}
use Rattle.flow_forms.specs.Arguments.{then_of, then_words, word_below, no_words, end_at}
use Rattle.deal_flows.specs.Fact.{FactArgs}

-- the arguments of words
abbrev pub args_of : List (List ℕ) → Option FactArgs
args_of words = then_words (word_below (2 ^ 8)) (then_words (word_below (2 ^ 64)) (then_words (word_below (2 ^ 64)) no_words)) words

-- the bytes of the arguments
abbrev pub args : FactArgs → List ℕ
args a = (a.first ∷ []) ++ (number w64 a.rest.first ++ (number w64 a.rest.rest.first ++ []))

-- reading them
abbrev pub args_at : List ℕ → Result (FactArgs × List ℕ) ℕ
args_at bytes = mapped_at then_of (pair_at byte_at (mapped_at then_of (pair_at (number_at w64) (mapped_at then_of (pair_at (number_at w64) end_at))))) bytes
