-- The words of a payment, `pay P CODE ISSUER AMOUNT` and options, and the bytes of its arguments.
use Rattle.std.specs.Prelude.{ℕ, ◌^◌, List, [], ◌∷◌, ◌++◌, Option, Result}
use Rattle.std.specs.Int.{w64}
use Rattle.net_base.specs.Reading.{number}
use Rattle.net_base.specs.Forms.{byte_at, number_at}
use Rattle.net_base.specs.Combining.{mapped_at, pair_at}
use Rattle.flow_forms.specs.Arguments.{then_of, then_words, word_below}
use Rattle.flow_txs.specs.Words.{code_of_word, code, code_at}
use Rattle.cash_flows.specs.Options.{options_of, pay_options, pay_options_at}
use Rattle.cash_flows.specs.Pay.{PayArgs}

-- `P CODE ISSUER AMOUNT`, and the options
abbrev pub args_of : List (List ℕ) → Option PayArgs
args_of words = then_words (word_below (2 ^ 8)) (then_words code_of_word (then_words (word_below (2 ^ 8)) (then_words (word_below (2 ^ 64)) options_of))) words

-- the bytes of the arguments
abbrev pub args : PayArgs → List ℕ
args a = (a.first ∷ []) ++ (code a.rest.first ++ ((a.rest.rest.first ∷ []) ++ (number w64 a.rest.rest.rest.first ++ pay_options a.rest.rest.rest.rest)))

-- reading them
abbrev pub args_at : List ℕ → Result (PayArgs × List ℕ) ℕ
args_at bytes = mapped_at then_of (pair_at byte_at (mapped_at then_of (pair_at code_at (mapped_at then_of (pair_at byte_at (mapped_at then_of (pair_at (number_at w64) pay_options_at))))))) bytes
