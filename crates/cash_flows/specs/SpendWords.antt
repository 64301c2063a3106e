-- The words of a spend, `ID INDEX P`, and the bytes of these arguments.
use Rattle.std.specs.Prelude.{ℕ, ◌^◌, List, [], ◌∷◌, ◌++◌, Option, Result}
use Rattle.std.specs.Int.{w32}
use Rattle.net_base.specs.Reading.{number}
use Rattle.net_base.specs.Forms.{byte_at, number_at}
use Rattle.net_base.specs.Combining.{mapped_at, pair_at}
use Rattle.flow_forms.specs.Arguments.{then_of, then_words, word_below, no_words, end_at}
use Rattle.flow_txs.specs.Words.{id_of, tx_id, tx_id_at}
use Rattle.cash_flows.specs.Spend.{SpendArgs}

-- the arguments of words
abbrev pub args_of : List (List ℕ) → Option SpendArgs
args_of words = then_words id_of (then_words (word_below (2 ^ 32)) (then_words (word_below (2 ^ 8)) no_words)) words

-- the bytes of the arguments
abbrev pub args : SpendArgs → List ℕ
args a = tx_id a.first ++ (number w32 a.rest.first ++ ((a.rest.rest.first ∷ []) ++ []))

-- reading them
abbrev pub args_at : List ℕ → Result (SpendArgs × List ℕ) ℕ
args_at bytes = mapped_at then_of (pair_at tx_id_at (mapped_at then_of (pair_at (number_at w32) (mapped_at then_of (pair_at byte_at end_at))))) bytes
