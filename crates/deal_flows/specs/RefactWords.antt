-- The words of a changed fact, `ID INDEX VALUE`, and the bytes of these arguments.
use Rattle.std.specs.Prelude.{ℕ, ◌^◌, List, [], ◌++◌, Option, Result}
use Rattle.std.specs.Int.{w32, w64}
use Rattle.net_base.specs.Reading.{number}
use Rattle.net_base.specs.Forms.{number_at}
use Rattle.net_base.specs.Combining.{mapped_at, pair_at}
use Rattle.flow_forms.specs.Arguments.{then_of, then_words, word_below, no_words, end_at}
use Rattle.flow_txs.specs.Words.{id_of, tx_id, tx_id_at}
use Rattle.deal_flows.specs.Refact.{RefactArgs}

-- the arguments of words
abbrev pub args_of : List (List ℕ) → Option RefactArgs
args_of words = then_words id_of (then_words (word_below (2 ^ 32)) (then_words (word_below (2 ^ 64)) no_words)) words

-- the bytes of the arguments
abbrev pub args : RefactArgs → List ℕ
args a = tx_id a.first ++ (number w32 a.rest.first ++ (number w64 a.rest.rest.first ++ []))

-- reading them
abbrev pub args_at : List ℕ → Result (RefactArgs × List ℕ) ℕ
args_at bytes = mapped_at then_of (pair_at tx_id_at (mapped_at then_of (pair_at (number_at w32) (mapped_at then_of (pair_at (number_at w64) end_at))))) bytes
