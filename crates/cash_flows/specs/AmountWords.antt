-- The words of an issue and of an exit, `CODE AMOUNT`, and the bytes of these arguments.
use Rattle.std.specs.Prelude.{ℕ, ◌^◌, List, [], ◌++◌, Option, Result}
use Rattle.std.specs.Int.{w64}
use Rattle.net_base.specs.Reading.{number}
use Rattle.net_base.specs.Forms.{number_at}
use Rattle.net_base.specs.Combining.{mapped_at, pair_at}
use Rattle.flow_forms.specs.declared.arguments.End.{End}
use Rattle.flow_forms.specs.declared.arguments.Then.{Then}
use Rattle.flow_forms.specs.Arguments.{then_of, then_words, word_below, no_words, end_at}
use Rattle.flow_txs.specs.declared.words.Code.{Code}
use Rattle.flow_txs.specs.Words.{code_of_word, code, code_at}

-- The arguments, in the order of their words: the code and the amount.
abbrev pub AmountArgs : Type 0
AmountArgs = Then Code (Then ℕ End)

-- the arguments of words
abbrev pub args_of : List (List ℕ) → Option AmountArgs
args_of words = then_words code_of_word (then_words (word_below (2 ^ 64)) no_words) words

-- the bytes of the arguments
abbrev pub args : AmountArgs → List ℕ
args a = code a.first ++ (number w64 a.rest.first ++ [])

-- reading them
abbrev pub args_at : List ℕ → Result (AmountArgs × List ℕ) ℕ
args_at bytes = mapped_at then_of (pair_at code_at (mapped_at then_of (pair_at (number_at w64) end_at))) bytes
