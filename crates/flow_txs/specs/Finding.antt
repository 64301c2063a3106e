-- What a flow finds of a state that its words name.
use Rattle.std.specs.Prelude.{ℕ, List, Option, Some, None, slice_get, option_and_then}
use Rattle.ledger_types.specs.declared.state.StateData.{StateData}
use Rattle.ledger_types.specs.declared.state.TxState.{TxState}

-- what a state says, where it has no encumbrance
abbrev pub if_free : Option ℕ → StateData → Option StateData
if_free None body = Some body
if_free (Some place) body = None

abbrev pub said_freely : TxState → Option StateData
said_freely s = if_free s.encumbrance s.body

-- what the output at a place says, where there is one and it has no encumbrance
abbrev pub free_output : List TxState → ℕ → Option StateData
free_output outputs index = option_and_then said_freely (slice_get outputs index)
