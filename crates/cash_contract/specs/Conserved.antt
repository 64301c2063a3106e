-- The law of the Cash contract.
use Rattle.std.specs.Prelude.{◌≡◌, ◌+◌, None}
use Rattle.net_base.specs.declared.names.Token.{Token}
use Rattle.ledger_types.specs.declared.tx.Tx.{Tx}
use Rattle.ledger_types.specs.declared.tx.Resolved.{Resolved}
use Rattle.cash_contract.specs.Clauses.{cash_says, value_in, value_issued, value_exited}

-- of every token, what goes into an accepted transaction and is issued is what goes out and is exited
abbrev pub ConservesValue : Type 0
ConservesValue = (tx : Tx) (resolved : Resolved) (token : Token) → cash_says tx resolved ≡ None
    → value_in token resolved.inputs + value_issued token tx ≡ value_in token tx.outputs + value_exited token tx
