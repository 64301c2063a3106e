-- The transaction that a payment makes.
use Rattle.std.specs.Prelude.{ℕ, List, [], ◌∷◌, map, Option, Some, None}
use Rattle.net_base.specs.declared.names.StateRef.{StateRef}
use Rattle.ledger_types.specs.declared.state.TxState.{TxState}
use Rattle.ledger_types.specs.declared.tx.Deed.TheVariants.{CashMove}
use Rattle.ledger_types.specs.declared.tx.Tx.{Tx}
use Rattle.ledger_types.specs.declared.held.Held.{Held}
use Rattle.flow_machine.specs.declared.acts.Place.{Place}
use Rattle.cash_flows.specs.declared.pay.Pay.{Pay}
use Rattle.flow_txs.specs.Making.{alone, made}
use Rattle.cash_flows.specs.Making.{cash, worth, rest_of}

-- the amount for the payee, and the rest
abbrev pub outputs_of : Pay → ℕ → Place → List TxState
outputs_of p sum here = cash here p.token p.amount p.to ∷ rest_of here p.token p.amount sum

-- a reference that is named, as a list
abbrev pub listed : Option StateRef → List StateRef
listed None = []
listed (Some r) = r ∷ []

-- The payment of coins: they are the inputs, in their order; the amount is for the payee and the rest for this party, who signs the move.
abbrev pub payment : Pay → List Held → Place → Tx
payment p coins here = record (made (map (λ h. h.reference) coins) (outputs_of p (worth coins) here) CashMove (alone here.me) here) { window = p.window; references = listed p.reference }
