-- What the contract of cash says of a payment.
use Rattle.std.specs.Prelude.{◌≡◌, ℕ, ◌+◌, ◌<◌, ◌≤◌, ◌^◌, List, map, None}
use Rattle.std.specs.List.{AllByRecursion}
use Rattle.net_base.specs.declared.names.Token.{Token}
use Rattle.net_base.specs.declared.values.Party.{Party}
use Rattle.ledger_types.specs.declared.held.Held.{Held}
use Rattle.ledger_types.specs.declared.state.StateData.TheVariants.{Cash}
use Rattle.ledger_types.specs.declared.state.TxState.{TxState}
use Rattle.ledger_types.specs.declared.tx.Resolved.{Resolved}
use Rattle.cash_contract.specs.Clauses.{cash_says}
use Rattle.flow_machine.specs.declared.acts.Place.{Place}
use Rattle.cash_flows.specs.declared.pay.Pay.{Pay}
use Rattle.cash_flows.specs.Making.{worth}
use Rattle.cash_flows.specs.Payment.{payment}

-- a held state is cash of the token that the party owns
abbrev pub IsOwn : Token → Party → Held → Type 0
IsOwn token me h = (amount : ℕ) × (h.state.body ≡ Cash token amount me)

-- the states that a payment of coins consumes, and others that it refers to
abbrev pub resolved_of : List Held → List TxState → Resolved
resolved_of coins references = record { inputs = map (λ h. h.state) coins; references = references }

-- No clause of the contract of cash refuses a payment of at least 1 by own coins that reach the amount, and exceed it by an amount.
abbrev pub AcceptedByCash : Type 0
AcceptedByCash = (p : Pay) (coins : List Held) (here : Place) (references : List TxState) → here.me.0 < 16 → AllByRecursion (IsOwn p.token here.me) coins → 0 < p.amount → p.amount ≤ worth coins → worth coins < p.amount + 2 ^ 64
    → cash_says (payment p coins here) (resolved_of coins references) ≡ None
