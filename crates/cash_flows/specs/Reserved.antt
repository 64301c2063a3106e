-- What the contract of cash says of a payment by what a reservation gives.
use Rattle.std.specs.Prelude.{◌≡◌, ◌<◌, List, true, Some, None}
use Rattle.std.specs.List.{AllByRecursion}
use Rattle.ledger_types.specs.declared.held.Held.{Held}
use Rattle.ledger_types.specs.declared.state.TxState.{TxState}
use Rattle.ledger_types.specs.Vaults.{IsHeld, is_relevant, reserved}
use Rattle.cash_contract.specs.Clauses.{cash_says}
use Rattle.flow_machine.specs.declared.acts.Place.{Place}
use Rattle.cash_flows.specs.declared.pay.Pay.{Pay}
use Rattle.cash_flows.specs.Payment.{payment}
use Rattle.cash_flows.specs.Accepted.{resolved_of}

-- No clause of the contract of cash refuses a payment of at least 1 by the coins that a reservation of its amount names, in a vault of states that are
-- relevant to this party.
abbrev pub ReservedIsAccepted : Type 0
ReservedIsAccepted = (p : Pay) (vault coins : List Held) (here : Place) (references : List TxState) → here.me.0 < 16 → AllByRecursion IsHeld vault → AllByRecursion (λ h. is_relevant here.me h.state.body ≡ true) vault → 0 < p.amount → reserved p.token p.amount vault ≡ Some coins
    → cash_says (payment p coins here) (resolved_of coins references) ≡ None
