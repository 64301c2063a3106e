-- What the contract of cash says of a spend.
use Rattle.std.specs.Prelude.{◌≡◌, ℕ, ◌<◌, ◌^◌, [], ◌∷◌, Some, None, option_and_then}
use Rattle.net_base.specs.declared.names.Token.{Token}
use Rattle.ledger_types.specs.declared.state.TxState.{TxState}
use Rattle.cash_contract.specs.Clauses.{cash_says}
use Rattle.flow_machine.specs.declared.acts.Place.{Place}
use Rattle.flow_txs.specs.Finding.{said_freely}
use Rattle.cash_flows.specs.declared.spend.Spend.{Spend}
use Rattle.cash_flows.specs.Spend.{own_coin, handover}

-- No clause of the contract of cash refuses the handing over of the coin that a state is, of at least 1.
abbrev pub SpendIsAccepted : Type 0
SpendIsAccepted = (s : Spend) (found : TxState) (coin : Token × ℕ) (here : Place) → here.me.0 < 16 → option_and_then (own_coin here.me) (said_freely found) ≡ Some coin → 0 < coin.1 → coin.1 < 2 ^ 64
    → cash_says (handover s coin here) (record { inputs = found ∷ []; references = [] }) ≡ None
