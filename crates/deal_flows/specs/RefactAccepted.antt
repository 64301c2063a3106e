-- What the contract of facts says of a changed fact.
use Rattle.std.specs.Prelude.{◌≡◌, ℕ, ◌<◌, [], ◌∷◌, Some, None, option_and_then}
use Rattle.ledger_types.specs.declared.state.TxState.{TxState}
use Rattle.small_contracts.specs.Facts.{facts_say}
use Rattle.flow_machine.specs.declared.acts.Place.{Place}
use Rattle.flow_txs.specs.Finding.{said_freely}
use Rattle.deal_flows.specs.declared.refact.Refact.{Refact}
use Rattle.deal_flows.specs.Refact.{own_name, change}

-- No clause of the contract of facts refuses the change of the fact that a state is.
abbrev pub RefactIsAccepted : Type 0
RefactIsAccepted = (r : Refact) (found : TxState) (name : ℕ) (here : Place) → here.me.0 < 16 → option_and_then (own_name here.me) (said_freely found) ≡ Some name → facts_say (change r name here) (record { inputs = found ∷ []; references = [] }) ≡ None
