-- What a payment does to value.
use Rattle.std.specs.Prelude.{◌≡◌, ◌+◌, ◌<◌, ◌≤◌, ◌^◌, List, sum_by}
use Rattle.ledger_types.specs.declared.held.Held.{Held}
use Rattle.ledger_types.specs.Vaults.{cash_amount}
use Rattle.flow_machine.specs.declared.acts.Place.{Place}
use Rattle.cash_flows.specs.declared.pay.Pay.{Pay}
use Rattle.cash_flows.specs.Making.{worth}
use Rattle.cash_flows.specs.Payment.{payment}

-- Coins that reach the amount, and exceed it by an amount, are paid out in full: what comes out is what goes in.
abbrev pub PaysInFull : Type 0
PaysInFull = (p : Pay) (coins : List Held) (here : Place) → p.amount ≤ worth coins → worth coins < p.amount + 2 ^ 64 → sum_by (λ s. cash_amount s.body) (payment p coins here).outputs ≡ worth coins
