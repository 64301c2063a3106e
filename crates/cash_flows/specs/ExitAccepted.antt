-- What an exit does to value, and what the contract of cash says of it.
use Rattle.std.specs.Prelude.{◌≡◌, ◌+◌, ◌<◌, ◌≤◌, ◌^◌, List, [], sum_by, true, Some, None}
use Rattle.std.specs.List.{AllByRecursion}
use Rattle.ledger_types.specs.declared.held.Held.{Held}
use Rattle.ledger_types.specs.Vaults.{IsHeld, is_relevant, cash_amount, reserved}
use Rattle.cash_contract.specs.Clauses.{cash_says}
use Rattle.flow_machine.specs.declared.acts.Place.{Place}
use Rattle.cash_flows.specs.declared.exit.Exit.{Exit}
use Rattle.cash_flows.specs.Making.{own, worth}
use Rattle.cash_flows.specs.Exit.{redemption}
use Rattle.cash_flows.specs.Accepted.{IsOwn, resolved_of}

-- Of coins that reach the amount, and exceed it by an amount, exactly the amount exits: what comes out and the amount are what goes in.
abbrev pub ExitsExactly : Type 0
ExitsExactly = (e : Exit) (coins : List Held) (here : Place) → e.amount ≤ worth coins → worth coins < e.amount + 2 ^ 64 → sum_by (λ s. cash_amount s.body) (redemption e coins here).outputs + e.amount ≡ worth coins

-- No clause of the contract of cash refuses an exit of at least 1 by own coins of the own token that reach the amount, and exceed it by an amount.
abbrev pub ExitIsAccepted : Type 0
ExitIsAccepted = (e : Exit) (coins : List Held) (here : Place) → here.me.0 < 16 → AllByRecursion (IsOwn (own here e.code) here.me) coins → 0 < e.amount → e.amount ≤ worth coins → worth coins < e.amount + 2 ^ 64
    → cash_says (redemption e coins here) (resolved_of coins []) ≡ None

-- Nor one by the coins that a reservation of its amount names, in a vault of states that are relevant to this party.
abbrev pub ReservedExitIsAccepted : Type 0
ReservedExitIsAccepted = (e : Exit) (vault coins : List Held) (here : Place) → here.me.0 < 16 → AllByRecursion IsHeld vault → AllByRecursion (λ h. is_relevant here.me h.state.body ≡ true) vault → 0 < e.amount → reserved (own here e.code) e.amount vault ≡ Some coins
    → cash_says (redemption e coins here) (resolved_of coins []) ≡ None
