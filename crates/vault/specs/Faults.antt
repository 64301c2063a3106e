-- When a reservation falls short.
use Rattle.std.specs.Prelude.{◌≡◌, ◌<◌, ℕ, List, None}
use Rattle.net_base.specs.declared.names.Token.{Token}
use Rattle.ledger_types.specs.declared.held.Held.{Held}
use Rattle.ledger_types.specs.Vaults.{reserved, reservable}
use Rattle.vault.specs.declared.fault.ReserveFault.{ReserveFault}
use Rattle.vault.specs.declared.fault.ReserveFault.TheVariants.{Short, Memory}

-- a reservation is short exactly where the first 64 coins don't reach the amount, and says their sum, which is below it; want of memory may come at any time
abbrev pub Refuses : Token → ℕ → List Held → ReserveFault → Type 0
Refuses token amount states (Short have) = (reserved token amount states ≡ None) × (have ≡ reservable token states) × (have < amount)
Refuses token amount states Memory = Unit {0}
