use Rattle.std.proofs.Common.{◌≡◌, take, map}
use Rattle.ledger_types.specs.Vaults.{cash_amount}
use Rattle.vault.proofs.states.amounts.Given as goal

abbrev pub invariant-loop-i : goal.invariant-loop-i
invariant-loop-i l = map (λ c. c.amount) l.list.items ≡ map (λ h. cash_amount h.state.body) (take l.i l.coins)
