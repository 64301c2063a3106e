use Rattle.std.proofs.Common.{◌≡◌, ◌≤◌, ◌*◌, take}
use Rattle.cash_contract.specs.Clauses.{value_in}
use Rattle.cash_contract.proofs.value.value_in.Given as goal

-- the sum so far, which is at most one greatest amount for each item
abbrev pub invariant-loop-state : goal.invariant-loop-state
invariant-loop-state l = (l.value ≡ value_in l.token (take l.state-index l.states)) × (l.value ≤ l.state-index * 18446744073709551615)
