use Rattle.std.proofs.Common.{◌≡◌, ◌≤◌, ◌*◌, take, sum_by}
use Rattle.cash_contract.specs.Clauses.{exited_by}
use Rattle.cash_contract.proofs.value.value_exited.Given as goal

-- the sum so far, which is at most one greatest amount for each item
abbrev pub invariant-loop-command : goal.invariant-loop-command
invariant-loop-command l = (l.value ≡ sum_by (λ c. exited_by l.token c.deed) (take l.command-index l.commands)) × (l.value ≤ l.command-index * 18446744073709551615)
