use Rattle.std.proofs.Common.{◌≡◌, ◌≤◌, ◌*◌, ◌^◌, take}
use Rattle.ledger_types.specs.Vaults.{balance_of}
use Rattle.shell_report.proofs.balances.total_of.Given as goal

abbrev pub invariant-loop-held : goal.invariant-loop-held
invariant-loop-held l = record { sum : l.sum ≡ balance_of l.token (take l.held-index l.states); small : l.sum ≤ l.held-index * 2 ^ 64 }
