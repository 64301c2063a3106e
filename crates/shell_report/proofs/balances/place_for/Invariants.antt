use Rattle.std.proofs.Common.{◌≡◌, ◌++◌, drop, take}
use Rattle.shell_report.specs.LedgerText.{with_token}
use Rattle.shell_report.proofs.balances.place_for.Given as goal

-- the token goes behind those that were passed
abbrev pub invariant-loop-other : goal.invariant-loop-other
invariant-loop-other l = record { place : l.place ≡ l.other-index; behind : with_token l.token l.tokens ≡ take l.other-index l.tokens ++ with_token l.token (drop l.other-index l.tokens) }
