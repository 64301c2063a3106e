use Rattle.std.proofs.Common.{◌≡◌, ◌++◌, drop, string_bytes}
use Rattle.shell_report.specs.LedgerText.{total_lines}
use Rattle.shell_report.proofs.balances.total_lines.Given as goal

-- what is written, and the lines of the tokens left, are the lines of all
abbrev pub invariant-loop-token : goal.invariant-loop-token
invariant-loop-token l = string_bytes l.out ++ total_lines l.states (drop l.token-index l.tokens) ≡ total_lines l.states l.tokens
