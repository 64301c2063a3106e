use Rattle.std.proofs.Common.{◌≡◌, ◌++◌, drop, string_bytes}
use Rattle.shell_report.specs.LedgerText.{ids_of, state_lines}
use Rattle.shell_report.proofs.states.state_lines.Given as goal

-- what is written, and the lines of the states left, are the lines of all
abbrev pub invariant-loop-held : goal.invariant-loop-held
invariant-loop-held l = string_bytes l.out ++ state_lines (ids_of l.store.list) (drop l.held-index l.states) ≡ state_lines (ids_of l.store.list) l.states
