use Rattle.std.proofs.Common.{◌≡◌, ◌++◌, drop, string_bytes}
use Rattle.shell_report.specs.LedgerText.{conflict_lines}
use Rattle.shell_report.proofs.entries.conflict_lines.Given as goal

-- what is written, and the lines of the states left, are the lines of all
abbrev pub invariant-loop-item : goal.invariant-loop-item
invariant-loop-item l = string_bytes l.out ++ conflict_lines (drop l.item-index l.list) ≡ conflict_lines l.list
