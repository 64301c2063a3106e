use Rattle.std.proofs.Common.{◌≡◌, ◌++◌, drop, string_bytes}
use Rattle.shell_report.specs.LedgerText.{entry_lines}
use Rattle.shell_report.proofs.entries.entry_lines.Given as goal

-- what is written, and the lines of the entries left, are the lines of all
abbrev pub invariant-loop-entry : goal.invariant-loop-entry
invariant-loop-entry l = record { place : l.place ≡ l.entry-index; text : string_bytes l.out ++ entry_lines l.entry-index (drop l.entry-index l.entries) ≡ entry_lines 0 l.entries }
