use Rattle.std.proofs.Common.{◌≡◌, ◌++◌, drop, string_bytes}
use Rattle.net_model.specs.Print.{history_lines}
use Rattle.net_model.specs.Runs.{lent}
use Rattle.shell_report.proofs.history.history_lines.Given as goal

-- what is written, and the lines of the causes left, are the lines of all
abbrev pub invariant-loop-node : goal.invariant-loop-node
invariant-loop-node l = string_bytes l.out ++ history_lines (lent (drop l.node-index l.causes)) ≡ history_lines (lent l.causes)
