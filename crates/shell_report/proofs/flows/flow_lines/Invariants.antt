use Rattle.std.proofs.Common.{◌≡◌, ◌++◌, drop, string_bytes}
use Rattle.net_model.specs.Print.{flow_lines}
use Rattle.shell_report.proofs.flows.flow_lines.Given as goal

-- what is written, and the lines of the flows left, are the lines of all
abbrev pub invariant-loop-number : goal.invariant-loop-number
invariant-loop-number g l = string_bytes l.out ++ flow_lines l.number (drop l.number l.flows.flows) ≡ flow_lines 0 l.flows.flows
