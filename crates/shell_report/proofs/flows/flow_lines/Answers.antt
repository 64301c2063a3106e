use Rattle.std.proofs.Common.{◌<◌, string_bytes, length}
use Rattle.shell_report.proofs.Lines.{some_more, none_found}
use Rattle.shell_report.proofs.flows.flow_lines.Goals.{in-Some+in_ok-push_str, in_default}
use Rattle.shell_report.proofs.flows.flow_lines.Goals as goal

pub loop-number-preserved : goal.loop-number-preserved
loop-number-preserved g c = elim c.match-branch-2.branch [
  | in-Some+in_ok-push_str w ↦
      rw (w.out-is, w.in_ok-push_str.ensures.bytes, w.as_str.ensures.value)
      (some_more string_bytes c.in_ok-line.field-0 w.in-Some.line (string_bytes c.loop-number.out) _ c.args.flows.now.flows c.loop-number.number c.in_ok-line.ensures w.in-Some.is c.loop-number.invariant)
  | in_default w ↦
      let within : c.loop-number.number < length c.args.flows.now.flows = rw (← c.count-number-end.ensures) c.loop-number-test.true in
      absurd (none_found string_bytes c.in_ok-line.field-0 c.args.flows.now.flows c.loop-number.number c.in_ok-line.ensures w.in_default.is within)
]
