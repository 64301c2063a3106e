use Rattle.std.proofs.Common.{sym, ◌∙◌, string_bytes}
use Rattle.std.specs.Prelude.{codes, decimal}
use Rattle.shell_report.proofs.Heads.{eight}
use Rattle.shell_report.proofs.history.history_line.Goals as goal

pub returns : goal.returns
returns c =
    rw (← c.in_ok-event.ensures)
    (c.in_ok-line.ensures.ok ∙ sym (eight (codes "h ") (decimal c.args.cause.now.stamp) (codes " ") (decimal c.args.node) (codes " ") (decimal c.args.cause.now.moment.0) (codes " ") (string_bytes c.in_ok-event.event)))
