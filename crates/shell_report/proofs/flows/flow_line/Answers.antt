use Rattle.std.proofs.Common.{sym, ◌∙◌, string_bytes}
use Rattle.std.specs.Prelude.{codes, decimal}
use Rattle.shell_report.proofs.Heads.{eight}
use Rattle.shell_report.proofs.flows.flow_line.Goals as goal

pub returns-in_ok-line-in-Live : goal.returns-in_ok-line-in-Live
returns-in_ok-line-in-Live g c =
    rw (c.in-Live.is, ← c.act_name-name.ensures)
    (c.in_ok-line-in-Live.ensures.ok ∙ sym (eight (codes "flow ") (decimal c.args.number) (codes " class ") (decimal c.in-Live.at.now.class) (codes " steps ") (decimal c.in-Live.at.now.step) (codes " waits ") c.act_name-name.result.now))

pub returns-in_ok-line-in-Ended : goal.returns-in_ok-line-in-Ended
returns-in_ok-line-in-Ended g c =
    rw (c.in-Ended.is, ← c.in_ok-value-in-Ended.ensures)
    (c.in_ok-line-in-Ended.ensures.ok ∙ sym (eight (codes "flow ") (decimal c.args.number) (codes " class ") (decimal c.in-Ended.class) (codes " steps ") (decimal c.in-Ended.step) (codes " ended ") (string_bytes c.in_ok-value-in-Ended.value)))

pub returns-in_ok-line-in-Failed : goal.returns-in_ok-line-in-Failed
returns-in_ok-line-in-Failed g c =
    rw c.in-Failed.is
    (c.in_ok-line-in-Failed.ensures.ok ∙ sym (eight (codes "flow ") (decimal c.args.number) (codes " class ") (decimal c.in-Failed.class) (codes " steps ") (decimal c.in-Failed.step) (codes " failed ") (decimal c.in-Failed.code)))
