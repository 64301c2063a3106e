use Rattle.std.proofs.Common.{sym, ◌∙◌}
use Rattle.std.specs.Prelude.{codes, decimal}
use Rattle.shell_report.proofs.Heads.{four, eight}
use Rattle.shell_report.proofs.history.event_line.Goals as goal

pub returns-in_ok-line-in-Start : goal.returns-in_ok-line-in-Start
returns-in_ok-line-in-Start c =
    rw c.in-Start.is
    (c.in_ok-line-in-Start.ensures.ok ∙ sym (four (codes "start ") (decimal c.in-Start.flow) (codes " ") (decimal c.in-Start.class)))

pub returns-in_ok-line-in-Answer : goal.returns-in_ok-line-in-Answer
returns-in_ok-line-in-Answer c =
    rw c.in-Answer.is
    (c.in_ok-line-in-Answer.ensures.ok ∙ sym (four (codes "answer ") (decimal c.in-Answer.key.initiator.0) (codes " ") (decimal c.in-Answer.key.number)))

pub returns-in_ok-line-in-Arrive : goal.returns-in_ok-line-in-Arrive
returns-in_ok-line-in-Arrive c =
    rw c.in-Arrive.is
    (c.in_ok-line-in-Arrive.ensures.ok ∙ sym (eight (codes "arrive ") (decimal c.in-Arrive.key.initiator.0) (codes " ") (decimal c.in-Arrive.key.number) (codes " ") (decimal c.in-Arrive.direction) (codes " ") (decimal c.in-Arrive.number)))
