use Rattle.std.proofs.Common.{sym, ◌∙◌, string_bytes}
use Rattle.std.specs.Prelude.{codes, decimal}
use Rattle.shell_report.proofs.Heads.{six, eight}
use Rattle.shell_report.proofs.states.body_text.Goals as goal

pub returns-in_ok-text-in-Fact : goal.returns-in_ok-text-in-Fact
returns-in_ok-text-in-Fact c =
    rw c.in-Fact.is
    (c.in_ok-text-in-Fact.ensures.ok ∙ sym (six (codes "fact ") (decimal c.in-Fact.issuer.0) (codes " ") (decimal c.in-Fact.name) (codes " ") (decimal c.in-Fact.value)))

pub returns-in_ok-text-in-Iou : goal.returns-in_ok-text-in-Iou
returns-in_ok-text-in-Iou c =
    rw (c.in-Iou.is, ← c.in_ok-token-in-Iou.ensures)
    (c.in_ok-text-in-Iou.ensures.ok ∙ sym (eight (codes "iou ") (decimal c.in-Iou.lender.0) (codes " ") (decimal c.in-Iou.borrower.0) (codes " ") (string_bytes c.in_ok-token-in-Iou.token) (codes " ") (decimal c.in-Iou.amount)))
