use Rattle.std.proofs.Common.{sym, ◌∙◌, string_bytes}
use Rattle.std.specs.Prelude.{codes, decimal}
use Rattle.shell_report.proofs.Heads.{ten}
use Rattle.shell_report.proofs.entries.entry_line.Goals as goal

pub returns : goal.returns
returns c =
    let request = c.args.entry.now.request in
    rw (← c.in_ok-id.ensures, ← c.answer_text-answer.ensures)
    (c.in_ok-line.ensures.ok ∙ sym (ten (codes "entry ") (decimal c.args.place) (codes " ") (decimal request.party.0) (codes " ") (decimal request.flow) (codes " ") (string_bytes c.in_ok-id.id) (codes " ") c.answer_text-answer.result.now))
