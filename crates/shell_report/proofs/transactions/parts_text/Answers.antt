use Rattle.std.proofs.Common.{sym, ◌∙◌}
use Rattle.std.specs.Prelude.{codes, decimal}
use Rattle.shell_report.proofs.Heads.{six}
use Rattle.shell_report.proofs.transactions.parts_text.Goals as goal

pub returns : goal.returns
returns c =
    rw (← c.len-inputs.ensures, ← c.len-outputs.ensures, ← c.len-commands.ensures)
    (c.in_ok-text.ensures.ok ∙ sym (six (codes " inputs ") (decimal c.len-inputs.result) (codes " outputs ") (decimal c.len-outputs.result) (codes " commands ") (decimal c.len-commands.result)))
