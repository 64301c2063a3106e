use Rattle.std.proofs.Common.{sym, ◌∙◌, string_bytes}
use Rattle.std.specs.Prelude.{codes, decimal}
use Rattle.shell_report.specs.LedgerText.{state_line}
use Rattle.shell_report.proofs.Heads.{eight}
use Rattle.shell_report.proofs.states.state_line.Goals as goal

pub returns : goal.returns
unfolding state_line
returns c =
    rw (← c.place_in-place.ensures, ← c.in_ok-body.ensures, ← c.in_ok-locked.ensures, ← c.in_ok-encumbered.ensures)
    (c.in_ok-line.ensures.ok ∙ sym (eight (codes "state ") (decimal c.place_in-place.result) (codes " ") (decimal c.args.held.now.reference.index) (codes " ") (string_bytes c.in_ok-body.body) (string_bytes c.in_ok-locked.locked) (string_bytes c.in_ok-encumbered.encumbered)))
