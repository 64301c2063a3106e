use Rattle.std.proofs.Common.{sym, ◌∙◌, ◌∷◌, [], string_bytes}
use Rattle.std.specs.Prelude.{codes, decimal}
use Rattle.shell_report.proofs.Heads.{eight}
use Rattle.shell_report.proofs.transactions.tx_text.Goals as goal

pub returns : goal.returns
returns c =
    let parts = rw c.deref.ensures at c.in_ok-parts.ensures in
    let references = rw c.deref-2.ensures at c.len-references.ensures in
    rw (← c.in_ok-id.ensures, ← parts, ← references, ← c.len-tags.ensures)
    (c.in_ok-text.ensures.ok ∙ sym (eight (codes "tx ") (string_bytes c.in_ok-id.id) (string_bytes c.in_ok-parts.parts) (codes " references ") (decimal c.len-references.result) (codes " tags ") (decimal c.len-tags.result) (10 ∷ [])))
