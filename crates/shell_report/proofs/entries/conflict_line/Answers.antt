use Rattle.std.proofs.Common.{sym, ◌∙◌, string_bytes}
use Rattle.std.specs.Prelude.{codes, decimal}
use Rattle.shell_report.proofs.Heads.{eight}
use Rattle.shell_report.proofs.entries.conflict_line.Goals as goal

pub returns : goal.returns
returns c =
    let item = c.args.item.now in
    rw (← c.in_ok-id.ensures, ← c.in_ok-hash.ensures, ← c.kind_text-kind.ensures)
    (c.in_ok-line.ensures.ok ∙ sym (eight (codes "conflict ") (string_bytes c.in_ok-id.id) (codes ":") (decimal item.reference.index) (codes " ") c.kind_text-kind.result.now (codes " ") (string_bytes c.in_ok-hash.hash)))
