use Rattle.std.proofs.Common.{◌≡◌, ⊎_elim, Option, Some, None, sym, ◌∙◌}
use Rattle.disk_journal.specs.declared.fault.OpenFault.{OpenFault}
use Rattle.disk_journal.specs.Journal.{refusal}
use Rattle.disk_journal.proofs.Young.{young_opens}
use Rattle.disk_journal.proofs.journal.Journal.open.Goals as goal

none_comes : (o : Option OpenFault) (why : OpenFault) → o ≡ None → o ≡ Some why → ⊥
none_comes o why none some = absurd (cc (sym none ∙ some))

pub returns-in-Err-clause-begun : goal.returns-in-Err-clause-begun
returns-in-Err-clause-begun g c tells young =
    let kept = (g.D.Disk.seen c.args.disk).state.kept in
    ⊎_elim
    (λ up. up)
    (λ refused. absurd (none_comes (refusal c.args.identity kept) c.in-Err.why (young_opens c.args.identity kept c.requires young) refused))
    (c.in-Err.ensures.refused tells)
