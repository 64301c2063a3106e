use Rattle.std.proofs.Common.{◌≡◌, Bool, true, List, ◌&&◌, sym, ap, ◌∙◌}
use Rattle.std.specs.Map.{lookup}
use Rattle.net_base.specs.declared.names.StateRef.{StateRef}
use Rattle.ledger_types.specs.Names.{ref_eq, has_ref}
use Rattle.ledger_types.specs.Notary.{is_signature}
use Rattle.notary_book.specs.Indexed.{first_of}
use Rattle.notary_book.proofs.index.note_signed.Goals as goal

pub returns-then-is_signature-clause-references : goal.returns-then-is_signature-clause-references
returns-then-is_signature-clause-references c = λ r.
    let e = c.args.entry.now in
    let old = lookup (ref_eq r) c.args.by_reference.now.entries in
    let signed : is_signature e.answer ≡ true = sym c.is_signature.ensures ∙ c.if-is_signature.true in
    c.note_each.ensures.places r
    ∙ ap (λ (l : List StateRef). first_of old (has_ref r l) c.args.place) c.as_slice.ensures
    ∙ ap (λ (b : Bool). first_of old (b && has_ref r e.inputs) c.args.place) (sym signed)
