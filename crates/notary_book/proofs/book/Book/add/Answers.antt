use Rattle.std.proofs.Common.{◌≡◌, ◌++◌, ◌∷◌, [], List, length, sym, ap, subst, ◌∙◌, arith}
use Rattle.std.specs.Map.{lookup}
use Rattle.ledger_types.specs.declared.notary.Entry.{Entry}
use Rattle.notary_book.specs.declared.index.RequestKey.{RequestKey}
use Rattle.notary_book.specs.Indexed.{key_eq, first_of, IsIndexed}
use Rattle.notary_book.proofs.Places.{indexed_push}
use Rattle.notary_book.proofs.book.Book.add.Goals as goal

pub invariant_of-self : goal.invariant_of-self
invariant_of-self c =
    let s = c.self.inside in
    let e = c.args.entry in
    let pushed : c.push.new.self.items ≡ s.entries.items ++ e ∷ [] = rw c.unwrap.ensures at c.push.ensures.items in
    let place : c.len-place.result ≡ length s.entries.items = omega (arith, s.entries.ok.0, c.len-place.ensures) in
    subst (λ (l : List Entry). IsIndexed l c.note.new.index.entries c.note_signed.new.by_id.entries c.note_signed.new.by_reference.entries) (sym pushed)
    (indexed_push s.entries.items e c.len-place.result s.by_request.entries c.note.new.index.entries s.by_id.entries c.note_signed.new.by_id.entries s.by_reference.entries c.note_signed.new.by_reference.entries
    c.self.invariant c.requires.answer place
    (λ k. c.note.ensures.places k ∙ ap (λ (o : RequestKey). first_of (lookup (key_eq k) s.by_request.entries) (key_eq k o) c.len-place.result) c.of.ensures)
    c.note_signed.ensures.ids
    c.note_signed.ensures.references)
