use Rattle.std.proofs.Common.{◌≡◌, List, Some, None, sym, ap, ◌∙◌}
use Rattle.std.specs.List.{position}
use Rattle.std.specs.Option.{option_copied}
use Rattle.ledger_types.specs.declared.notary.Entry.{Entry}
use Rattle.notary_book.specs.Indexed.{takes}
use Rattle.notary_book.proofs.Places.{none_found, some_found, consumer_is}
use Rattle.notary_book.proofs.book.Book.find_consumer.Goals as goal

pub returns-in_err-place : goal.returns-in_err-place
returns-in_err-place c =
    let r = c.args.reference.now in
    let entries = c.args.self.now.entries in
    let same : c.self.inside.entries.items ≡ entries = ap (λ s. s.entries) c.self.view_is in
    let none : None ≡ position (takes r) entries = c.in_err-place.ensures.value ∙ c.self.invariant.references r ∙ ap (λ (l : List Entry). position (takes r) l) same in
    ap option_copied c.from_residual.ensures ∙ none_found (takes r) entries none ∙ sym (consumer_is c.args.id.now r entries c.requires)

pub returns : goal.returns
returns c =
    let r = c.args.reference.now in
    let entries = c.args.self.now.entries in
    let same : c.self.inside.entries.items ≡ entries = ap (λ s. s.entries) c.self.view_is in
    let some : Some c.in_ok-place.place.now ≡ position (takes r) entries = c.in_ok-place.ensures.value ∙ c.self.invariant.references r ∙ ap (λ (l : List Entry). position (takes r) l) same in
    c.entry_at.ensures ∙ some_found (takes r) entries c.in_ok-place.place.now some ∙ sym (consumer_is c.args.id.now r entries c.requires)
