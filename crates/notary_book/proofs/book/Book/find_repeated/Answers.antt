use Rattle.std.proofs.Common.{◌≡◌, List, Some, None, ap, ◌∙◌}
use Rattle.std.specs.List.{position}
use Rattle.std.specs.Map.{lookup}
use Rattle.std.specs.Option.{option_copied}
use Rattle.ledger_types.specs.declared.notary.Entry.{Entry}
use Rattle.ledger_types.specs.Notary.{repeats}
use Rattle.notary_book.specs.declared.index.RequestKey.{RequestKey}
use Rattle.notary_book.specs.Indexed.{key_of, key_eq}
use Rattle.notary_book.proofs.Places.{none_found, some_found}
use Rattle.notary_book.proofs.book.Book.find_repeated.Goals as goal

pub returns-in_err-place-clause-entry : goal.returns-in_err-place-clause-entry
returns-in_err-place-clause-entry c =
    let q = c.args.request.now in
    let same : c.self.inside.entries.items ≡ c.args.self.now.entries = ap (λ s. s.entries) c.self.view_is in
    let none : None ≡ position (repeats q) c.args.self.now.entries =
    c.in_err-place.ensures.value ∙ ap (λ (k : RequestKey). lookup (key_eq k) c.self.inside.by_request.entries) c.of.ensures ∙ c.self.invariant.requests (key_of q) ∙ ap (λ (l : List Entry). position (repeats q) l) same in
    ap option_copied c.from_residual.ensures ∙ none_found (repeats q) c.args.self.now.entries none

pub returns-clause-entry : goal.returns-clause-entry
returns-clause-entry c =
    let q = c.args.request.now in
    let same : c.self.inside.entries.items ≡ c.args.self.now.entries = ap (λ s. s.entries) c.self.view_is in
    let some : Some c.in_ok-place.place.now ≡ position (repeats q) c.args.self.now.entries =
    c.in_ok-place.ensures.value ∙ ap (λ (k : RequestKey). lookup (key_eq k) c.self.inside.by_request.entries) c.of.ensures ∙ c.self.invariant.requests (key_of q) ∙ ap (λ (l : List Entry). position (repeats q) l) same in
    c.entry_at.ensures ∙ some_found (repeats q) c.args.self.now.entries c.in_ok-place.place.now some
