use Rattle.std.proofs.Common.{◌≡◌, List, is_some, ap, ◌∙◌}
use Rattle.std.specs.List.{list_any}
use Rattle.ledger_types.specs.declared.notary.Entry.{Entry}
use Rattle.ledger_types.specs.Notary.{signs}
use Rattle.notary_book.proofs.Places.{position_any}
use Rattle.notary_book.proofs.book.Book.is_signed.Goals as goal

pub returns : goal.returns
returns c =
    let id = c.args.id.now in
    let same : c.self.inside.entries.items ≡ c.args.self.now.entries = ap (λ s. s.entries) c.self.view_is in
    c.contains_key.ensures ∙ ap is_some (c.self.invariant.ids id) ∙ position_any (signs id) c.self.inside.entries.items ∙ ap (λ (l : List Entry). list_any (signs id) l) same
