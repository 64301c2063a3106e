use Rattle.std.proofs.Common.{◌≡◌, Bor, Option, Some, None, is_none, is_some, not, ap, refl, sym, ◌∙◌, rules}
use Rattle.std.specs.Option.{option_copied}
use Rattle.tx_store.proofs.Ordered.{lookup_is, lookup_some}
use Rattle.ledger_acts.proofs.awaiting.is_new.Goals as goal

copied : {T : Type 0} (o : Option (Bor T)) → is_none o ≡ is_none (option_copied o)
copied None = refl
copied (Some x) = refl

pub returns : goal.returns
returns c =
    let store = c.args.store.now.list in
    let id = c.args.id.now in
    let none : c.is_none.result ≡ is_none c.get.result = search rules in
    none ∙ copied c.get.result ∙ ap is_none c.get.ensures.stored ∙ ap not (ap is_some (sym (lookup_is id store)) ∙ lookup_some id store)
