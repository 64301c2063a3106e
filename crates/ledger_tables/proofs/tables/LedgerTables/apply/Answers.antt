use Rattle.std.proofs.Common.{◌≡◌, true, ◌∙◌, ap, List}
use Rattle.std.specs.List.{list_all}
use Rattle.ledger_types.specs.Vaults.{has_coin}
use Rattle.ledger_types.specs.declared.held.Held.{Held}
use Rattle.ledger_tables.specs.Ledgers.{Ledger, may_apply}
use Rattle.ledger_tables.proofs.Applying.{may_parts}
use Rattle.ledger_tables.proofs.tables.LedgerTables.apply.Goals as goal

pub record_next-requires-clause-next : goal.record_next-requires-clause-next
record_next-requires-clause-next c =
    let inside = c.self.inside in
    let fits : may_apply inside.vault.party c.args.notary inside.store.list inside.vault.held inside.book.entries c.args.change ≡ true = ap (λ (l : Ledger). may_apply l.vault.party c.args.notary l.store.list l.vault.held l.book.entries c.args.change) c.self.view_is ∙ c.requires.fits in
    (may_parts inside.vault.party c.args.notary inside.store.list inside.vault.held inside.book.entries c.args.change fits).next

pub lock-requires-clause-coins : goal.lock-requires-clause-coins
lock-requires-clause-coins c =
    let inside = c.self.inside in
    let fits : may_apply inside.vault.party c.args.notary inside.store.list inside.vault.held inside.book.entries c.args.change ≡ true = ap (λ (l : Ledger). may_apply l.vault.party c.args.notary l.store.list l.vault.held l.book.entries c.args.change) c.self.view_is ∙ c.requires.fits in
    ap (λ (l : List Held). list_all (has_coin l) c.args.change.locked) c.record_next.ensures.held
    ∙ (may_parts inside.vault.party c.args.notary inside.store.list inside.vault.held inside.book.entries c.args.change fits).coins

pub lock-requires-clause-once : goal.lock-requires-clause-once
lock-requires-clause-once c =
    let l = c.args.self.now in
    (may_parts l.vault.party c.args.notary l.store.list l.vault.held l.book.entries c.args.change c.requires.fits).once
