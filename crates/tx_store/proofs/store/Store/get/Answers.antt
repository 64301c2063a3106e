use Rattle.std.proofs.Common.{◌≡◌, List, ap, ◌∙◌}
use Rattle.net_base.specs.declared.values.Hash32.{Hash32}
use Rattle.ledger_types.specs.declared.tx.SignedTx.{SignedTx}
use Rattle.ledger_types.specs.Stores.{stored_of}
use Rattle.tx_store.proofs.Limits.{stored_within, lent_within}
use Rattle.tx_store.proofs.Ordered.{lookup_is}
use Rattle.tx_store.proofs.store.Store.get.Goals as goal

pub returns-clause-stored : goal.returns-clause-stored
returns-clause-stored c =
    let same : c.self.inside.map.entries ≡ c.args.self.now.list = ap (λ s. s.list) c.self.view_is in
    c.get.ensures.value ∙ lookup_is c.args.id.now c.self.inside.map.entries ∙ ap (λ (l : List (Hash32 × SignedTx)). stored_of l c.args.id.now) same

pub returns-clause-limits : goal.returns-clause-limits
returns-clause-limits c =
    let entries = c.self.inside.map.entries in
    lent_within c.get.result (stored_of entries c.args.id.now) (c.get.ensures.value ∙ lookup_is c.args.id.now entries) (stored_within entries c.args.id.now c.self.invariant.2)
