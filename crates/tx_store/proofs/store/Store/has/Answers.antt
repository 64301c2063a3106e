use Rattle.std.proofs.Common.{◌≡◌, List, ap, ◌∙◌}
use Rattle.net_base.specs.declared.values.Hash32.{Hash32}
use Rattle.ledger_types.specs.declared.tx.SignedTx.{SignedTx}
use Rattle.ledger_types.specs.Stores.{is_stored}
use Rattle.tx_store.proofs.Ordered.{lookup_some}
use Rattle.tx_store.proofs.store.Store.has.Goals as goal

pub returns : goal.returns
returns c =
    let same : c.self.inside.map.entries ≡ c.args.self.now.list = ap (λ s. s.list) c.self.view_is in
    c.contains_key.ensures ∙ lookup_some c.args.id.now c.self.inside.map.entries ∙ ap (λ (l : List (Hash32 × SignedTx)). is_stored l c.args.id.now) same
