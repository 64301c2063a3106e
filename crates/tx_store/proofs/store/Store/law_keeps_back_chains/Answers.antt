use Rattle.std.proofs.Common.{◌≡◌, List, true, ap, subst, refl}
use Rattle.net_base.specs.declared.values.Hash32.{Hash32}
use Rattle.ledger_types.specs.declared.tx.SignedTx.{SignedTx}
use Rattle.ledger_types.specs.Stores.{stored_of}
use Rattle.tx_store.specs.Stored.{is_in_order}
use Rattle.tx_store.proofs.Ordered.{back_chain_stored}
use Rattle.tx_store.proofs.store.Store.law_keeps_back_chains.Goals as goal

pub returns-clause-in_order : goal.returns-clause-in_order
returns-clause-in_order c =
    let same : c.self.inside.map.entries ≡ c.args.self.now.list = ap (λ s. s.list) c.self.view_is in
    subst (λ (l : List (Hash32 × SignedTx)). is_in_order l ≡ true) same c.self.invariant.0

pub returns-clause-back_chains : goal.returns-clause-back_chains
returns-clause-back_chains c = λ id ids h.
    let same : c.self.inside.map.entries ≡ c.args.self.now.list = ap (λ s. s.list) c.self.view_is in
    let ordered = subst (λ (l : List (Hash32 × SignedTx)). is_in_order l ≡ true) same c.self.invariant.0 in
    back_chain_stored c.args.self.now.list ordered (stored_of c.args.self.now.list id) id refl ids h
