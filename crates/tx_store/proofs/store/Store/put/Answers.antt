use Rattle.std.proofs.Common.{◌≡◌, ◌<◌, ◌++◌, ◌∷◌, [], List, true, false, not, sym, ◌∙◌, ap, subst, length, length-append, arith}
use Rattle.std.proofs.lemmas.Bool.{and_from}
use Rattle.indexmap.proofs.CallerLemmas.{insert_entry-new}
use Rattle.net_base.specs.declared.values.Hash32.{Hash32}
use Rattle.net_base.proofs.Options.{on_ok}
use Rattle.ledger_types.specs.declared.tx.SignedTx.{SignedTx}
use Rattle.ledger_types.specs.Names.{hash_eq}
use Rattle.ledger_types.specs.Signatures.{tx_id}
use Rattle.ledger_types.specs.Stores.{is_stored}
use Rattle.tx_store.specs.Stored.{AreWithin, is_in_order, may_follow}
use Rattle.tx_store.proofs.Limits.{within_more}
use Rattle.tx_store.proofs.Ordered.{lookup_some, none_is, in_order_push, hash_same}
use Rattle.tx_store.proofs.store.Store.put.Goals as goal

-- the entries behind the call
pushed : (c : goal.Joined-unwrap) → c.insert.new.self.entries ≡ c.args.self.now.list ++ (tx_id c.args.stx.tx, c.args.stx) ∷ []
pushed c =
    let stx = c.args.stx in
    let same : c.self.inside.map.entries ≡ c.args.self.now.list = ap (λ s. s.list) c.self.view_is in
    let id : c.id-id.result ≡ tx_id stx.tx = (λ i. record { 0 = c.id-id.ensures i }) in
    let absent : is_stored c.self.inside.map.entries c.id-id.result ≡ false = ap (λ (l : List (Hash32 × SignedTx)). is_stored l c.id-id.result) same ∙ sym c.has.ensures ∙ c.if-has.false in
    let none = none_is _ (lookup_some c.id-id.result c.self.inside.map.entries ∙ absent) in
    let inserted = insert_entry-new hash_eq c.self.inside.map c.id-id.result stx none in
    on_ok c.insert.result _ c.unwrap.ensures c.insert.ensures.entries ∙ inserted ∙ (λ i. same i ++ (id i, stx) ∷ [])

pub invariant_of-self : goal.invariant_of-self
invariant_of-self c =
    let old = c.args.self.now.list in
    let stx = c.args.stx in
    let same : c.self.inside.map.entries ≡ old = ap (λ s. s.list) c.self.view_is in
    let id : c.id-id.result ≡ tx_id stx.tx = (λ i. record { 0 = c.id-id.ensures i }) in
    let absent : is_stored old (tx_id stx.tx) ≡ false = ap (is_stored old) (sym id) ∙ sym c.has.ensures ∙ c.if-has.false in
    let ordered : is_in_order old ≡ true = subst (λ (l : List (Hash32 × SignedTx)). is_in_order l ≡ true) same c.self.invariant.0 in
    let follows : may_follow old (tx_id stx.tx, stx) ≡ true = and_from _ _ (hash_same (tx_id stx.tx).0) (and_from _ _ (ap not absent) c.requires.dependencies) in
    let small : length (old ++ (tx_id stx.tx, stx) ∷ []) < 4294967296 = omega (arith, length-append old ((tx_id stx.tx, stx) ∷ []), c.requires.few) in
    let within : AreWithin old = subst AreWithin same c.self.invariant.2 in
    subst (λ (l : List (Hash32 × SignedTx)). (is_in_order l ≡ true) × (length l < 4294967296) × AreWithin l) (sym (pushed c)) (in_order_push [] old (tx_id stx.tx, stx) ordered follows, small, within_more old (tx_id stx.tx, stx) within c.requires.limits)

pub returns-clause-list : goal.returns-clause-list
returns-clause-list c = pushed c
