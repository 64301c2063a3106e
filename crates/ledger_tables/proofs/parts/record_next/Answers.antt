use Rattle.std.proofs.Common.{◌≡◌, ◌++◌, ◌∷◌, [], List, Option, Some, true, not, ap, sym, subst, ◌∙◌, if◌then◌else◌}
use Rattle.std.proofs.lemmas.Bool.{and_parts}
use Rattle.net_base.specs.declared.values.Hash32.{Hash32}
use Rattle.ledger_types.specs.declared.tx.Tx.{Tx}
use Rattle.ledger_types.specs.declared.tx.SignedTx.{SignedTx}
use Rattle.ledger_types.specs.Signatures.{tx_id}
use Rattle.ledger_types.specs.Stores.{is_stored, has_dependencies, may_record, untagged}
use Rattle.vault.specs.Holdings.{may_note, IsVault}
use Rattle.ledger_tables.proofs.Recording.{noted_next, untagged_more}
use Rattle.ledger_tables.proofs.parts.record_next.Goals as goal

pub returns-in-Some-clause-vault : goal.returns-in-Some-clause-vault
returns-in-Some-clause-vault c = λ locks v.
    let store = c.args.store.now.list in
    let stx = c.into_inner-stx.result in
    let before = untagged store in
    let id : c.id.result ≡ tx_id stx.tx = (λ i. record { 0 = c.id.ensures i }) in
    let noted = rw c.deref.ensures at c.note.ensures.vault in
    let next : may_record store (Some stx) ≡ true = subst (λ (o : Option SignedTx). may_record store o ≡ true) (c.in-Some.is ∙ ap (λ (x : SignedTx). Some x) (sym c.into_inner-stx.ensures)) c.requires.next in
    let may : may_note before c.id.result stx.tx ≡ true = subst (λ (x : Hash32). may_note before x stx.tx ≡ true) (sym id) (noted_next store stx next) in
    let put : c.put.result ≡ true = c.put.ensures.fresh ∙ (and_parts (not (is_stored store (tx_id stx.tx))) (has_dependencies store stx.tx) next).0 in
    let list : c.put.new.self.list ≡ store ++ (tx_id stx.tx, stx) ∷ [] = c.put.ensures.list ∙ ap (λ b. if b then store ++ (tx_id stx.tx, stx) ∷ [] else store) put in
    let after : before ++ (c.id.result, stx.tx) ∷ [] ≡ untagged c.put.new.self.list = ap (λ (x : Hash32). before ++ (x, stx.tx) ∷ []) id ∙ sym (untagged_more store (tx_id stx.tx) stx) ∙ ap untagged (sym list) in
    subst (λ (l : List (Hash32 × Tx)). IsVault c.args.vault.now.party l locks c.note.new.self.held) after (noted before locks v may)
