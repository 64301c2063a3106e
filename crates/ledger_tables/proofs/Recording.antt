-- A transaction that the store may record next may be noted next.
use Rattle.std.proofs.Common.{◌≡◌, true, not, ◌||◌, List, [], ◌∷◌, ◌++◌, Some, refl, sym, ◌∙◌, ap}
use Rattle.std.specs.List.{list_all}
use Rattle.std.proofs.lemmas.Bool.{and_parts, and_from}
use Rattle.std.proofs.lemmas.List.{map-append}
use Rattle.std.proofs.lemmas.List.Folds.{list_all-append}
use Rattle.net_base.specs.declared.values.Hash32.{Hash32}
use Rattle.net_base.specs.declared.names.StateRef.{StateRef}
use Rattle.ledger_types.specs.declared.tx.SignedTx.{SignedTx}
use Rattle.ledger_types.specs.Names.{hash_eq}
use Rattle.ledger_types.specs.Signatures.{tx_id}
use Rattle.ledger_types.specs.Stores.{is_stored, all_stored, has_dependencies, may_record, untagged}
use Rattle.tx_store.proofs.Ordered.{Recorded}
use Rattle.vault.specs.Holdings.{is_noted, may_note}

noted_is : (store : List Recorded) (id : Hash32) → is_noted (untagged store) id ≡ is_stored store id
noted_is [] id = refl
noted_is (p ∷ store) id = ap (λ b. hash_eq id p.0 || b) (noted_is store id)

all_noted : (store : List Recorded) (refs : List StateRef) → all_stored store refs ≡ true → list_all (λ r. is_noted (untagged store) r.id) refs ≡ true
all_noted store [] all = refl
all_noted store (r ∷ refs) all =
    let both = and_parts (is_stored store r.id) (all_stored store refs) all in
    and_from _ _ (noted_is store r.id ∙ both.0) (all_noted store refs both.1)

pub noted_next : (store : List Recorded) (stx : SignedTx) → may_record store (Some stx) ≡ true → may_note (untagged store) (tx_id stx.tx) stx.tx ≡ true
noted_next store stx next =
    let both = and_parts (not (is_stored store (tx_id stx.tx))) (has_dependencies store stx.tx) next in
    let parts = and_parts (all_stored store stx.tx.inputs) (all_stored store stx.tx.references) (sym (list_all-append (λ r. is_stored store r.id) stx.tx.inputs stx.tx.references) ∙ both.1) in
    and_from _ _ (ap not (noted_is store (tx_id stx.tx)) ∙ both.0) (all_noted store stx.tx.inputs parts.0)

pub untagged_more : (store : List Recorded) (id : Hash32) (stx : SignedTx) → untagged (store ++ (id, stx) ∷ []) ≡ untagged store ++ (id, stx.tx) ∷ []
untagged_more store id stx = map-append (λ (p : Recorded). (p.0, p.1.tx)) store ((id, stx) ∷ [])
