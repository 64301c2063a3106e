-- The test of a change and the machine's rules for records.
use Rattle.std.proofs.Common.{◌≡◌, ℕ, true, false, not, is_some, ◌&&◌, List, [], ◌∷◌, ◌++◌, Option, Some, None, find, option_to_list, refl, sym, ◌∙◌, ap, subst}
use Rattle.std.specs.List.{list_all}
use Rattle.std.proofs.lemmas.Bool.{and_parts, and_from, not-true, not_from_false}
use Rattle.std.proofs.lemmas.List.{append-nil, map-append}
use Rattle.net_base.specs.declared.values.Hash32.{Hash32}
use Rattle.net_base.specs.declared.values.Party.{Party}
use Rattle.ledger_types.specs.declared.tx.Tx.{Tx}
use Rattle.ledger_types.specs.declared.tx.SignedTx.{SignedTx}
use Rattle.ledger_types.specs.declared.held.Held.{Held}
use Rattle.ledger_types.specs.declared.notary.Entry.{Entry}
use Rattle.ledger_types.specs.declared.change.LedgerChange.{LedgerChange}
use Rattle.ledger_types.specs.Names.{party_eq, ref_eq, has_repeat}
use Rattle.ledger_types.specs.Notary.{repeats}
use Rattle.ledger_types.specs.Signatures.{tx_id}
use Rattle.ledger_types.specs.Stores.{may_record, untagged}
use Rattle.ledger_types.specs.Vaults.{Lock, has_coin}
use Rattle.vault.specs.Holdings.{IsVault, held_after}
use Rattle.vault.proofs.Vaults.{note_keeps}
use Rattle.ledger_tables.specs.Ledgers.{Ledger, held_with, may_apply, may_lock, may_book, recorded_in}
use Rattle.ledger_tables.proofs.Recording.{noted_next, untagged_more}
use Rattle.net_model.specs.Environment.{Environment, party}
use Rattle.net_model.specs.State.{with_ids}
use Rattle.net_model.specs.Fits.{FitsBooked}
use Rattle.node_ledger.specs.Ledgered.{LedgerState, HoldsLedger, FitsLedger, ChangeFitsAsRuled}

-- ---- one more transaction

pub ids_more : (stored : List SignedTx) (recorded : Option SignedTx) → with_ids (stored ++ option_to_list recorded) ≡ with_ids stored ++ recorded_in recorded
ids_more stored None = ap with_ids (append-nil stored) ∙ sym (append-nil (with_ids stored))
ids_more stored (Some stx) = map-append (λ (x : SignedTx). (tx_id x.tx, x)) stored (stx ∷ [])

-- the states behind a transaction are the vault over the transactions with it
pub held_is : (me : Party) (stored : List SignedTx) (locked : List Lock) (held : List Held) (recorded : Option SignedTx) → IsVault me (untagged (with_ids stored)) locked held → may_record (with_ids stored) recorded ≡ true
    → IsVault me (untagged (with_ids (stored ++ option_to_list recorded))) locked (held_with me recorded held)
held_is me stored locked held None v may = subst (λ (l : List SignedTx). IsVault me (untagged (with_ids l)) locked held) (sym (append-nil stored)) v
held_is me stored locked held (Some stx) v may =
    subst (λ (l : List (Hash32 × Tx)). IsVault me l locked (held_after me (tx_id stx.tx) stx.tx held)) (sym (untagged_more (with_ids stored) (tx_id stx.tx) stx) ∙ sym (ap untagged (ids_more stored (Some stx)))) (note_keeps me (untagged (with_ids stored)) locked held (tx_id stx.tx) stx.tx v (noted_next (with_ids stored) stx may))

-- ---- entries

none_is : {X : Type 0} (o : Option X) → is_some o ≡ false → o ≡ None
none_is None e = refl
none_is (Some x) e = cc

booked_to : {F : Type 0} (w : Environment F) (me : ℕ) (entries : List Entry) (booked : Option Entry) → may_book (party me) w.notary entries booked ≡ true → FitsBooked w me entries booked
booked_to w me entries None h = tt
booked_to w me entries (Some e) h =
    let p = and_parts (party_eq (party me) w.notary) (not (is_some (find (repeats e.request) entries))) h in
    (p.0, none_is (find (repeats e.request) entries) (not-true _ p.1))

booked_from : {F : Type 0} (w : Environment F) (me : ℕ) (entries : List Entry) (booked : Option Entry) → FitsBooked w me entries booked → may_book (party me) w.notary entries booked ≡ true
booked_from w me entries None h = refl
booked_from w me entries (Some e) h = and_from _ _ h.0 (ap (λ (o : Option Entry). not (is_some o)) h.1)

-- ---- the change

to : {F : Type 0} (w : Environment F) (me : ℕ) (s : LedgerState) (l : Ledger) (change : LedgerChange) → HoldsLedger (party me) s l → may_apply (party me) w.notary l.store.list l.vault.held l.book.entries change ≡ true → FitsLedger w me s change
unfolding may_apply
to w me s l change h may =
    let p = and_parts (may_record l.store.list change.recorded) (may_lock (party me) change.recorded l.vault.held change.locked && may_book (party me) w.notary l.book.entries change.booked) may in
    let q = and_parts (may_lock (party me) change.recorded l.vault.held change.locked) (may_book (party me) w.notary l.book.entries change.booked) p.1 in
    let r = and_parts (list_all (has_coin (held_with (party me) change.recorded l.vault.held)) change.locked) (not (has_repeat ref_eq change.locked)) q.0 in
    let recorded : may_record (with_ids s.stored) change.recorded ≡ true = ap (λ (x : List (Hash32 × SignedTx)). may_record x change.recorded) (sym h.store) ∙ p.0 in
    let held = held_is (party me) s.stored s.locked l.vault.held change.recorded h.vault recorded in
    record {
      recorded = recorded;
      locked = ap (λ (x : List Held). list_all (has_coin x) change.locked) (sym held.states) ∙ r.0;
      once = not-true _ r.1;
      booked = booked_to w me s.entries change.booked (ap (λ (x : List Entry). may_book (party me) w.notary x change.booked) (sym h.book) ∙ q.1);
    }

from : {F : Type 0} (w : Environment F) (me : ℕ) (s : LedgerState) (l : Ledger) (change : LedgerChange) → HoldsLedger (party me) s l → FitsLedger w me s change → may_apply (party me) w.notary l.store.list l.vault.held l.book.entries change ≡ true
unfolding may_apply
from w me s l change h f =
    let held = held_is (party me) s.stored s.locked l.vault.held change.recorded h.vault f.recorded in
    let coins : list_all (has_coin (held_with (party me) change.recorded l.vault.held)) change.locked ≡ true = ap (λ (x : List Held). list_all (has_coin x) change.locked) held.states ∙ f.locked in
    and_from _ _ (ap (λ (x : List (Hash32 × SignedTx)). may_record x change.recorded) h.store ∙ f.recorded) (and_from _ _ (and_from _ _ coins (not_from_false _ f.once)) (ap (λ (x : List Entry). may_book (party me) w.notary x change.booked) h.book ∙ booked_from w me s.entries change.booked f.booked))

pub change_fits_as_ruled : {F : Type 0} → ChangeFitsAsRuled F
change_fits_as_ruled w me s l change h = (λ may. to w me s l change h may, λ f. from w me s l change h f)
