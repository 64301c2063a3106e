-- What a change that fits makes of a node's ledger.
use Rattle.std.proofs.Common.{◌≡◌, List, ◌++◌, option_to_list, unwrap_or, refl, sym, ◌∙◌, ap, subst}
use Rattle.net_base.specs.declared.values.Hash32.{Hash32}
use Rattle.net_base.specs.declared.values.Party.{Party}
use Rattle.ledger_types.specs.declared.tx.SignedTx.{SignedTx}
use Rattle.ledger_types.specs.declared.notary.Entry.{Entry}
use Rattle.ledger_types.specs.declared.change.LedgerChange.{LedgerChange}
use Rattle.ledger_types.specs.Stores.{untagged}
use Rattle.ledger_types.specs.Vaults.{Lock, locks_of}
use Rattle.vault.specs.Holdings.{IsVault}
use Rattle.ledger_tables.specs.Ledgers.{Ledger, recorded_in, locks_by, released_at_end}
use Rattle.net_model.specs.State.{FlowPart, no_flow, now_live, now_ended, now_failed, with_ids, flow_of}
use Rattle.node_ledger.specs.Ledgered.{LedgerState, HoldsLedger, IsBy, is_ending, ledger_after, locks_after}
use Rattle.node_ledger.proofs.Ruled.{ids_more}

-- the soft locks behind a change are those of the machine
pub locks_same : {F : Type 0} (flow : FlowPart F) (change : LedgerChange) (locks : List Lock) → IsBy flow change → locks_by change locks ≡ locks_after flow change locks
locks_same flow change locks by = (λ i. released_at_end (by.owner i) (by.ended i) (locks ++ locks_of (by.owner i) change.locked)) ∙ cases flow
  where
    cases : {F : Type 0} (flow : FlowPart F) → released_at_end (unwrap_or (flow_of flow) 0) (is_ending flow) (locks ++ locks_of (unwrap_or (flow_of flow) 0) change.locked) ≡ locks_after flow change locks
    cases no_flow = refl
    cases (now_live checkpoint) = refl
    cases (now_ended number step class value) = refl
    cases (now_failed number step class code) = refl

-- a change of the tables is one of what they hold
pub holds_after : {F : Type 0} (flow : FlowPart F) (me : Party) (s : LedgerState) (change : LedgerChange) (old new : Ledger) → IsBy flow change → HoldsLedger me s old
    → new.store.list ≡ old.store.list ++ recorded_in change.recorded → new.vault.party ≡ old.vault.party → new.book.entries ≡ old.book.entries ++ option_to_list change.booked
    → ((locks : List Lock) → IsVault old.vault.party (untagged old.store.list) locks old.vault.held → IsVault old.vault.party (untagged new.store.list) (locks_by change locks) new.vault.held)
    → HoldsLedger me (ledger_after flow change s) new
holds_after flow me s change old new by h store owner book vault =
    let list : new.store.list ≡ with_ids (s.stored ++ option_to_list change.recorded) = store ∙ ap (λ (l : List (Hash32 × SignedTx)). l ++ recorded_in change.recorded) h.store ∙ sym (ids_more s.stored change.recorded) in
    let was : IsVault old.vault.party (untagged old.store.list) s.locked old.vault.held = subst (λ (l : List (Hash32 × SignedTx)). IsVault old.vault.party (untagged l) s.locked old.vault.held) (sym h.store) (subst (λ (p : Party). IsVault p (untagged (with_ids s.stored)) s.locked old.vault.held) (sym h.party) h.vault) in
    let now = vault s.locked was in
    let locked = subst (λ (l : List Lock). IsVault old.vault.party (untagged new.store.list) l new.vault.held) (locks_same flow change s.locked by) now in
    let stored = subst (λ (l : List (Hash32 × SignedTx)). IsVault old.vault.party (untagged l) (locks_after flow change s.locked) new.vault.held) list locked in
    record {
      party = owner ∙ h.party;
      store = list;
      vault = subst (λ (p : Party). IsVault p (untagged (with_ids (s.stored ++ option_to_list change.recorded))) (locks_after flow change s.locked) new.vault.held) h.party stored;
      book = book ∙ ap (λ (l : List Entry). l ++ option_to_list change.booked) h.book;
    }
