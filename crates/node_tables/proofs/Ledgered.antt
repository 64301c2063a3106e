-- The ledger of a node's tables, and the state that its records make.
use Rattle.std.proofs.Common.{◌≡◌, ◌+◌, ℕ, Bool, true, false, not, ◌&&◌, List, [], ◌++◌, Option, Some, None, option_to_list, unwrap_or, refl, sym, ◌∙◌, ap}
use Rattle.std.specs.List.{list_all}
use Rattle.std.specs.Prelude.{IfSome}
use Rattle.net_base.specs.declared.values.Hash32.{Hash32}
use Rattle.net_base.specs.declared.values.Party.{Party}
use Rattle.ledger_types.specs.declared.tx.SignedTx.{SignedTx}
use Rattle.ledger_types.specs.declared.held.Held.{Held}
use Rattle.ledger_types.specs.declared.notary.Entry.{Entry}
use Rattle.ledger_types.specs.declared.change.LedgerChange.{LedgerChange}
use Rattle.ledger_types.specs.Names.{ref_eq, has_repeat}
use Rattle.ledger_types.specs.Stores.{may_record, untagged}
use Rattle.ledger_types.specs.Vaults.{vault_of, has_coin}
use Rattle.ledger_tables.specs.Ledgers.{Ledger, may_apply, may_lock, may_book}
use Rattle.session_wire.specs.declared.change.SessionChange.{SessionChange}
use Rattle.flow_machine.specs.declared.flows.FlowState.{FlowState}
use Rattle.flow_machine.specs.declared.flows.FlowState.TheVariants.{Live, Ended, Failed}
use Rattle.transition_record.specs.Changes.{IsLedger}
use Rattle.net_model.specs.Enabled.{part_of}
use Rattle.net_model.specs.Sound.{IsNumbered}
use Rattle.net_model.specs.State.{NodeState, with_ids, flow_of, replay}
use Rattle.flow_records.specs.declared.step.FlowAfter.{FlowAfter}
use Rattle.flow_records.specs.Spelling.{is_over}
use Rattle.flow_records.specs.Steps.{part_after, whole_part, owner_of, ends_with}
use Rattle.node_ledger.specs.Ledgered.{ledger_in, HoldsLedger, IsBy, is_ending}
use Rattle.node_ledger.proofs.Ruled.{held_is}
use Rattle.node_tables.specs.Journals.{Reads, state_of}
use Rattle.node_tables.specs.Fits.{fits_ledger}
use Rattle.node_tables.proofs.Linking.{IsOwn}

-- the test of the tables is that of the records' rules
may_is_own : {F : Type 0} (notary me : Party) (s : NodeState F) (l : Ledger) (session : SessionChange) (change : LedgerChange) → HoldsLedger me (ledger_in s) l → may_apply me notary l.store.list l.vault.held l.book.entries change ≡ fits_ledger notary me s (whole_part session change)
unfolding may_apply
may_is_own notary me s l session change h = by (may_record (with_ids s.stored) change.recorded) refl
  where
    store : may_record l.store.list change.recorded ≡ may_record (with_ids s.stored) change.recorded
    store = ap (λ (x : List (Hash32 × SignedTx)). may_record x change.recorded) h.store

    by : (b : Bool) → may_record (with_ids s.stored) change.recorded ≡ b → (may_record l.store.list change.recorded && (may_lock me change.recorded l.vault.held change.locked && may_book me notary l.book.entries change.booked)) ≡ fits_ledger notary me s (whole_part session change)
    by false e = ap (λ b. b && (may_lock me change.recorded l.vault.held change.locked && may_book me notary l.book.entries change.booked)) (store ∙ e) ∙ sym (ap (λ b. b && ((list_all (has_coin (vault_of me (untagged (with_ids (s.stored ++ option_to_list change.recorded))) s.locked)) change.locked && not (has_repeat ref_eq change.locked)) && may_book me notary s.entries change.booked)) e)
    by true e =
        let held = held_is me s.stored s.locked l.vault.held change.recorded h.vault e in
        ap (λ b. b && (may_lock me change.recorded l.vault.held change.locked && may_book me notary l.book.entries change.booked)) store
        ∙ ap (λ (x : List Held). may_record (with_ids s.stored) change.recorded && ((list_all (has_coin x) change.locked && not (has_repeat ref_eq change.locked)) && may_book me notary l.book.entries change.booked)) held.states
        ∙ ap (λ (x : List Entry). may_record (with_ids s.stored) change.recorded && ((list_all (has_coin (vault_of me (untagged (with_ids (s.stored ++ option_to_list change.recorded))) s.locked)) change.locked && not (has_repeat ref_eq change.locked)) && may_book me notary x change.booked)) h.book

pub may_is : {F : Type 0} (notary me : Party) (s : NodeState F) (l : Ledger) (session : SessionChange) (change : LedgerChange) → HoldsLedger me (ledger_in s) l → may_apply l.vault.party notary l.store.list l.vault.held l.book.entries change ≡ fits_ledger notary me s (whole_part session change)
may_is notary me s l session change h = ap (λ (p : Party). may_apply p notary l.store.list l.vault.held l.book.entries change) h.party ∙ may_is_own notary me s l session change h

-- ---- the flow of a change

named : {F : Type 0} (n : ℕ) (state : FlowState F) → IsNumbered n state → flow_of (part_of n state) ≡ Some n
named n (Live at) own = ap (λ k. Some k) own
named n (Ended step class value) own = refl
named n (Failed step class code) own = refl

ending : {F : Type 0} (n : ℕ) (state : FlowState F) → is_ending (part_of n state) ≡ is_over state
ending n (Live at) = refl
ending n (Ended step class value) = refl
ending n (Failed step class code) = refl

-- a change of a step is by the flow of its part
pub is_by : {F : Type 0} (flow : Option (FlowAfter F)) (change : LedgerChange) → IfSome flow IsOwn → IsLedger (owner_of flow) (ends_with flow) change → IsBy (part_after flow) change
is_by None change own h = record { owner = h.1.0; ended = h.1.1 }
is_by (Some after) change own h = record { owner = h.1.0 ∙ sym (ap (λ (o : Option ℕ). unwrap_or o 0) (named after.number after.state own)); ended = h.1.1 ∙ sym (ending after.number after.state) }

-- the ledger of a node to which nothing has happened
pub holds_none : {F : Type 0} (f : Reads F) (me : Party) (l : Ledger) → HoldsLedger me (record { stored = []; locked = []; entries = [] }) l → HoldsLedger me (ledger_in (state_of f [])) l
unfolding state_of replay
holds_none f me l h = h
