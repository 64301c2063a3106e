-- The ledger of a node in the words of the network machine: what its tables hold, which changes fit, and what a change makes.
use Rattle.std.specs.Prelude.{◌≡◌, ◌↔◌, ℕ, Bool, true, false, List, ◌++◌, option_to_list, unwrap_or}
use Rattle.std.specs.List.{list_all}
use Rattle.net_base.specs.declared.values.Party.{Party}
use Rattle.ledger_types.specs.declared.tx.SignedTx.{SignedTx}
use Rattle.ledger_types.specs.declared.notary.Entry.{Entry}
use Rattle.ledger_types.specs.declared.change.LedgerChange.{LedgerChange}
use Rattle.ledger_types.specs.Names.{ref_eq, has_repeat}
use Rattle.ledger_types.specs.Stores.{may_record, untagged}
use Rattle.ledger_types.specs.Vaults.{Lock, vault_of, has_coin, locks_of}
use Rattle.vault.specs.Holdings.{IsVault}
use Rattle.ledger_tables.specs.Ledgers.{Ledger, may_apply}
use Rattle.net_model.specs.Environment.{Environment, party}
use Rattle.net_model.specs.State.{NodeState, FlowPart, no_flow, now_live, now_ended, now_failed, with_ids, flow_of, locks_on}
use Rattle.net_model.specs.Fits.{FitsBooked}

-- the ledger's part of a node's state
pub record LedgerState : Type 0 where
  -- in order of recording
  pub stored : List SignedTx
  pub locked : List Lock
  pub entries : List Entry

-- the ledger's part of a node's state
abbrev pub ledger_in : {F : Type 0} → NodeState F → LedgerState
ledger_in s = record { stored = s.stored; locked = s.locked; entries = s.entries }

-- tables of a party hold this: the transactions under their ids, the vault over them by the soft locks, and the entries
pub record HoldsLedger (me : Party) (s : LedgerState) (l : Ledger) : Type 0 where
  pub party : l.vault.party ≡ me
  pub store : l.store.list ≡ with_ids s.stored
  pub vault : IsVault me (untagged (with_ids s.stored)) s.locked l.vault.held
  pub book : l.book.entries ≡ s.entries

-- whether the tables take a change, at a node whose network has this notary
abbrev pub takes_change : Party → Ledger → LedgerChange → Bool
takes_change notary l change = may_apply l.vault.party notary l.store.list l.vault.held l.book.entries change

-- whatever state of a party the tables held, they hold it still
abbrev pub KeepsLedger : Ledger → Ledger → Type 0
KeepsLedger old new = (me : Party) (s : LedgerState) → HoldsLedger me s old → HoldsLedger me s new

-- the ledger's part of a change fits, by the machine's rules for records
pub record FitsLedger {F : Type 0} (w : Environment F) (me : ℕ) (s : LedgerState) (change : LedgerChange) : Type 0 where
  pub recorded : may_record (with_ids s.stored) change.recorded ≡ true
  pub locked : list_all (has_coin (vault_of (party me) (untagged (with_ids (s.stored ++ option_to_list change.recorded))) s.locked)) change.locked ≡ true
  pub once : has_repeat ref_eq change.locked ≡ false
  pub booked : FitsBooked w me s.entries change.booked

-- the soft locks behind a change by the flow of this part: those of a flow that ends are gone, also those of this change
abbrev pub locks_after : {F : Type 0} → FlowPart F → LedgerChange → List Lock → List Lock
locks_after flow change locked = locks_on flow (locked ++ locks_of (unwrap_or (flow_of flow) 0) change.locked)

-- the ledger's part of a state behind a change by the flow of this part
abbrev pub ledger_after : {F : Type 0} → FlowPart F → LedgerChange → LedgerState → LedgerState
ledger_after flow change s = record { stored = s.stored ++ option_to_list change.recorded; locked = locks_after flow change s.locked; entries = s.entries ++ option_to_list change.booked }

-- whether a part ends a flow
abbrev pub is_ending : {F : Type 0} → FlowPart F → Bool
is_ending no_flow = false
is_ending (now_live checkpoint) = false
is_ending (now_ended flow step class value) = true
is_ending (now_failed flow step class code) = true

-- the change is by the flow of this part, or by none, and says whether that flow ends
pub record IsBy {F : Type 0} (flow : FlowPart F) (change : LedgerChange) : Type 0 where
  pub owner : change.owner ≡ unwrap_or (flow_of flow) 0
  pub ended : change.ended ≡ is_ending flow

-- whatever state of a party the tables held, they hold what the machine's effect makes of it
abbrev pub MakesLedger : (F : Type 0) → LedgerChange → Ledger → Ledger → Type 0
MakesLedger F change old new = (flow : FlowPart F) (me : Party) (s : LedgerState) → IsBy flow change → HoldsLedger me s old → HoldsLedger me (ledger_after flow change s) new

-- ---- the law

-- over tables that hold a state the test of a change says exactly whether it fits by the machine's rules
abbrev pub ChangeFitsAsRuled : (F : Type 0) → Type 0
ChangeFitsAsRuled F = (w : Environment F) (me : ℕ) (s : LedgerState) (l : Ledger) (change : LedgerChange) → HoldsLedger (party me) s l → (may_apply (party me) w.notary l.store.list l.vault.held l.book.entries change ≡ true) ↔ FitsLedger w me s change
