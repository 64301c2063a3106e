-- What each recorded transaction has behind it.
use Rattle.std.specs.Prelude.{◌≡◌, ℕ, ◌<◌, List, Some, true, false, is_some, slice_get}
use Rattle.std.specs.List.{AllByRecursion, list_any}
use Rattle.net_base.specs.declared.causes.Cause.{Cause}
use Rattle.ledger_types.specs.declared.tx.Tx.{Tx}
use Rattle.ledger_types.specs.declared.tx.Resolved.{Resolved}
use Rattle.ledger_types.specs.declared.tx.SignedTx.{SignedTx}
use Rattle.ledger_types.specs.declared.verdict.Verdict.TheVariants as verdict
use Rattle.ledger_types.specs.Rules.{asks_notary, is_other_notary}
use Rattle.ledger_types.specs.Signatures.{tx_id, is_signed}
use Rattle.ledger_types.specs.Stores.{resolved_of}
use Rattle.ledger_types.specs.Notary.{signs}
use Rattle.flow_machine.specs.Tags.{KeepsTags, BeginsBare}
use Rattle.net_model.specs.Environment.{Environment}
use Rattle.net_model.specs.State.{NodeState, with_ids}
use Rattle.net_model.specs.Runs.{run_of}
use Rattle.net_model.specs.Tags.{book_of}

-- the transaction resolves among those that are recorded, was accepted over what it resolves to, is signed by all it needs, and names no other notary
pub record IsProven {F : Type 0} (w : Environment F) (stored : List SignedTx) (stx : SignedTx) : Type 0 where
  pub states : Resolved
  pub resolves : resolved_of (with_ids stored) stx.tx ≡ Some states
  pub accepted : w.judge stx.tx states ≡ verdict.Accepted
  pub signed : is_signed w.mark stx ≡ true
  pub near : is_other_notary stx.tx.notary w.notary ≡ false

-- each recorded transaction is so
abbrev pub AreProven : {F : Type 0} → Environment F → List SignedTx → Type 0
AreProven w stored = AllByRecursion (IsProven w stored) stored

-- at every node
abbrev pub StoresHold : {F : Type 0} → Environment F → List (NodeState F) → Type 0
StoresHold {F} w net = (p : ℕ) (s : NodeState F) → slice_get net p ≡ Some s → AreProven w s.stored

-- an accepted transaction with an input, a reference or a window names a notary
abbrev pub NamesNotary : {F : Type 0} → Environment F → Type 0
NamesNotary w = (tx : Tx) (states : Resolved) → w.judge tx states ≡ verdict.Accepted → asks_notary tx ≡ true → is_some tx.notary ≡ true

-- ---- laws

-- in a run each recorded transaction is proven
abbrev pub RunsHoldStores : (F : Type 0) → Type 0
RunsHoldStores F = (w : Environment F) (causes : List (ℕ × Cause)) (net : List (NodeState F)) → run_of w causes ≡ Some net → StoresHold w net

-- in a run the id of each recorded transaction with an input, a reference or a window is signed in the notary's book
abbrev pub StoredIsSigned : (F : Type 0) → Type 0
StoredIsSigned F = (w : Environment F) (causes : List (ℕ × Cause)) (net : List (NodeState F)) (p n : ℕ) (s : NodeState F) (stx : SignedTx)
    → KeepsTags w.machine → BeginsBare w.machine → NamesNotary w → w.notary.0 < 16 → run_of w causes ≡ Some net
    → slice_get net p ≡ Some s → slice_get s.stored n ≡ Some stx → asks_notary stx.tx ≡ true → list_any (signs (tx_id stx.tx)) (book_of w net) ≡ true
