-- When, and by whom, time locks were made and opened by recorded transactions.
use Rattle.std.specs.Prelude.{◌≡◌, ℕ, ◌<◌, ◌≤◌, true, List, Some, IfSome, slice_get, Contains}
use Rattle.net_base.specs.declared.values.Moment.{Moment}
use Rattle.net_base.specs.declared.values.Party.{Party}
use Rattle.ledger_types.specs.declared.state.StateData.TheVariants.{TimeLock}
use Rattle.ledger_types.specs.declared.state.TxState.{TxState}
use Rattle.ledger_types.specs.declared.tx.Tx.{Tx}
use Rattle.ledger_types.specs.declared.tx.Resolved.{Resolved}
use Rattle.ledger_types.specs.declared.tx.SignedTx.{SignedTx}
use Rattle.ledger_types.specs.Signatures.{has_signed}
use Rattle.ledger_types.specs.Stores.{resolved_of}
use Rattle.ledger_types.specs.Txs.{IsWindow}
use Rattle.tx_tear.specs.Hashed.{AreApart}
use Rattle.small_contracts.specs.Locks.{locks_say}
use Rattle.net_model.specs.Environment.{Environment}
use Rattle.net_model.specs.State.{NodeState, with_ids}
use Rattle.net_model.specs.Tags.{book_of}
use Rattle.network_core.specs.Worlds.{states_of}
use Rattle.ledger_laws.specs.Ledgers.{hashed_to_sign}
use Rattle.ledger_laws.specs.Windows.{IsSignedInWindow}
use Rattle.contract_laws.specs.Lawful.{Contracts}

-- the contract of number 2, which governs time locks, is there and is that of time locks
abbrev pub GovernsLocks : Contracts → Type 0
GovernsLocks contracts = (tx : Tx) (states : Resolved) → contracts 2 tx states ≡ Some (locks_say tx states)

-- the owner, of parties 0 to 15, of each time lock that a transaction makes or consumes has a tag on it, over its id, that checks; and the notary first signed a transaction that consumes one, by a record of its journal whose moment is the lock's end or later, where the window's moments have 64 bits, no digests of what was hashed to sign the transaction collide, and none is all zeros or all ones
pub record OpensWhenDue {F : Type 0} (e : Environment F) (lists : List (List (List ℕ))) (net : List (NodeState F)) (stored : List SignedTx) (stx : SignedTx) : Type 0 where
  pub states : Resolved
  pub resolves : resolved_of (with_ids stored) stx.tx ≡ Some states
  pub made : (s : TxState) (owner : Party) (until : Moment) → Contains stx.tx.outputs s → s.body ≡ TimeLock owner until → owner.0 < 16 → has_signed e.mark stx owner.0 ≡ true
  pub opened : (s : TxState) (owner : Party) (until : Moment) → Contains states.inputs s → s.body ≡ TimeLock owner until → owner.0 < 16 → has_signed e.mark stx owner.0 ≡ true
  pub signed : (s : TxState) (owner : Party) (until : Moment) → Contains states.inputs s → s.body ≡ TimeLock owner until → IsSignedInWindow e lists net stx.tx
  pub due : (s : TxState) (owner : Party) (until : Moment) (has : Contains states.inputs s) (is : s.body ≡ TimeLock owner until) → IfSome stx.tx.window IsWindow → AreApart (hashed_to_sign (book_of e net) stx.tx)
      → until.0 ≤ (signed s owner until has is).at.cause.moment.0

-- so does each recorded transaction of these nodes
abbrev pub OpenWhenDue : {F : Type 0} → Environment F → List (List (List ℕ)) → List (NodeState F) → Type 0
OpenWhenDue {F} e lists net = (p n : ℕ) (s : NodeState F) (stx : SignedTx) → slice_get net p ≡ Some s → slice_get s.stored n ≡ Some stx → OpensWhenDue e lists net s.stored stx

-- so it is of what journals make
abbrev pub LocksWereDue : {F : Type 0} → Environment F → List (List (List ℕ)) → Type 0
LocksWereDue e lists = OpenWhenDue e lists (states_of e lists)
