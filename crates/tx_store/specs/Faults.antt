-- Why states can't be had.
use Rattle.std.specs.Prelude.{◌≡◌, List, Option, Some, None, Result, Ok, Err, option_map, if◌then◌else◌}
use Rattle.net_base.specs.declared.values.Hash32.{Hash32}
use Rattle.net_base.specs.declared.names.StateRef.{StateRef}
use Rattle.ledger_types.specs.declared.state.TxState.{TxState}
use Rattle.ledger_types.specs.declared.tx.Tx.{Tx}
use Rattle.ledger_types.specs.declared.tx.SignedTx.{SignedTx}
use Rattle.ledger_types.specs.Stores.{is_stored, refs_of, state_of, resolved_of}
use Rattle.tx_store.specs.declared.fault.ResolveFault.{ResolveFault}
use Rattle.tx_store.specs.declared.fault.ResolveFault.TheVariants.{Lacking, NoOutput, Memory}
use Rattle.tx_store.specs.Stored.{first_lost}

-- why the state of a reference can't be had: its transaction isn't recorded, or has no such output
abbrev pub fault_at : List (Hash32 × SignedTx) → StateRef → ResolveFault
fault_at store r = if is_stored store r.id then NoOutput r else Lacking r.id

-- why the first reference whose state can't be had has none
abbrev pub fault_of : List (Hash32 × SignedTx) → List StateRef → Option ResolveFault
fault_of store refs = option_map (fault_at store) (first_lost store refs)

-- the value, or the fault where there is none
abbrev pub value_or : ResolveFault → Option TxState → Result TxState ResolveFault
value_or fault None = Err fault
value_or fault (Some state) = Ok state

-- the state of a reference, or why it can't be had
abbrev pub state_or_fault : List (Hash32 × SignedTx) → StateRef → Result TxState ResolveFault
state_or_fault store r = value_or (fault_at store r) (state_of store r)

-- why the states of these references can't be had: as the first that has none; want of memory may come at any time
abbrev pub Misses : List (Hash32 × SignedTx) → List StateRef → ResolveFault → Type 0
Misses store refs (Lacking id) = fault_of store refs ≡ Some (Lacking id)
Misses store refs (NoOutput r) = fault_of store refs ≡ Some (NoOutput r)
Misses store refs Memory = Unit {0}

-- a fault of what a transaction names: it has no states then
abbrev pub IsFault : List (Hash32 × SignedTx) → Tx → ResolveFault → Type 0
IsFault store tx e = (fault_of store (refs_of tx) ≡ Some e) × (resolved_of store tx ≡ None)

-- why the states that a transaction names can't be had; want of memory may come at any time
abbrev pub Lacks : List (Hash32 × SignedTx) → Tx → ResolveFault → Type 0
Lacks store tx (Lacking id) = IsFault store tx (Lacking id)
Lacks store tx (NoOutput r) = IsFault store tx (NoOutput r)
Lacks store tx Memory = Unit {0}
