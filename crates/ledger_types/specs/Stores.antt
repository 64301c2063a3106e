-- What references name in a list of recorded transactions, each with its id.
use Rattle.std.specs.Prelude.{not, ◌&&◌, Bool, true, List, [], ◌∷◌, ◌++◌, Option, Some, None, map, filter, find, option_map, option_and_then, slice_get, if◌then◌else◌}
use Rattle.std.specs.List.{list_any, list_all}
use Rattle.net_base.specs.declared.values.Hash32.{Hash32}
use Rattle.net_base.specs.declared.names.StateRef.{StateRef}
use Rattle.ledger_types.specs.declared.state.TxState.{TxState}
use Rattle.ledger_types.specs.declared.tx.Tx.{Tx}
use Rattle.ledger_types.specs.declared.tx.SignedTx.{SignedTx}
use Rattle.ledger_types.specs.declared.tx.Resolved.{Resolved}
use Rattle.ledger_types.specs.Names.{hash_eq, has_hash}
use Rattle.ledger_types.specs.Signatures.{tx_id}
use Rattle.ledger_types.specs.Tears.{joined}

-- the recorded transaction of this id
abbrev pub stored_of : List (Hash32 × SignedTx) → Hash32 → Option SignedTx
stored_of store id = option_map (λ p. p.1) (find (λ p. hash_eq id p.0) store)

-- whether a transaction of this id is recorded
abbrev pub is_stored : List (Hash32 × SignedTx) → Hash32 → Bool
is_stored store id = list_any (λ p. hash_eq id p.0) store

-- the references of a transaction: its inputs, and then the states that it refers to
abbrev pub refs_of : Tx → List StateRef
refs_of tx = tx.inputs ++ tx.references

-- whether every transaction that these references name is recorded
abbrev pub all_stored : List (Hash32 × SignedTx) → List StateRef → Bool
all_stored store refs = list_all (λ r. is_stored store r.id) refs

-- whether every transaction that a transaction depends on directly is recorded
abbrev pub has_dependencies : List (Hash32 × SignedTx) → Tx → Bool
has_dependencies store tx = all_stored store (refs_of tx)

-- whether a transaction, where there is one, may be recorded next: its id is new, and all that it depends on is recorded
abbrev pub may_record : List (Hash32 × SignedTx) → Option SignedTx → Bool
may_record store None = true
may_record store (Some stx) = not (is_stored store (tx_id stx.tx)) && has_dependencies store stx.tx

-- the state that a reference names
abbrev pub state_of : List (Hash32 × SignedTx) → StateRef → Option TxState
state_of store r = option_and_then (λ stx. slice_get stx.tx.outputs r.index) (stored_of store r.id)

-- the states that references name, where each can be had
abbrev pub states_of : List (Hash32 × SignedTx) → List StateRef → Option (List TxState)
states_of store [] = Some []
states_of store (r ∷ refs) = joined (state_of store r) (states_of store refs)

-- the states that a transaction names, where each can be had
abbrev pub resolved_of : List (Hash32 × SignedTx) → Tx → Option Resolved
resolved_of store tx =
    option_and_then (λ inputs. option_map (λ references. record { inputs = inputs; references = references }) (states_of store tx.references)) (states_of store tx.inputs)

-- each id once, in the order of its first place, but for those that were had before
abbrev pub each_once : List Hash32 → List Hash32 → List Hash32
each_once had [] = []
each_once had (id ∷ ids) = if has_hash id had then each_once had ids else id ∷ each_once (id ∷ had) ids

-- the ids that a transaction's inputs and then references name and that aren't recorded, each once
abbrev pub missing_ids : List (Hash32 × SignedTx) → Tx → List Hash32
missing_ids store tx = each_once [] (filter (λ id. not (is_stored store id)) (map (λ r. r.id) (refs_of tx)))

-- the recorded transactions without their tags
abbrev pub untagged : List (Hash32 × SignedTx) → List (Hash32 × Tx)
untagged store = map (λ p. (p.0, p.1.tx)) store
