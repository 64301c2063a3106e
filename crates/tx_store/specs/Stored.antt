-- What contracts see of a store of transactions, and what is always so of it.
use Rattle.std.specs.Prelude.{◌≡◌, ℕ, length, Bool, true, false, ◌&&◌, not, List, [], ◌∷◌, ◌++◌, Option, Some, None, map, find, is_none, fold, if◌then◌else◌}
use Rattle.std.specs.List.{AllByRecursion}
use Rattle.net_base.specs.declared.values.Hash32.{Hash32}
use Rattle.net_base.specs.declared.names.StateRef.{StateRef}
use Rattle.ledger_types.specs.declared.tx.Tx.{Tx}
use Rattle.ledger_types.specs.declared.tx.SignedTx.{SignedTx}
use Rattle.ledger_types.specs.declared.tx.Resolved.{Resolved}
use Rattle.ledger_types.specs.Names.{hash_eq, has_hash}
use Rattle.ledger_types.specs.Signatures.{tx_id}
use Rattle.ledger_types.specs.States.{IsTxState}
use Rattle.ledger_types.specs.Txs.{IsSignedTx}
use Rattle.ledger_types.specs.Stores.{stored_of, is_stored, refs_of, has_dependencies, state_of}

-- what contracts see of a store: its transactions with their ids in order of recording, and for how many more there is room
pub record Stored : Type 0 where
  pub list : List (Hash32 × SignedTx)
  pub room : ℕ

-- each of these transactions is within its limits, with its tags
abbrev pub AreWithin : List (Hash32 × SignedTx) → Type 0
AreWithin list = AllByRecursion (λ p. IsSignedTx p.1) list

-- the states that a transaction names are each within their limits
abbrev pub IsResolved : Resolved → Type 0
IsResolved states = AllByRecursion IsTxState states.inputs × AllByRecursion IsTxState states.references

-- there is one state for each input of a transaction, and one for each reference
abbrev pub HasEach : Tx → Resolved → Type 0
HasEach tx states = (length states.inputs ≡ length tx.inputs) × (length states.references ≡ length tx.references)

-- whether a transaction may be recorded behind these: under its own id, which isn't recorded yet, and after all that it depends on
abbrev pub may_follow : List (Hash32 × SignedTx) → Hash32 × SignedTx → Bool
may_follow store p = hash_eq p.0 (tx_id p.1.tx) && (not (is_stored store p.0) && has_dependencies store p.1.tx)

-- whether these may be recorded one after the other behind the first ones
abbrev pub may_all_follow : List (Hash32 × SignedTx) → List (Hash32 × SignedTx) → Bool
may_all_follow store [] = true
may_all_follow store (p ∷ ps) = may_follow store p && may_all_follow (store ++ p ∷ []) ps

-- whether a list of transactions was recorded in order: each under its own id, once, after all that it depends on
abbrev pub is_in_order : List (Hash32 × SignedTx) → Bool
is_in_order list = may_all_follow [] list

-- whether a reference of these names the transaction of the id
abbrev pub is_named : Hash32 → List StateRef → Bool
is_named id refs = has_hash id (map (λ r. r.id) refs)

-- whether ids lead back along the back-chain of a transaction: each is one that the recorded transaction before it depends on
abbrev pub leads_back : List (Hash32 × SignedTx) → Option SignedTx → List Hash32 → Bool
leads_back store from [] = true
leads_back store None (id ∷ ids) = false
leads_back store (Some stx) (id ∷ ids) = is_named id (refs_of stx.tx) && leads_back store (stored_of store id) ids

-- an id that isn't recorded joins those found so far, unless it is one of them
abbrev pub found_with : List (Hash32 × SignedTx) → List Hash32 → StateRef → List Hash32
found_with store found r = if is_stored store r.id then found else (if has_hash r.id found then found else found ++ r.id ∷ [])

-- those found so far with the ids of references that aren't recorded, each once
abbrev pub found_in : List (Hash32 × SignedTx) → List Hash32 → List StateRef → List Hash32
found_in store found refs = fold (found_with store) found refs

-- the first reference whose state can't be had
abbrev pub first_lost : List (Hash32 × SignedTx) → List StateRef → Option StateRef
first_lost store refs = find (λ r. is_none (state_of store r)) refs
