-- What is stored is within its limits, and so is what references name.
use Rattle.std.proofs.Common.{◌≡◌, Bool, true, false, List, [], ◌∷◌, ◌++◌, Option, Some, None, Bor, cond, find, option_map, option_and_then, slice_get, sym, subst}
use Rattle.std.specs.Prelude.{IfSome}
use Rattle.std.specs.List.{AllByRecursion}
use Rattle.std.specs.Option.{option_copied}
use Rattle.net_base.specs.declared.values.Hash32.{Hash32}
use Rattle.net_base.specs.declared.names.StateRef.{StateRef}
use Rattle.net_base.proofs.Lists.{all_get}
use Rattle.ledger_types.specs.declared.state.TxState.{TxState}
use Rattle.ledger_types.specs.declared.tx.SignedTx.{SignedTx}
use Rattle.ledger_types.specs.Names.{hash_eq}
use Rattle.ledger_types.specs.States.{IsTxState}
use Rattle.ledger_types.specs.Txs.{IsSignedTx}
use Rattle.ledger_types.specs.Stores.{stored_of, state_of, states_of}
use Rattle.tx_store.specs.Stored.{AreWithin}
use Rattle.tx_store.proofs.Resolving.{joined_parts}
use Rattle.tx_store.proofs.Ordered.{Recorded}

-- with one more within its limits
pub within_more : (list : List Recorded) (p : Recorded) → AreWithin list → IsSignedTx p.1 → AreWithin (list ++ p ∷ [])
within_more [] p h one = (one, tt)
within_more (q ∷ list) p h one = (h.0, within_more list p h.1 one)

-- a stored transaction is within its limits
pub stored_within : (store : List Recorded) (id : Hash32) → AreWithin store → IfSome (stored_of store id) IsSignedTx
stored_within [] id h = tt
stored_within (p ∷ store) id h = by (hash_eq id p.0) (stored_within store id h.1)
  where
    by : (b : Bool) → IfSome (stored_of store id) IsSignedTx → IfSome (option_map (λ q. q.1) (cond b (Some p) (find (λ q. hash_eq id q.0) store))) IsSignedTx
    by true rest = h.0
    by false rest = rest

-- so is what is lent of it
pub lent_within : (o : Option (Bor SignedTx)) (x : Option SignedTx) → option_copied o ≡ x → IfSome x IsSignedTx → IfSome o (λ stx. IsSignedTx stx.now)
lent_within None x e h = tt
lent_within (Some b) x e h = subst (λ (y : Option SignedTx). IfSome y IsSignedTx) (sym e) h

-- a state that is had is within its limits
state_within : (store : List Recorded) (r : StateRef) (state : TxState) → AreWithin store → state_of store r ≡ Some state → IsTxState state
state_within store r state h e = by (stored_of store r.id) (stored_within store r.id h) e
  where
    by : (o : Option SignedTx) → IfSome o IsSignedTx → option_and_then (λ stx. slice_get stx.tx.outputs r.index) o ≡ Some state → IsTxState state
    by None k f = absurd cc
    by (Some stx) k f = all_get IsTxState stx.tx.outputs r.index state k.0.1.1.0.1 f

-- so are all of a list
pub states_within : (store : List Recorded) (refs : List StateRef) (states : List TxState) → AreWithin store → states_of store refs ≡ Some states → AllByRecursion IsTxState states
states_within store [] states h e = let none : [] ≡ states = cc in subst (AllByRecursion IsTxState) none tt
states_within store (r ∷ refs) states h e =
    let p = joined_parts (state_of store r) (states_of store refs) states e in
    subst (AllByRecursion IsTxState) (sym p.1.1.1.1) (state_within store r p.0 h p.1.1.0, states_within store refs p.1.0 h p.1.1.1.0)
