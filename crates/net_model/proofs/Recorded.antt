-- What resolves among recorded transactions is recorded.
use Rattle.std.proofs.Common.{◌≡◌, List, [], ◌∷◌, ◌++◌, Option, Some, None, true, false, cond, ◌||◌, find, option_map, option_and_then, slice_get, refl, ap, ◌∙◌}
use Rattle.std.proofs.lemmas.Bool.{and_from}
use Rattle.net_base.specs.declared.values.Hash32.{Hash32}
use Rattle.net_base.specs.declared.names.StateRef.{StateRef}
use Rattle.ledger_types.specs.declared.state.TxState.{TxState}
use Rattle.ledger_types.specs.declared.tx.Tx.{Tx}
use Rattle.ledger_types.specs.declared.tx.Resolved.{Resolved}
use Rattle.ledger_types.specs.declared.tx.SignedTx.{SignedTx}
use Rattle.ledger_types.specs.Names.{hash_eq}
use Rattle.ledger_types.specs.Stores.{stored_of, is_stored, refs_of, all_stored, has_dependencies, state_of, states_of, resolved_of}
use Rattle.ledger_types.specs.Tears.{joined}
use Rattle.net_model.proofs.Basics.{from_map, from_then, find_before}
use Rattle.net_model.proofs.Lists.{all_append}

module _ (store : List (Hash32 × SignedTx)) where
  abbrev IsThere : StateRef → Type 0
  IsThere r = is_stored store r.id ≡ true

  abbrev pub AreThere : List StateRef → Type 0
  AreThere refs = all_stored store refs ≡ true

  found_in : (id : Hash32) (stx : SignedTx) (xs : List (Hash32 × SignedTx)) → stored_of xs id ≡ Some stx → is_stored xs id ≡ true
  found_in id stx [] h = cc
  found_in id stx (x ∷ xs) h =
      (elim (hash_eq id x.0) as (λ b. option_map (λ (p : Hash32 × SignedTx). p.1) (cond b (Some x) (find (λ p. hash_eq id p.0) xs)) ≡ Some stx → b || is_stored xs id ≡ true) [ true ↦ λ k. refl | false ↦ λ k. found_in id stx xs k ]) h

  state_there : (r : StateRef) (state : TxState) → state_of store r ≡ Some state → IsThere r
  state_there r state h = from_then (IsThere r) (λ stx. slice_get stx.tx.outputs r.index) (stored_of store r.id) state h (λ stx is _. found_in r.id stx store is)

  both_there : (r : StateRef) (refs : List StateRef) (states : List TxState) (o : Option TxState) (p : Option (List TxState)) → state_of store r ≡ o
      → ((rest : List TxState) → p ≡ Some rest → AreThere refs) → joined o p ≡ Some states → AreThere (r ∷ refs)
  both_there r refs states None p i f k = cc
  both_there r refs states (Some state) None i f k = cc
  both_there r refs states (Some state) (Some rest) i f k = and_from _ _ (state_there r state i) (f rest refl)

  states_there : (refs : List StateRef) (states : List TxState) → states_of store refs ≡ Some states → AreThere refs
  states_there [] states h = refl
  states_there (r ∷ refs) states h = both_there r refs states (state_of store r) (states_of store refs) refl (λ rest k. states_there refs rest k) h

  -- each transaction that a transaction names is recorded where it resolves
  pub resolved_there : (tx : Tx) (states : Resolved) → resolved_of store tx ≡ Some states → has_dependencies store tx ≡ true
  resolved_there tx states h =
      from_then (AreThere (refs_of tx)) (λ inputs. option_map (λ references. record { inputs = inputs; references = references }) (states_of store tx.references)) (states_of store tx.inputs) states h (λ inputs is k.
      from_map (λ (_ : Resolved). AreThere (refs_of tx)) (λ references. record { inputs = inputs; references = references }) (states_of store tx.references) states k (λ references js.
      all_append (λ (r : StateRef). is_stored store r.id) tx.inputs tx.references (states_there tx.inputs inputs is) (states_there tx.references references js)))

-- ---- what resolves goes on to resolve once more is recorded

module _ (store more : List (Hash32 × SignedTx)) where
  stored_more : (id : Hash32) (stx : SignedTx) → stored_of store id ≡ Some stx → stored_of (store ++ more) id ≡ Some stx
  stored_more id stx h =
      from_map (λ (x : SignedTx). stored_of (store ++ more) id ≡ Some x) (λ p. p.1) (find (λ p. hash_eq id p.0) store) stx h (λ p is.
      ap (option_map (λ (x : Hash32 × SignedTx). x.1)) (find_before (λ q. hash_eq id q.0) store more p is))

  state_more : (r : StateRef) (state : TxState) → state_of store r ≡ Some state → state_of (store ++ more) r ≡ Some state
  state_more r state h =
      from_then (state_of (store ++ more) r ≡ Some state) (λ stx. slice_get stx.tx.outputs r.index) (stored_of store r.id) state h (λ stx is k.
      ap (option_and_then (λ (x : SignedTx). slice_get x.tx.outputs r.index)) (stored_more r.id stx is) ∙ k)

  joined_more : (o p : Option TxState) (a b : Option (List TxState)) (states : List TxState) → ((x : TxState) → o ≡ Some x → p ≡ Some x) → ((x : List TxState) → a ≡ Some x → b ≡ Some x) → joined o a ≡ Some states → joined p b ≡ Some states
  joined_more None p a b states f g h = cc
  joined_more (Some x) p None b states f g h = cc
  joined_more (Some x) p (Some xs) b states f g h = ap (λ (o : Option TxState). joined o b) (f x refl) ∙ (ap (λ (o : Option (List TxState)). joined (Some x) o) (g xs refl) ∙ h)

  states_more : (refs : List StateRef) (states : List TxState) → states_of store refs ≡ Some states → states_of (store ++ more) refs ≡ Some states
  states_more [] states h = h
  states_more (r ∷ refs) states h = joined_more (state_of store r) (state_of (store ++ more) r) (states_of store refs) (states_of (store ++ more) refs) states (state_more r) (states_more refs) h

  pub resolved_more : (tx : Tx) (states : Resolved) → resolved_of store tx ≡ Some states → resolved_of (store ++ more) tx ≡ Some states
  resolved_more tx states h =
      from_then (resolved_of (store ++ more) tx ≡ Some states) (λ inputs. option_map (λ references. record { inputs = inputs; references = references }) (states_of store tx.references)) (states_of store tx.inputs) states h (λ inputs is k.
      from_map (λ (x : Resolved). resolved_of (store ++ more) tx ≡ Some x) (λ references. record { inputs = inputs; references = references }) (states_of store tx.references) states k (λ references js.
      ap (option_and_then (λ (i : List TxState). option_map (λ (r : List TxState). record { inputs = i; references = r }) (states_of (store ++ more) tx.references))) (states_more tx.inputs inputs is)
      ∙ ap (option_map (λ (r : List TxState). record { inputs = inputs; references = r })) (states_more tx.references references js)))
