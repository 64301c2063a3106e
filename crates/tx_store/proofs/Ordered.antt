-- Look-ups in a store, and what recording in order gives.
use Rattle.std.proofs.Common.{◌≡◌, ℕ, Bool, true, false, ◌&&◌, ◌||◌, not, List, [], ◌∷◌, ◌++◌, Option, Some, None, refl, sym, ◌∙◌, ap, subst, rules, cond, true≢false, is_some, option_map, find, append_assoc, nat_eq}
use Rattle.std.proofs.lemmas.Bool.{and_parts, and_from}
use Rattle.std.proofs.lemmas.List.Folds.{list_any-append}
use Rattle.std.specs.List.{list_all}
use Rattle.std.specs.Map.{lookup}
use Rattle.std.proofs.lemmas.Option.{none-some}
use lib.Pointwise.{pointwise}
use Rattle.net_base.specs.declared.values.Hash32.{Hash32}
use Rattle.net_base.specs.declared.names.StateRef.{StateRef}
use Rattle.ledger_types.specs.declared.tx.SignedTx.{SignedTx}
use Rattle.ledger_types.specs.Names.{hash_eq}
use Rattle.ledger_types.specs.Signatures.{tx_id}
use Rattle.ledger_types.specs.Stores.{stored_of, is_stored, refs_of, all_stored, has_dependencies}
use Rattle.ledger_types.proofs.Names.{hash_exact}
use Rattle.tx_store.specs.Stored.{may_follow, may_all_follow, is_in_order, is_named, leads_back}

abbrev pub Recorded : Type 0
Recorded = Hash32 × SignedTx

-- an id is equal to itself
pub hash_same : (xs : List ℕ) → pointwise nat_eq xs xs ≡ true
hash_same [] = refl
hash_same (x ∷ xs) = and_from _ _ (nat_same x) (hash_same xs)
  where
    nat_same : (n : ℕ) → nat_eq n n ≡ true
    nat_same n = search rules

-- the table's look-up is the store's
pub lookup_is : (id : Hash32) (store : List Recorded) → lookup (hash_eq id) store ≡ stored_of store id
lookup_is id [] = refl
lookup_is id (p ∷ ps) = by (hash_eq id p.0) (lookup_is id ps)
  where
    by : (b : Bool) → lookup (hash_eq id) ps ≡ stored_of ps id → cond b (Some p.1) (lookup (hash_eq id) ps) ≡ option_map (λ q. q.1) (cond b (Some p) (find (λ q. hash_eq id q.0) ps))
    by true rest = refl
    by false rest = rest

-- a transaction is found exactly where it is stored
pub lookup_some : (id : Hash32) (store : List Recorded) → is_some (lookup (hash_eq id) store) ≡ is_stored store id
lookup_some id [] = refl
lookup_some id (p ∷ ps) = by (hash_eq id p.0) (lookup_some id ps)
  where
    by : (b : Bool) → is_some (lookup (hash_eq id) ps) ≡ is_stored ps id → is_some (cond b (Some p.1) (lookup (hash_eq id) ps)) ≡ (b || is_stored ps id)
    by true rest = refl
    by false rest = rest

-- what is stored stays so behind more
pub stored_more : (store more : List Recorded) (id : Hash32) → is_stored store id ≡ true → is_stored (store ++ more) id ≡ true
stored_more store more id h = list_any-append (λ p. hash_eq id p.0) store more ∙ ap (λ b. b || is_stored more id) h

pub all_stored_more : (store more : List Recorded) (refs : List StateRef) → all_stored store refs ≡ true → all_stored (store ++ more) refs ≡ true
all_stored_more store more [] h = refl
all_stored_more store more (r ∷ refs) h =
    let both = and_parts (is_stored store r.id) (all_stored store refs) h in
    and_from _ _ (stored_more store more r.id both.0) (all_stored_more store more refs both.1)

-- one more is recorded in order
pub in_order_push : (first list : List Recorded) (p : Recorded) → may_all_follow first list ≡ true → may_follow (first ++ list) p ≡ true → may_all_follow first (list ++ p ∷ []) ≡ true
in_order_push first [] p h next = and_from _ _ (subst (λ (l : List Recorded). may_follow l p ≡ true) (append_nil first) next) refl
  where
    append_nil : (l : List Recorded) → l ++ [] ≡ l
    append_nil [] = refl
    append_nil (x ∷ xs) = ap (λ (l : List Recorded). x ∷ l) (append_nil xs)
in_order_push first (q ∷ list) p h next =
    let both = and_parts (may_follow first q) (may_all_follow (first ++ q ∷ []) list) h in
    and_from _ _ both.0 (in_order_push (first ++ q ∷ []) list p both.1 (subst (λ (l : List Recorded). may_follow l p ≡ true) (sym (append_assoc first (q ∷ []) list)) next))

-- what a stored transaction depends on is stored
pub dependencies_stored : (first list : List Recorded) (id : Hash32) (stx : SignedTx) → may_all_follow first list ≡ true → stored_of list id ≡ Some stx → has_dependencies (first ++ list) stx.tx ≡ true
dependencies_stored first [] id stx h is = absurd (none-some stx is)
dependencies_stored first (p ∷ ps) id stx h is =
    by (hash_eq id p.0) refl (λ found. subst (λ (l : List Recorded). has_dependencies l stx.tx ≡ true) (append_assoc first (p ∷ []) ps) (dependencies_stored (first ++ p ∷ []) ps id stx both.1 found))
  where
    both : (may_follow first p ≡ true) × (may_all_follow (first ++ p ∷ []) ps ≡ true)
    both = and_parts (may_follow first p) (may_all_follow (first ++ p ∷ []) ps) h

    here : has_dependencies first p.1.tx ≡ true
    here = (and_parts (not (is_stored first p.0)) (has_dependencies first p.1.tx) ((and_parts (hash_eq p.0 (tx_id p.1.tx)) (not (is_stored first p.0) && has_dependencies first p.1.tx) both.0).1)).1

    by : (b : Bool) → hash_eq id p.0 ≡ b → (stored_of ps id ≡ Some stx → has_dependencies (first ++ p ∷ ps) stx.tx ≡ true) → has_dependencies (first ++ p ∷ ps) stx.tx ≡ true
    by true e rest =
        let same : Some p.1 ≡ Some stx = rw e at is in
        let one : p.1 ≡ stx = cc same in
        subst (λ (s : SignedTx). has_dependencies (first ++ p ∷ ps) s.tx ≡ true) one (all_stored_more first (p ∷ ps) (refs_of p.1.tx) here)
    by false e rest = rest (rw e at is)

-- a reference among stored ones names a stored transaction
named_stored : (store : List Recorded) (refs : List StateRef) (id : Hash32) → all_stored store refs ≡ true → is_named id refs ≡ true → is_stored store id ≡ true
named_stored store [] id h named = absurd (true≢false (sym named))
named_stored store (r ∷ refs) id h named = by (hash_eq r.id id) refl (λ rest. named_stored store refs id both.1 rest)
  where
    both : (is_stored store r.id ≡ true) × (all_stored store refs ≡ true)
    both = and_parts (is_stored store r.id) (all_stored store refs) h

    by : (b : Bool) → hash_eq r.id id ≡ b → (is_named id refs ≡ true → is_stored store id ≡ true) → is_stored store id ≡ true
    by true e rest = subst (λ (x : Hash32). is_stored store x ≡ true) (hash_exact r.id id e) both.0
    by false e rest = rest (rw e at named)

-- the back-chain of a stored transaction is stored
pub back_chain_stored : (store : List Recorded) → is_in_order store ≡ true → (from : Option SignedTx) (id : Hash32) → stored_of store id ≡ from → (ids : List Hash32) → leads_back store from ids ≡ true → list_all (is_stored store) ids ≡ true
back_chain_stored store ordered from id is [] h = refl
back_chain_stored store ordered None id is (next ∷ ids) h = absurd (true≢false (sym h))
back_chain_stored store ordered (Some stx) id is (next ∷ ids) h =
    let both = and_parts (is_named next (refs_of stx.tx)) (leads_back store (stored_of store next) ids) h in
    let here = named_stored store (refs_of stx.tx) next (dependencies_stored [] store id stx ordered is) both.0 in
    and_from _ _ here (back_chain_stored store ordered (stored_of store next) next refl ids both.1)

pub none_is : {X : Type 0} (o : Option X) → is_some o ≡ false → o ≡ None
none_is None e = refl
none_is (Some x) e = absurd (true≢false e)
