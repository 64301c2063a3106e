-- The ids that aren't stored, found one after the other.
use Rattle.std.proofs.Common.{◌≡◌, Bool, true, false, ◌||◌, not, List, [], ◌∷◌, ◌++◌, refl, sym, ◌∙◌, ap, cond, map, filter, append_assoc, if◌then◌else◌}
use Rattle.std.proofs.lemmas.List.Folds.{list_any-append}
use Rattle.std.proofs.lemmas.List.Sums.{fold-append}
use Rattle.net_base.specs.declared.values.Hash32.{Hash32}
use Rattle.net_base.specs.declared.names.StateRef.{StateRef}
use Rattle.ledger_types.specs.declared.tx.Tx.{Tx}
use Rattle.ledger_types.specs.declared.tx.SignedTx.{SignedTx}
use Rattle.ledger_types.specs.Names.{hash_eq, has_hash}
use Rattle.ledger_types.specs.Stores.{is_stored, each_once, missing_ids}
use Rattle.tx_store.specs.Stored.{found_with, found_in}

append_nil : (l : List Hash32) → l ++ [] ≡ l
append_nil [] = refl
append_nil (x ∷ xs) = ap (λ (l : List Hash32). x ∷ l) (append_nil xs)

swap : (a b : Bool) → (a || (b || false)) ≡ (b || a)
swap true true = refl
swap true false = refl
swap false true = refl
swap false false = refl

-- the found ids are each once, where those found and those had are the same
pub found_is : (store : List (Hash32 × SignedTx)) (refs : List StateRef) (found had : List Hash32) → ((id : Hash32) → has_hash id found ≡ has_hash id had) → found_in store found refs ≡ found ++ each_once had (filter (λ id. not (is_stored store id)) (map (λ r. r.id) refs))
found_is store [] found had same = sym (append_nil found)
found_is store (r ∷ refs) found had same =
    by (is_stored store r.id) (has_hash r.id had) (same r.id) refl (found_is store refs found had same) (found_is store refs (found ++ r.id ∷ []) (r.id ∷ had) more)
  where
    ids : List Hash32
    ids = filter (λ id. not (is_stored store id)) (map (λ s. s.id) refs)

    more : (id : Hash32) → has_hash id (found ++ r.id ∷ []) ≡ has_hash id (r.id ∷ had)
    more id =
        list_any-append (λ h. hash_eq h id) found (r.id ∷ [])
        ∙ ap (λ b. b || (hash_eq r.id id || false)) (same id)
        ∙ swap (has_hash id had) (hash_eq r.id id)

    by : (s h : Bool) → has_hash r.id found ≡ h → has_hash r.id had ≡ h
        → found_in store found refs ≡ found ++ each_once had ids
        → found_in store (found ++ r.id ∷ []) refs ≡ (found ++ r.id ∷ []) ++ each_once (r.id ∷ had) ids
        → found_in store (if s then found else (if has_hash r.id found then found else found ++ r.id ∷ [])) refs ≡ found ++ each_once had (cond (not s) (r.id ∷ ids) ids)
    by true h e f rest added = rest
    by false true e f rest added = rw e (rw f rest)
    by false false e f rest added = rw e (rw f (added ∙ append_assoc found (r.id ∷ []) (each_once (r.id ∷ had) ids)))

-- those of both lists are each once
pub missing_is : (store : List (Hash32 × SignedTx)) (tx : Tx) → found_in store (found_in store [] tx.inputs) tx.references ≡ missing_ids store tx
missing_is store tx = sym (fold-append (found_with store) [] tx.inputs tx.references) ∙ found_is store (tx.inputs ++ tx.references) [] [] (λ _. refl)
