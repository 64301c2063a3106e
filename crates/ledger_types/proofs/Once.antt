-- A vault over transactions of which none is recorded twice names no state twice.
use Rattle.std.proofs.Common.{◌≡◌, ◌<◌, ◌+◌, ℕ, Bool, true, false, cond, ◌&&◌, not, List, [], ◌∷◌, ◌++◌, map, filter, refl, ◌∙◌, arith}
use Rattle.std.specs.List.{list_any}
use Rattle.std.proofs.lemmas.Bool.{or_parts, or_from, and_left, and_right, ne_eqb}
use Rattle.net_base.specs.declared.values.Hash32.{Hash32}
use Rattle.net_base.specs.declared.values.Party.{Party}
use Rattle.net_base.specs.declared.names.StateRef.{StateRef}
use Rattle.ledger_types.specs.declared.state.TxState.{TxState}
use Rattle.ledger_types.specs.declared.tx.Tx.{Tx}
use Rattle.ledger_types.specs.declared.held.Held.{Held}
use Rattle.ledger_types.specs.Names.{hash_eq, ref_eq, has_repeat}
use Rattle.ledger_types.specs.Vaults.{Lock, is_relevant, outputs_from, is_consumed, all_outputs, vault_of}
use Rattle.ledger_types.proofs.Names.{hash_swapped}

abbrev ref : Held → StateRef
ref h = h.reference

-- ---- some of a list

any_front : (test : StateRef → Bool) (xs rest : List Held) → list_any test (map ref (xs ++ rest)) ≡ false → list_any test (map ref xs) ≡ false
any_front test [] rest h = refl
any_front test (x ∷ xs) rest h = let p = or_parts _ _ h in or_from _ _ p.0 (any_front test xs rest p.1)

pub once_front : (xs rest : List Held) → has_repeat ref_eq (map (λ h. h.reference) (xs ++ rest)) ≡ false → has_repeat ref_eq (map (λ h. h.reference) xs) ≡ false
once_front [] rest h = refl
once_front (x ∷ xs) rest h = let p = or_parts _ _ h in or_from _ _ (any_front (λ s. ref_eq s (ref x)) xs rest p.0) (once_front xs rest p.1)

any_filtered : (test : StateRef → Bool) (P : Held → Bool) (xs : List Held) → list_any test (map ref xs) ≡ false → list_any test (map ref (filter P xs)) ≡ false
any_filtered test P [] h = refl
any_filtered test P (x ∷ xs) h = let p = or_parts _ _ h in elim (P x) as (λ b. list_any test (map ref (cond b (x ∷ filter P xs) (filter P xs))) ≡ false) [ true ↦ or_from _ _ p.0 (any_filtered test P xs p.1) | false ↦ any_filtered test P xs p.1 ]

pub once_filter : (P : Held → Bool) (xs : List Held) → has_repeat ref_eq (map (λ h. h.reference) xs) ≡ false → has_repeat ref_eq (map (λ h. h.reference) (filter P xs)) ≡ false
once_filter P [] h = refl
once_filter P (x ∷ xs) h =
    let p = or_parts _ _ h in
    elim (P x) as (λ b. has_repeat ref_eq (map ref (cond b (x ∷ filter P xs) (filter P xs))) ≡ false)
    [ true ↦ or_from _ _ (any_filtered (λ s. ref_eq s (ref x)) P xs p.0) (once_filter P xs p.1) | false ↦ once_filter P xs p.1 ]

-- ---- the outputs of transactions

any_below : (locks : List Lock) (id : Hash32) (m n : ℕ) (states : List TxState) → m < n → list_any (λ s. ref_eq s (record { id = id; index = m })) (map ref (outputs_from locks id n states)) ≡ false
any_below locks id m n [] h = refl
any_below locks id m n (x ∷ xs) h = or_from _ _ (and_right _ _ (ne_eqb n m (λ k. omega arith))) (any_below locks id m (n + 1) xs (omega arith))

-- no reference of one id stands among those of another
any_apart : (locks : List Lock) (r : StateRef) (id : Hash32) (n : ℕ) (states : List TxState) → hash_eq id r.id ≡ false → list_any (λ s. ref_eq s r) (map ref (outputs_from locks id n states)) ≡ false
any_apart locks r id n [] h = refl
any_apart locks r id n (x ∷ xs) h = or_from _ _ (and_left _ _ h) (any_apart locks r id (n + 1) xs h)

any_both : (test : StateRef → Bool) (xs ys : List Held) → list_any test (map ref xs) ≡ false → list_any test (map ref ys) ≡ false → list_any test (map ref (xs ++ ys)) ≡ false
any_both test [] ys h k = k
any_both test (x ∷ xs) ys h k = let p = or_parts _ _ h in or_from _ _ p.0 (any_both test xs ys p.1 k)

module _ (locks : List Lock) where
  any_outputs : (r : StateRef) (recorded : List (Hash32 × Tx)) → list_any (λ t. hash_eq r.id t.0) recorded ≡ false → list_any (λ s. ref_eq s r) (map ref (all_outputs locks recorded)) ≡ false
  any_outputs r [] h = refl
  any_outputs r (x ∷ xs) h = let p = or_parts _ _ h in any_both (λ s. ref_eq s r) (outputs_from locks x.0 0 x.1.outputs) (all_outputs locks xs) (any_apart locks r x.0 0 x.1.outputs (hash_swapped x.0 r.id ∙ p.0)) (any_outputs r xs p.1)

  once_before : (id : Hash32) (n : ℕ) (states : List TxState) (ys : List Held) → ((m : ℕ) → list_any (λ s. ref_eq s (record { id = id; index = m })) (map ref ys) ≡ false) → has_repeat ref_eq (map ref ys) ≡ false → has_repeat ref_eq (map ref (outputs_from locks id n states ++ ys)) ≡ false
  once_before id n [] ys f h = h
  once_before id n (x ∷ xs) ys f h = or_from _ _ (any_both (λ s. ref_eq s (record { id = id; index = n })) (outputs_from locks id (n + 1) xs) ys (any_below locks id n (n + 1) xs (omega arith)) (f n)) (once_before id (n + 1) xs ys f h)

  once_outputs : (recorded : List (Hash32 × Tx)) → has_repeat (λ u t. hash_eq t.0 u.0) recorded ≡ false → has_repeat ref_eq (map ref (all_outputs locks recorded)) ≡ false
  once_outputs [] h = refl
  once_outputs (x ∷ xs) h = let p = or_parts _ _ h in once_before x.0 0 x.1.outputs (all_outputs locks xs) (λ m. any_outputs (record { id = x.0; index = m }) xs p.0) (once_outputs xs p.1)

pub once_vault : (me : Party) (recorded : List (Hash32 × Tx)) (locks : List Lock) → has_repeat (λ u t. hash_eq t.0 u.0) recorded ≡ false → has_repeat ref_eq (map (λ h. h.reference) (vault_of me recorded locks)) ≡ false
unfolding vault_of
once_vault me recorded locks h = once_filter (λ h. is_relevant me h.state.body && not (is_consumed recorded h.reference)) (all_outputs locks recorded) (once_outputs locks recorded h)
