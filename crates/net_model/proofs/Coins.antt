-- Coins that are reserved are coins of the vault, and none is reserved twice.
use Rattle.std.proofs.Common.{◌≡◌, ℕ, ◌-◌, List, [], ◌∷◌, ◌++◌, Some, None, Bool, true, false, cond, ◌==◌, map, take, drop, option_map, refl, sym, ap, subst, ◌∙◌, append_assoc, take-append-drop}
use Rattle.std.specs.List.{list_all, list_any}
use Rattle.std.proofs.lemmas.Bool.{and_parts, and_from, or_parts, or_from, not-true}
use Rattle.net_base.specs.declared.values.Hash32.{Hash32}
use Rattle.net_base.specs.declared.names.StateRef.{StateRef}
use Rattle.net_base.specs.declared.names.Token.{Token}
use Rattle.net_base.specs.declared.values.Party.{Party}
use Rattle.ledger_types.specs.declared.tx.SignedTx.{SignedTx}
use Rattle.ledger_types.specs.declared.held.Held.{Held}
use Rattle.ledger_types.specs.Names.{hash_eq, ref_eq, has_repeat}
use Rattle.ledger_types.specs.Vaults.{Lock, vault_of, cash_amount, has_coin, is_coin_of, coins_of, least_prefix, reserved}
use Rattle.ledger_types.specs.Stores.{is_stored, untagged}
use Rattle.ledger_types.specs.Signatures.{tx_id}
use Rattle.ledger_types.proofs.Coins.{coins_there}
use Rattle.ledger_types.proofs.Once.{once_filter, once_front, once_vault}
use Rattle.net_model.specs.State.{with_ids}
use Rattle.net_model.specs.Fits.{ids_differ}
use Rattle.net_model.proofs.Basics.{from_some, from_map}

abbrev ref : Held → StateRef
ref h = h.reference

-- ---- fronts and filters

-- the least front is a front
record IsFront {X : Type 0} (xs ys : List X) : Type 0 where
  rest : List X
  is : ys ≡ xs ++ rest

prefix_front : (n : ℕ) (coins list : List Held) → least_prefix n coins ≡ Some list → IsFront list coins
prefix_front n [] list h = (elim (n == 0) as (λ b. cond b (Some []) None ≡ Some list → IsFront list []) [ true ↦ λ k. from_some (λ (l : List Held). IsFront l []) k (record { rest = []; is = refl }) | false ↦ λ k. cc ]) h
prefix_front n (c ∷ cs) list h =
    (elim (n == 0) as (λ b. cond b (Some []) (option_map (λ rest. c ∷ rest) (least_prefix (n - cash_amount c.state.body) cs)) ≡ Some list → IsFront list (c ∷ cs)) [
      | true ↦ λ k. from_some (λ (l : List Held). IsFront l (c ∷ cs)) k (record { rest = c ∷ cs; is = refl })
      | false ↦ λ k. from_map (λ (l : List Held). IsFront l (c ∷ cs)) (λ rest. c ∷ rest) (least_prefix (n - cash_amount c.state.body) cs) list k
          (λ l is. let f = prefix_front (n - cash_amount c.state.body) cs l is in record { rest = f.rest; is = ap (λ (x : List Held). c ∷ x) f.is })
    ]) h

all_front : (test : Held → Bool) (xs rest : List Held) → list_all test (xs ++ rest) ≡ true → list_all test xs ≡ true
all_front test [] rest h = refl
all_front test (x ∷ xs) rest h = let p = and_parts _ _ h in and_from _ _ p.0 (all_front test xs rest p.1)

all_refs : (test : StateRef → Bool) (xs : List Held) → list_all (λ h. test (ref h)) xs ≡ true → list_all test (map ref xs) ≡ true
all_refs test [] h = refl
all_refs test (x ∷ xs) h = let p = and_parts _ _ h in and_from _ _ p.0 (all_refs test xs p.1)

-- ---- the vault names no state twice

noted_none : (id : Hash32) (stored : List SignedTx) → is_stored (with_ids stored) id ≡ false → list_any (λ t. hash_eq id t.0) (untagged (with_ids stored)) ≡ false
noted_none id [] h = refl
noted_none id (x ∷ xs) h = let p = or_parts _ _ h in or_from _ _ p.0 (noted_none id xs p.1)

noted_once : (stored : List SignedTx) → ids_differ stored ≡ true → has_repeat (λ u t. hash_eq t.0 u.0) (untagged (with_ids stored)) ≡ false
noted_once [] h = refl
noted_once (x ∷ xs) h = let p = and_parts _ _ h in or_from _ _ (noted_none (tx_id x.tx) xs (not-true _ p.0)) (noted_once xs p.1)

module _ (me : Party) (stored : List SignedTx) (locks : List Lock) (token : Token) (amount : ℕ) (list : List Held) where
  abbrev Vault : List Held
  Vault = vault_of me (untagged (with_ids stored)) locks

  -- the list is a front of the token's coins
  coins_front : reserved token amount Vault ≡ Some list → IsFront list (coins_of token Vault)
  coins_front is =
      let all = coins_of token Vault in
      let f = prefix_front amount (take 64 all) list is in
      record { rest = f.rest ++ drop 64 all; is = sym (take-append-drop 64 all) ∙ (ap (λ (l : List Held). l ++ drop 64 all) f.is ∙ append_assoc list f.rest (drop 64 all)) }

  pub reserved_coins : reserved token amount Vault ≡ Some list → list_all (has_coin Vault) (map ref list) ≡ true
  reserved_coins is =
      let test = λ (h : Held). has_coin Vault (ref h) in
      let f = coins_front is in
      all_refs (has_coin Vault) list (all_front test list f.rest (subst (λ (l : List Held). list_all test l ≡ true) f.is (coins_there token Vault)))

  pub reserved_once : reserved token amount Vault ≡ Some list → ids_differ stored ≡ true → has_repeat ref_eq (map ref list) ≡ false
  reserved_once is differ =
      let f = coins_front is in
      let coins = once_filter (is_coin_of token) Vault (once_vault me (untagged (with_ids stored)) locks (noted_once stored differ)) in
      once_front list f.rest (subst (λ (l : List Held). has_repeat ref_eq (map ref l) ≡ false) f.is coins)
