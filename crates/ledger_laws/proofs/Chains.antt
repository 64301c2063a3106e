-- What a node records by its own steps is in order, and so the back-chain of each recorded transaction is recorded.
use Rattle.std.proofs.Common.{◌≡◌, ℕ, List, [], ◌∷◌, ◌++◌, Option, Some, None, Bool, true, false, ◌||◌, option_to_list, refl, sym, ap, subst, append-nil}
use Rattle.std.specs.List.{AllByRecursion, list_all}
use Rattle.std.proofs.lemmas.Bool.{and_parts, and_from}
use Rattle.net_base.specs.declared.values.Hash32.{Hash32}
use Rattle.ledger_types.specs.declared.tx.SignedTx.{SignedTx}
use Rattle.ledger_types.specs.Names.{hash_eq}
use Rattle.ledger_types.specs.Signatures.{tx_id}
use Rattle.ledger_types.specs.Stores.{stored_of, is_stored, may_record}
use Rattle.ledger_types.proofs.Names.{hash_same, hash_exact}
use Rattle.tx_store.specs.Stored.{is_in_order}
use Rattle.tx_store.proofs.Ordered.{in_order_push, back_chain_stored}
use Rattle.net_model.specs.Environment.{Environment}
use Rattle.net_model.specs.State.{NodeState, Record, with_ids, apply_effect, fresh, replay, replay_from}
use Rattle.net_model.specs.Runs.{IsLocal}
use Rattle.net_model.specs.Stores.{IsProven, AreProven}
use Rattle.net_model.proofs.Sound.{AllFit, local_fits, fresh_sound}
use Rattle.ledger_laws.specs.Ledgers.{IsRecorded, IsWhole}

-- ---- in order

ids_push : (stored : List SignedTx) (stx : SignedTx) → with_ids (stored ++ stx ∷ []) ≡ with_ids stored ++ (tx_id stx.tx, stx) ∷ []
ids_push [] stx = refl
ids_push (x ∷ xs) stx = ap (λ (l : List (Hash32 × SignedTx)). (tx_id x.tx, x) ∷ l) (ids_push xs stx)

recorded_in_order : (stored : List SignedTx) (o : Option SignedTx) → is_in_order (with_ids stored) ≡ true → may_record (with_ids stored) o ≡ true → is_in_order (with_ids (stored ++ option_to_list o)) ≡ true
recorded_in_order stored None ordered may = subst (λ (l : List SignedTx). is_in_order (with_ids l) ≡ true) (sym (append-nil stored)) ordered
recorded_in_order stored (Some stx) ordered may =
    subst (λ (l : List (Hash32 × SignedTx)). is_in_order l ≡ true) (sym (ids_push stored stx))
    (in_order_push [] (with_ids stored) (tx_id stx.tx, stx) ordered (and_from _ _ (hash_same (tx_id stx.tx)) may))

module _ {F : Type 0} (e : Environment F) where
  after_in_order : (s : NodeState F) (r : Record F) → is_in_order (with_ids s.stored) ≡ true → may_record (with_ids s.stored) r.effect.change.recorded ≡ true → is_in_order (with_ids (apply_effect s r.cause r.effect).stored) ≡ true
  unfolding apply_effect
  after_in_order s r ordered may = recorded_in_order s.stored r.effect.change.recorded ordered may

  fit_in_order : (p : ℕ) (s : NodeState F) (rs : List (Record F)) → is_in_order (with_ids s.stored) ≡ true → AllFit e p s rs → is_in_order (with_ids (replay_from s rs).stored) ≡ true
  fit_in_order p s [] ordered fits = ordered
  fit_in_order p s (r ∷ rs) ordered fits = fit_in_order p (apply_effect s r.cause r.effect) rs (after_in_order s r ordered fits.0.change.recorded) fits.1

  local_in_order : (p : ℕ) (rs : List (Record F)) → IsLocal e p rs → is_in_order (with_ids (replay rs).stored) ≡ true
  unfolding replay
  local_in_order p rs local = fit_in_order p fresh rs refl (local_fits e p fresh rs (fresh_sound p) local)

  -- ---- what is recorded of an id

  -- among some of the recorded transactions
  record Found (stored some : List SignedTx) (id : Hash32) : Type 0 where
    stx : SignedTx
    there : stored_of (with_ids some) id ≡ Some stx
    named : tx_id stx.tx ≡ id
    proven : IsProven e stored stx

  found : (stored some : List SignedTx) (id : Hash32) → AllByRecursion (IsProven e stored) some → is_stored (with_ids some) id ≡ true → Found stored some id
  found stored [] id all h = cc
  found stored (x ∷ xs) id all h = by (hash_eq id (tx_id x.tx)) refl h (found stored xs id all.1)
    where
      by : (b : Bool) → hash_eq id (tx_id x.tx) ≡ b → b || is_stored (with_ids xs) id ≡ true → (is_stored (with_ids xs) id ≡ true → Found stored xs id) → Found stored (x ∷ xs) id
      by true same h more = record { stx = x; there = rw same refl; named = sym (hash_exact id (tx_id x.tx) same); proven = all.0 }
      by false other h more = let f = more h in record { stx = f.stx; there = rw other f.there; named = f.named; proven = f.proven }

  all_recorded : (stored : List SignedTx) (ids : List Hash32) → AreProven e stored → list_all (is_stored (with_ids stored)) ids ≡ true → AllByRecursion (IsRecorded e stored) ids
  all_recorded stored [] proven h = tt
  all_recorded stored (id ∷ ids) proven h =
      let both = and_parts (is_stored (with_ids stored) id) (list_all (is_stored (with_ids stored)) ids) h in
      let f = found stored stored id proven both.0 in
      (record { stx = f.stx; there = f.there; named = f.named; proven = f.proven }, all_recorded stored ids proven both.1)

  pub in_order_whole : (stored : List SignedTx) → AreProven e stored → is_in_order (with_ids stored) ≡ true → IsWhole e stored
  in_order_whole stored proven ordered = record {
    ordered = ordered;
    proven = proven;
    chains = λ id ids back. all_recorded stored ids proven (back_chain_stored (with_ids stored) ordered (stored_of (with_ids stored) id) id refl ids back);
  }

  pub local_whole : (p : ℕ) (s : NodeState F) → AreProven e s.stored → (rs : List (Record F)) → IsLocal e p rs → replay rs ≡ s → IsWhole e s.stored
  local_whole p s proven rs local is = in_order_whole s.stored proven (subst (λ (x : NodeState F). is_in_order (with_ids x.stored) ≡ true) is (local_in_order p rs local))
