-- Of transactions of different ids, what they leave unconsumed of a token is what they issued less what they exited.
use Rattle.std.proofs.Common.{◌≡◌, ℕ, ◌+◌, Bool, true, false, cond, List, [], ◌∷◌, Option, Some, None, sum_by, option_map, option_and_then, refl, ap, ◌∙◌, arith}
use Rattle.std.specs.List.{AllByRecursion}
use Rattle.std.proofs.lemmas.List.Sums.{sum_by-cons, sum_by-append}
use Rattle.net_base.specs.declared.names.StateRef.{StateRef}
use Rattle.net_base.specs.declared.names.Token.{Token}
use Rattle.net_base.proofs.Options.{some_eq}
use Rattle.ledger_types.specs.declared.state.TxState.{TxState}
use Rattle.ledger_types.specs.declared.tx.Resolved.{Resolved}
use Rattle.ledger_types.specs.declared.tx.SignedTx.{SignedTx}
use Rattle.ledger_types.specs.declared.held.Held.{Held}
use Rattle.ledger_types.specs.Names.{hash_eq, ref_eq, has_repeat}
use Rattle.ledger_types.specs.Signatures.{tx_id}
use Rattle.ledger_types.specs.Stores.{states_of, resolved_of}
use Rattle.ledger_types.specs.Vaults.{all_outputs, outputs_from}
use Rattle.cash_contract.specs.Clauses.{value_in, value_issued, value_exited}
use Rattle.net_model.specs.State.{with_ids}
use Rattle.contract_laws.specs.Values.{has_cash, KeepsValue}
use Rattle.contract_laws.specs.Supply.{without_tags, outstanding, issued_over, exited_over, issued_in, exited_in, IsAccounted}
use Rattle.contract_laws.proofs.Outputs.{amount, hit, all_left, all_named, made, inputs_of, unconsumed_is, balances_within}

-- ---- one transaction

-- what it resolves to has the states of its inputs
resolved_inputs : (inputs references : Option (List TxState)) (states : Resolved)
    → option_and_then (λ xs. option_map (λ ys. record { inputs = xs; references = ys }) references) inputs ≡ Some states → inputs ≡ Some states.inputs
resolved_inputs None references states is = absurd cc
resolved_inputs (Some xs) None states is = absurd cc
resolved_inputs (Some xs) (Some ys) states is = let same : record { inputs = xs; references = ys } ≡ states = some_eq is in ap (λ (r : Resolved). Some r.inputs) same

module _ (token : Token) (stored : List SignedTx) (once : has_repeat (λ u t. hash_eq t.0 u.0) (without_tags stored) ≡ false) where
  abbrev outputs : List Held
  outputs = all_outputs [] (without_tags stored)

  -- the amount that a reference names
  abbrev worth : StateRef → ℕ
  worth r = sum_by (hit token r) outputs

  abbrev issues : SignedTx → ℕ
  issues stx = issued_over token stx.tx (resolved_of (with_ids stored) stx.tx)

  abbrev exits : SignedTx → ℕ
  exits stx = exited_over token stx.tx (resolved_of (with_ids stored) stx.tx)

  one_kept : (stx : SignedTx) → KeepsValue stored stx.tx → sum_by worth stx.tx.inputs + issues stx ≡ value_in token stx.tx.outputs + exits stx
  one_kept stx kept =
      let named = all_named token (with_ids stored) once stx.tx.inputs kept.states.inputs (resolved_inputs _ (states_of (with_ids stored) stx.tx.references) kept.states kept.resolves) in
      let issue = ap (issued_over token stx.tx) kept.resolves in
      let exit = ap (exited_over token stx.tx) kept.resolves in
      by named issue exit (has_cash stx.tx kept.states) refl
    where
      by : value_in token kept.states.inputs ≡ sum_by worth stx.tx.inputs → issues stx ≡ issued_over token stx.tx (Some kept.states) → exits stx ≡ exited_over token stx.tx (Some kept.states)
          → (b : Bool) → has_cash stx.tx kept.states ≡ b → sum_by worth stx.tx.inputs + issues stx ≡ value_in token stx.tx.outputs + exits stx
      by named issue exit true e =
          let i : issues stx ≡ value_issued token stx.tx = issue ∙ ap (λ b. cond b (value_issued token stx.tx) 0) e in
          let x : exits stx ≡ value_exited token stx.tx = exit ∙ ap (λ b. cond b (value_exited token stx.tx) 0) e in
          omega (arith, named, i, x, kept.conserved e token)
      by named issue exit false e =
          let i : issues stx ≡ 0 = issue ∙ ap (λ b. cond b (value_issued token stx.tx) 0) e in
          let x : exits stx ≡ 0 = exit ∙ ap (λ b. cond b (value_exited token stx.tx) 0) e in
          let none = kept.untouched e token in
          omega (arith, named, i, x, none.0, none.1)

  -- ---- all transactions

  all_kept : (some : List SignedTx) → AllByRecursion (λ stx. KeepsValue stored stx.tx) some
      → sum_by worth (inputs_of (without_tags some)) + sum_by issues some ≡ sum_by (amount token) (all_outputs [] (without_tags some)) + sum_by exits some
  all_kept [] kept = refl
  all_kept (x ∷ xs) kept =
      omega (
        arith,
        sum_by-append worth x.tx.inputs (inputs_of (without_tags xs)),
        sum_by-append (amount token) (outputs_from [] (tx_id x.tx) 0 x.tx.outputs) (all_outputs [] (without_tags xs)),
        made token (tx_id x.tx) 0 x.tx.outputs,
        sum_by-cons issues x xs,
        sum_by-cons exits x xs,
        one_kept x kept.0,
        all_kept xs kept.1,
      )

  pub whole : AllByRecursion (λ stx. KeepsValue stored stx.tx) stored → has_repeat ref_eq (inputs_of (without_tags stored)) ≡ false → outstanding token stored + exited_in token stored ≡ issued_in token stored
  whole kept none_twice =
      omega (arith, unconsumed_is token (without_tags stored), all_left token outputs (inputs_of (without_tags stored)) none_twice, all_kept stored kept)

-- where in addition none of them consumes a state twice
pub accounted : (stored : List SignedTx) → has_repeat (λ u t. hash_eq t.0 u.0) (without_tags stored) ≡ false → AllByRecursion (λ stx. KeepsValue stored stx.tx) stored → has_repeat ref_eq (inputs_of (without_tags stored)) ≡ false → IsAccounted stored
accounted stored once kept none_twice = record {
  whole = λ token. whole token stored once kept none_twice;
  held = λ token parties locks differ. balances_within token (without_tags stored) locks parties differ;
}
