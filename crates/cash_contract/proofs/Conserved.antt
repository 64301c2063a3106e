-- A transaction that the Cash contract accepts conserves every token, also those that it doesn't speak of.
use Rattle.std.proofs.Common.{◌≡◌, ℕ, ◌+◌, ◌||◌, not, Bool, true, false, List, [], ◌∷◌, ◌++◌, Option, Some, None, cond, filter_map, sum_by, refl, ap, sym, subst, ◌∙◌, arith}
use Rattle.std.specs.List.{list_any, cons_option}
use Rattle.std.proofs.lemmas.Bool.{or_parts, and_parts, eqb-true, not-false}
use Rattle.std.proofs.lemmas.List.Folds.{list_any-append}
use Rattle.std.proofs.lemmas.List.Sums.{sum_by-cons}
use Rattle.std.proofs.lemmas.Slice.Eq.{bytes_eq-Decides}
use Rattle.net_base.specs.declared.names.Token.{Token}
use Rattle.ledger_types.specs.declared.state.StateData.{StateData}
use Rattle.ledger_types.specs.declared.state.StateData.TheVariants.{Cash}
use Rattle.ledger_types.specs.declared.state.TxState.{TxState}
use Rattle.ledger_types.specs.declared.tx.Deed.{Deed}
use Rattle.ledger_types.specs.declared.tx.Deed.TheVariants.{CashIssue, CashExit}
use Rattle.ledger_types.specs.declared.tx.Command.{Command}
use Rattle.ledger_types.specs.declared.tx.Tx.{Tx}
use Rattle.ledger_types.specs.declared.tx.Resolved.{Resolved}
use Rattle.ledger_types.specs.Names.{token_eq}
use Rattle.ledger_types.specs.Rules.{first_true}
use Rattle.cash_contract.specs.Clauses.{cash_says, has_worthless_output, has_void_deed, has_unbacked_issue, has_unsigned_exit, takes_cash, loses_value, is_conserved, tokens_in, tokens_of_states, tokens_of_commands, token_in, token_of, amount_in, issued_by, exited_by, value_in, value_issued, value_exited}
use Rattle.cash_contract.specs.Conserved.{ConservesValue}

-- where none of six is true, the third isn't
third : (a b c d e f : Bool) → first_true ((1, a) ∷ (2, b) ∷ (3, c) ∷ (4, d) ∷ (5, e) ∷ (6, f) ∷ []) ≡ None → c ≡ false
third true b c d e f h = absurd cc
third false true c d e f h = absurd cc
third false false true d e f h = absurd cc
third false false false d e f h = refl

-- equal tokens are one
same_token : (a b : Token) → token_eq a b ≡ true → a ≡ b
same_token a b h =
    let parts = and_parts _ _ h in
    let issuer = eqb-true a.issuer.0 b.issuer.0 parts.0 in
    let code = (bytes_eq-Decides a.code b.code).0 parts.1 in
    λ i. record { issuer = record { 0 = issuer i }; code = code i }

-- of tokens that all pass a test, one that is among them passes it
passes : (test : Token → Bool) (token : Token) (tokens : List Token) → list_any (λ t. token_eq t token) tokens ≡ true → list_any (λ t. not (test t)) tokens ≡ false → test token ≡ true
passes test token [] among all = absurd cc
passes test token (t ∷ tokens) among all =
    let parts = or_parts (not (test t)) (list_any (λ u. not (test u)) tokens) all in
    (elim (token_eq t token) as (λ b. token_eq t token ≡ b → test token ≡ true) [
      | true ↦ λ e. subst (λ (u : Token). test u ≡ true) (same_token t token e) (not-false (test t) parts.0)
      | false ↦ λ e. passes test token tokens (subst (λ (b : Bool). (b || list_any (λ u. token_eq u token) tokens) ≡ true) e among) parts.1
    ]) refl

-- whether the named token is this one
named_is : Token → Option Token → Bool
named_is token None = false
named_is token (Some t) = token_eq t token

split : (token : Token) (named : Option Token) (tokens : List Token) → list_any (λ t. token_eq t token) (cons_option named tokens) ≡ false → (named_is token named ≡ false) × (list_any (λ t. token_eq t token) tokens ≡ false)
unfolding named_is
split token None tokens h = (refl, h)
split token (Some t) tokens h = or_parts (token_eq t token) (list_any (λ u. token_eq u token) tokens) h

-- a sum over items of other tokens is 0
no_value : {X : Type 0} (token : Token) (named : X → Option Token) (amount : X → ℕ) → ((x : X) → named_is token (named x) ≡ false → amount x ≡ 0)
    → (xs : List X) → list_any (λ t. token_eq t token) (filter_map named xs) ≡ false → sum_by amount xs ≡ 0
no_value token named amount none [] h = refl
no_value token named amount none (x ∷ xs) h =
    let parts = split token (named x) (filter_map named xs) h in
    omega (arith, sum_by-cons amount x xs, none x parts.0, no_value token named amount none xs parts.1)

no_amount : (token : Token) (s : StateData) → named_is token (token_in s) ≡ false → amount_in token s ≡ 0
unfolding named_is
no_amount token (Cash other amount owner) h = ap (λ (b : Bool). cond b amount 0) h
no_amount token _ h = refl

no_issue : (token : Token) (d : Deed) → named_is token (token_of d) ≡ false → issued_by token d ≡ 0
unfolding named_is
no_issue token (CashIssue other amount) h = ap (λ (b : Bool). cond b amount 0) h
no_issue token _ h = refl

no_exit : (token : Token) (d : Deed) → named_is token (token_of d) ≡ false → exited_by token d ≡ 0
unfolding named_is
no_exit token (CashExit other amount) h = ap (λ (b : Bool). cond b amount 0) h
no_exit token _ h = refl

-- of a token that a transaction doesn't speak of nothing goes in or out
untouched : (tx : Tx) (resolved : Resolved) (token : Token) → list_any (λ t. token_eq t token) (tokens_in tx resolved) ≡ false
    → value_in token resolved.inputs + value_issued token tx ≡ value_in token tx.outputs + value_exited token tx
untouched tx resolved token h =
    let states = tokens_of_states resolved.inputs ++ tokens_of_states tx.outputs in
    let all = or_parts (list_any (λ t. token_eq t token) states) (list_any (λ t. token_eq t token) (tokens_of_commands tx)) (sym (list_any-append (λ t. token_eq t token) states (tokens_of_commands tx)) ∙ h) in
    let both = or_parts (list_any (λ t. token_eq t token) (tokens_of_states resolved.inputs)) (list_any (λ t. token_eq t token) (tokens_of_states tx.outputs)) (sym (list_any-append (λ t. token_eq t token) (tokens_of_states resolved.inputs) (tokens_of_states tx.outputs)) ∙ all.0) in
    omega (
      arith,
      no_value {X = TxState} token (λ s. token_in s.body) (λ s. amount_in token s.body) (λ s. no_amount token s.body) resolved.inputs both.0,
      no_value {X = TxState} token (λ s. token_in s.body) (λ s. amount_in token s.body) (λ s. no_amount token s.body) tx.outputs both.1,
      no_value {X = Command} token (λ c. token_of c.deed) (λ c. issued_by token c.deed) (λ c. no_issue token c.deed) tx.commands all.1,
      no_value {X = Command} token (λ c. token_of c.deed) (λ c. exited_by token c.deed) (λ c. no_exit token c.deed) tx.commands all.1,
    )

pub conserves : ConservesValue
unfolding cash_says
conserves tx resolved token accepted =
    let lost = third (has_worthless_output tx) (has_void_deed tx) (loses_value tx resolved) (has_unbacked_issue tx) (has_unsigned_exit tx resolved) (takes_cash tx resolved) accepted in
    (elim (list_any (λ t. token_eq t token) (tokens_in tx resolved)) as (λ b. list_any (λ t. token_eq t token) (tokens_in tx resolved) ≡ b → value_in token resolved.inputs + value_issued token tx ≡ value_in token tx.outputs + value_exited token tx) [
      | true ↦ λ e. eqb-true (value_in token resolved.inputs + value_issued token tx) (value_in token tx.outputs + value_exited token tx) (passes (is_conserved tx resolved) token (tokens_in tx resolved) e lost)
      | false ↦ λ e. untouched tx resolved token e
    ]) refl
