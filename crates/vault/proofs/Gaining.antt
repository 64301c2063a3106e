-- Which coins there are once a transaction is noted.
use Rattle.std.proofs.Common.{◌≡◌, Bool, true, false, cond, not, is_none, ◌&&◌, ◌||◌, List, [], ◌∷◌, None, filter, refl, sym, ◌∙◌, ap}
use Rattle.std.specs.List.{list_any}
use Rattle.std.proofs.lemmas.List.Folds.{list_any-append}
use Rattle.net_base.specs.declared.values.Hash32.{Hash32}
use Rattle.net_base.specs.declared.values.Party.{Party}
use Rattle.net_base.specs.declared.names.StateRef.{StateRef}
use Rattle.ledger_types.specs.declared.tx.Tx.{Tx}
use Rattle.ledger_types.specs.declared.held.Held.{Held}
use Rattle.ledger_types.specs.Names.{ref_eq, has_ref}
use Rattle.ledger_types.specs.Vaults.{is_relevant, is_cash, is_coin, has_coin, outputs_from}
use Rattle.ledger_types.proofs.Names.{ref_exact}
use Rattle.vault.specs.Holdings.{held_after, gained, gains}
use Rattle.vault.proofs.Passing.{true_or_false}

-- what is found among those that pass a test is found among all by both tests
any_filter : {X : Type 0} (p q : X → Bool) (xs : List X) → list_any q (filter p xs) ≡ list_any (λ x. p x && q x) xs
any_filter p q [] = refl
any_filter {X} p q (x ∷ xs) = by (p x) (any_filter p q xs)
  where
    by : (b : Bool) → list_any q (filter p xs) ≡ list_any (λ y. p y && q y) xs → list_any q (cond b (x ∷ filter p xs) (filter p xs)) ≡ ((b && q x) || list_any (λ y. p y && q y) xs)
    by true rest = ap (λ b. q x || b) rest
    by false rest = rest

-- one test of an output, in two orders
pub gains_one : (me : Party) (r : StateRef) (h : Held) → h.locked ≡ None → ((is_relevant me h.state.body && (is_cash h.state.body && is_none h.state.encumbrance)) && ref_eq h.reference r) ≡ gains me r h
gains_one me r h free = by (is_relevant me h.state.body) (is_cash h.state.body) (is_none h.state.encumbrance) (ref_eq h.reference r) ∙ ap (λ o. is_relevant me h.state.body && (ref_eq h.reference r && (is_cash h.state.body && (is_none h.state.encumbrance && is_none o)))) (sym free)
  where
    by : (a b c d : Bool) → ((a && (b && c)) && d) ≡ (a && (d && (b && (c && true))))
    by true true true true = refl
    by true true true false = refl
    by true true false true = refl
    by true true false false = refl
    by true false c true = refl
    by true false c false = refl
    by false b c d = refl

-- a coin that isn't consumed is one of those that stay
kept_coin : (inputs : List StateRef) (r : StateRef) (states : List Held) → has_coin (filter (λ h. not (has_ref h.reference inputs)) states) r ≡ (not (has_ref r inputs) && has_coin states r)
kept_coin inputs r [] = by (has_ref r inputs)
  where
    by : (b : Bool) → false ≡ (not b && false)
    by true = refl
    by false = refl
kept_coin inputs r (h ∷ states) = by (kept_coin inputs r states)
  where
    left : List Held
    left = filter (λ h. not (has_ref h.reference inputs)) states

    split : (b : Bool) → has_coin (cond b (h ∷ left) left) r ≡ ((b && (ref_eq h.reference r && is_coin h)) || has_coin left r)
    split true = refl
    split false = refl

    both : (n c x : Bool) → ((n && c) || (n && x)) ≡ (n && (c || x))
    both true c x = refl
    both false c x = refl

    none : (n m x : Bool) → ((n && false) || (m && x)) ≡ (m && x)
    none true m x = refl
    none false m x = refl

    by : has_coin left r ≡ (not (has_ref r inputs) && has_coin states r) → has_coin (filter (λ h. not (has_ref h.reference inputs)) (h ∷ states)) r ≡ (not (has_ref r inputs) && has_coin (h ∷ states) r)
    by rest = true_or_false (ref_eq h.reference r) (λ e.
        let same : h.reference ≡ r = ref_exact h.reference r e in
        split (not (has_ref h.reference inputs))
        ∙ ap (λ b. (not (has_ref h.reference inputs) && (b && is_coin h)) || has_coin left r) e
        ∙ ap (λ (x : StateRef). (not (has_ref x inputs) && is_coin h) || has_coin left r) same
        ∙ ap (λ b. (not (has_ref r inputs) && is_coin h) || b) rest
        ∙ both (not (has_ref r inputs)) (is_coin h) (has_coin states r)
        ∙ ap (λ b. not (has_ref r inputs) && ((b && is_coin h) || has_coin states r)) (sym e))
        (λ e.
        split (not (has_ref h.reference inputs))
        ∙ ap (λ b. (not (has_ref h.reference inputs) && (b && is_coin h)) || has_coin left r) e
        ∙ ap (λ b. (not (has_ref h.reference inputs) && false) || b) rest
        ∙ none (not (has_ref h.reference inputs)) (not (has_ref r inputs)) (has_coin states r)
        ∙ ap (λ b. not (has_ref r inputs) && ((b && is_coin h) || has_coin states r)) (sym e))

-- a coin behind a transaction is one that stays, or one of its outputs
pub coin_behind : (me : Party) (id : Hash32) (tx : Tx) (states : List Held) (r : StateRef) → has_coin (held_after me id tx states) r ≡ ((not (has_ref r tx.inputs) && has_coin states r) || list_any (gains me r) (outputs_from [] id 0 tx.outputs))
coin_behind me id tx states r =
    list_any-append (λ h. ref_eq h.reference r && is_coin h) (filter (λ h. not (has_ref h.reference tx.inputs)) states) (gained me id tx)
    ∙ ap (λ b. b || has_coin (gained me id tx) r) (kept_coin tx.inputs r states)
    ∙ ap (λ b. (not (has_ref r tx.inputs) && has_coin states r) || b) (any_filter (λ h. is_relevant me h.state.body) (λ h. ref_eq h.reference r && is_coin h) (outputs_from [] id 0 tx.outputs))
