-- Asking contracts goes past one of another number, and past one that accepts.
use Rattle.std.proofs.Common.{◌≡◌, ℕ, ◌≤◌, List, [], ◌∷◌, length, drop, get_or, Option, Some, None, Bool, true, false, ◌<◌, ◌+◌, filter, unwrap_or, cond, suc, refl, add-one, arith}
use Rattle.std.proofs.Math.Seq.{drop-cons}
use Rattle.std.proofs.lemmas.Bool.Decides.{nat_tests}
use Rattle.ledger_types.specs.declared.tx.Tx.{Tx}
use Rattle.ledger_types.specs.declared.tx.Resolved.{Resolved}
use Rattle.ledger_types.specs.Verdicts.{told_by, judged_by, goes_on}
use Rattle.ledger_types.specs.declared.verdict.Verdict.{Verdict}
use Rattle.contract_verify.specs.Refusals.{refusal_of}

-- one of another number is passed over
pub skip_one : {C : Type 0} (number : C → ℕ) (says : C → Tx → Resolved → Option ℕ) (xs : List C) (d : C) (id : ℕ) (tx : Tx) (resolved : Resolved) → 1 ≤ length xs → (number (get_or xs 0 d) ≡ id → ⊥)
    → told_by number says (drop 1 xs) id tx resolved ≡ told_by number says xs id tx resolved
skip_one number says [] d id tx resolved some_one other = absurd (omega arith)
skip_one number says (c ∷ cs) d id tx resolved some_one other = grind (arith, nat_tests)

asked : (id : ℕ) (answer : Option (Option ℕ)) (next : Verdict) → goes_on id answer next ≡ unwrap_or (refusal_of true id answer) next
asked id None next = refl
asked id (Some None) next = refl
asked id (Some (Some clause)) next = refl

judged_first : (told : ℕ → Option (Option ℕ)) (on : ℕ → Bool) (id : ℕ) (ids : List ℕ) → judged_by told (filter on (id ∷ ids)) ≡ unwrap_or (refusal_of (on id) id (told id)) (judged_by told (filter on ids))
judged_first told on id ids =
    elim (on id) as (λ b. judged_by told (cond b (id ∷ filter on ids) (filter on ids)) ≡ unwrap_or (refusal_of b id (told id)) (judged_by told (filter on ids))) [
      | true ↦ asked id (told id) (judged_by told (filter on ids))
      | false ↦ refl
    ]

-- what the contracts say from a place on, by the one there and those behind it
pub judged_at : (told : ℕ → Option (Option ℕ)) (on : ℕ → Bool) (ids : List ℕ) (i d : ℕ) → i < length ids
    → judged_by told (filter on (drop i ids)) ≡ unwrap_or (refusal_of (on (get_or ids i d)) (get_or ids i d) (told (get_or ids i d))) (judged_by told (filter on (drop (i + 1) ids)))
judged_at told on ids i d less = rw (drop-cons ids i d less, add-one i) (judged_first told on (get_or ids i d) (drop (suc i) ids))
