-- What is accepted keeps the rules, and each contract of its states accepts it.
use Rattle.std.proofs.Common.{◌≡◌, ℕ, zero, suc, ◌==◌, ◌||◌, Bool, true, false, cond, List, [], ◌∷◌, Option, Some, None, filter, find, option_map, refl, sym, subst, arith}
use Rattle.std.specs.List.{AllByRecursion, Contains, list_any}
use Rattle.std.proofs.lemmas.Bool.{or_left, or_right}
use Rattle.std.proofs.lemmas.Bool.Decides.{Decides-eqb}
use Rattle.net_base.proofs.Lists.{all_get}
use Rattle.ledger_types.specs.declared.state.StateData.{StateData}
use Rattle.ledger_types.specs.declared.state.StateData.TheVariants.{Cash, TimeLock, Fact, Iou}
use Rattle.ledger_types.specs.declared.state.TxState.{TxState}
use Rattle.ledger_types.specs.declared.tx.Tx.{Tx}
use Rattle.ledger_types.specs.declared.tx.Resolved.{Resolved}
use Rattle.ledger_types.specs.declared.verdict.Verdict.{Verdict}
use Rattle.ledger_types.specs.declared.verdict.Verdict.TheVariants as verdict
use Rattle.ledger_types.specs.Rules.{first_true, first_broken}
use Rattle.ledger_types.specs.Verdicts.{contract_of, governs, contracts_on, goes_on, judged_by, verdict_by, verdict_of}
use Rattle.net_model.specs.Environment.{Environment}
use Rattle.net_model.specs.State.{NodeState}
use Rattle.net_model.specs.Stores.{IsProven, StoresHold}
use Rattle.contract_laws.specs.Lawful.{Contracts, AreLawful}

-- ---- a verdict

-- what is accepted breaks no rule, and the contracts accept it
parted : (broken : Option ℕ) (judged : Verdict) → verdict_by broken judged ≡ verdict.Accepted → (broken ≡ None) × (judged ≡ verdict.Accepted)
parted None judged e = (refl, e)
parted (Some rule) judged e = absurd cc

-- one that is asked accepts, and so do those behind it
goes : (id : ℕ) (answer : Option (Option ℕ)) (next : Verdict) → goes_on id answer next ≡ verdict.Accepted → (answer ≡ Some None) × (next ≡ verdict.Accepted)
goes id None next e = absurd cc
goes id (Some None) next e = (refl, e)
goes id (Some (Some clause)) next e = absurd cc

all_accept : (told : ℕ → Option (Option ℕ)) (ids : List ℕ) → judged_by told ids ≡ verdict.Accepted → AllByRecursion (λ id. told id ≡ Some None) ids
all_accept told [] e = tt
all_accept told (id ∷ ids) e = let both = goes id (told id) (judged_by told ids) e in (both.0, all_accept told ids both.1)

-- where no outcome is true each is false
pub all_false : (outcomes : List (ℕ × Bool)) → first_true outcomes ≡ None → AllByRecursion (λ o. o.1 ≡ false) outcomes
all_false [] e = tt
all_false (o ∷ os) e = by o.1 refl e (all_false os)
  where
    by : (b : Bool) → o.1 ≡ b → option_map (λ p. p.0) (cond b (Some o) (find (λ p. p.1) os)) ≡ None → (first_true os ≡ None → AllByRecursion (λ o. o.1 ≡ false) os) → AllByRecursion (λ o. o.1 ≡ false) (o ∷ os)
    by true is e more = absurd cc
    by false is e more = (is, more e)

-- ---- the contract of a state

-- what passes a test and is among four is among those of the four that pass
pub kept : (P : ℕ → Type 0) (test : ℕ → Bool) (id : ℕ) (ids : List ℕ) → test id ≡ true → list_any (λ x. x == id) ids ≡ true → AllByRecursion P (filter test ids) → P id
kept P test id [] passes among all = absurd cc
kept P test id (x ∷ xs) passes among all = by (x == id) (test x) refl refl among all (λ later rest. kept P test id xs passes later rest)
  where
    by : (same kept : Bool) → (x == id) ≡ same → test x ≡ kept → same || list_any (λ y. y == id) xs ≡ true → AllByRecursion P (cond kept (x ∷ filter test xs) (filter test xs))
        → (list_any (λ y. y == id) xs ≡ true → AllByRecursion P (filter test xs) → P id) → P id
    by true true e t among all more = subst P ((Decides-eqb x id).0 e) all.0
    by true false e t among all more = absurd (let no : test id ≡ false = subst (λ n. test n ≡ false) ((Decides-eqb x id).0 e) t in cc)
    by false true e t among all more = more among all.1
    by false false e t among all more = more among all

numbered : (d : StateData) → list_any (λ x. x == contract_of d) (1 ∷ 2 ∷ 3 ∷ 4 ∷ []) ≡ true
numbered (Cash token amount owner) = refl
numbered (TimeLock owner until) = refl
numbered (Fact issuer name value) = refl
numbered (Iou lender borrower token amount) = refl

pub governed : (states : List TxState) (s : TxState) → Contains states s → governs states (contract_of s.body) ≡ true
governed [] s (k, lt, is) = absurd (omega (arith, lt))
governed (x ∷ xs) s (zero, lt, is) = or_left _ _ (subst (λ (y : TxState). (contract_of y.body == contract_of s.body) ≡ true) (sym is) ((Decides-eqb (contract_of s.body) (contract_of s.body)).1 refl))
governed (x ∷ xs) s (suc k, lt, is) = or_right (contract_of x.body == contract_of s.body) _ (governed xs s (k, omega (arith, lt), is))

-- ---- a recorded transaction

module _ (contracts : Contracts) (tx : Tx) (states : Resolved) (accepted : verdict_of contracts tx states ≡ verdict.Accepted) where
  both : (first_broken tx states ≡ None) × (judged_by (λ id. contracts id tx states) (contracts_on states.inputs tx.outputs) ≡ verdict.Accepted)
  unfolding verdict_of
  both = parted (first_broken tx states) _ accepted

  pub keeps_rules : first_broken tx states ≡ None
  keeps_rules = both.0

  -- a contract that governs one of its states accepts
  pub accepts : (d : StateData) → (governs states.inputs (contract_of d) || governs tx.outputs (contract_of d)) ≡ true → contracts (contract_of d) tx states ≡ Some None
  accepts d governed =
      kept (λ id. contracts id tx states ≡ Some None) (λ id. governs states.inputs id || governs tx.outputs id) (contract_of d) (1 ∷ 2 ∷ 3 ∷ 4 ∷ []) governed (numbered d)
      (all_accept (λ id. contracts id tx states) (contracts_on states.inputs tx.outputs) both.1)

pub lawful : {F : Type 0} (contracts : Contracts) (e : Environment F) (net : List (NodeState F)) → e.judge ≡ verdict_of contracts → StoresHold e net → AreLawful contracts e net
lawful contracts e net judged proven p n s stx at there =
    let one : IsProven e s.stored stx = all_get (IsProven e s.stored) s.stored n stx (proven p s at) there in
    let accepted : verdict_of contracts stx.tx one.states ≡ verdict.Accepted = subst (λ judge. judge stx.tx one.states ≡ verdict.Accepted) judged one.accepted in
    record {
      states = one.states;
      resolves = one.resolves;
      rules = keeps_rules contracts stx.tx one.states accepted;
      consumed = λ x has. accepts contracts stx.tx one.states accepted x.body (or_left _ _ (governed one.states.inputs x has));
      made = λ x has. accepts contracts stx.tx one.states accepted x.body (or_right _ _ (governed stx.tx.outputs x has));
    }
