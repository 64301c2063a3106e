-- What the contracts of facts and debts ask of a transaction.
use Rattle.std.proofs.Common.{◌≡◌, ⊎_elim, ℕ, zero, suc, ◌+◌, ◌<◌, ◌≤◌, ◌==◌, ◌&&◌, ◌||◌, not, Bool, true, false, List, [], ◌∷◌, Some, None, slice_get, refl, sym, ap, subst, ◌∙◌, arith}
use Rattle.std.specs.List.{AllByRecursion, Contains, list_any, enumerate_from}
use Rattle.std.proofs.lemmas.Bool.{and_parts, and_from, and_cases, both_ways, or_parts, or_left, or_right, not-false, eqb-false, ltb-false}
use Rattle.std.proofs.lemmas.Bool.Decides.{Decides-eqb}
use Rattle.net_base.specs.declared.values.Party.{Party}
use Rattle.net_base.specs.declared.names.Token.{Token}
use Rattle.net_base.specs.Parties.{has_party}
use Rattle.net_base.proofs.Lists.{all_get, any_weaken}
use Rattle.net_base.proofs.Options.{some_eq}
use Rattle.ledger_types.specs.declared.state.StateData.{StateData}
use Rattle.ledger_types.specs.declared.state.StateData.TheVariants.{Fact, Iou}
use Rattle.ledger_types.specs.declared.state.TxState.{TxState}
use Rattle.ledger_types.specs.declared.tx.Tx.{Tx}
use Rattle.ledger_types.specs.declared.tx.Resolved.{Resolved}
use Rattle.ledger_types.specs.declared.verdict.Verdict.TheVariants as verdict
use Rattle.ledger_types.specs.Names.{party_eq}
use Rattle.ledger_types.specs.Signatures.{signs_command}
use Rattle.ledger_types.specs.Verdicts.{contract_of, governs, verdict_of}
use Rattle.small_contracts.specs.Facts.{facts_say, fact_clauses, is_unclaimed, is_replaced, same_fact, is_told_twice}
use Rattle.small_contracts.specs.Ious.{ious_say, iou_clauses, is_senseless, is_disputed, is_forgotten, is_unpaid, paid_in, owed_in}
use Rattle.small_contracts.specs.Signing.{signs, both_sign, is_fact_output, is_fact_change, is_iou_make, is_iou_settle}
use Rattle.net_model.specs.Environment.{Environment}
use Rattle.net_model.specs.State.{NodeState}
use Rattle.net_model.specs.Stores.{IsProven, StoresHold}
use Rattle.contract_laws.specs.Lawful.{Contracts}
use Rattle.contract_laws.specs.Deals.{GovernsFacts, KeepsAllFacts, GovernsDebts, KeepsAllDebts}
use Rattle.contract_laws.proofs.Lawful.{all_false, governed, accepts}
use Rattle.contract_laws.proofs.Authority.{not_one, some_signs, by_signer}
use Rattle.contract_laws.proofs.Spent.{contained}

-- ---- lists

-- each item with its place
enumerated : {X : Type 0} (k : ℕ) (xs : List X) (i : ℕ) (x : X) → slice_get xs i ≡ Some x → slice_get (enumerate_from k xs) i ≡ Some (k + i, x)
enumerated k [] i x h = absurd cc
enumerated {X} k (y ∷ ys) zero x h = let e : k ≡ k + 0 = omega arith in ap (λ (n : ℕ). Some (n, y)) e ∙ ap (λ (z : X). Some (k + 0, z)) (some_eq h)
enumerated {X} k (y ∷ ys) (suc i) x h = let e : k + 1 + i ≡ k + suc i = omega arith in enumerated (k + 1) ys i x h ∙ ap (λ (n : ℕ). Some (n, x)) e

-- what is so of no item is not so of one at a place, nor of that with its place
none_at : {X : Type 0} (test : ℕ × X → Bool) (xs : List X) (i : ℕ) (x : X) → list_any test (enumerate_from 0 xs) ≡ false → slice_get xs i ≡ Some x → test (0 + i, x) ≡ false
none_at test xs i x none at = not_one test (enumerate_from 0 xs) (0 + i, x) none (contained (enumerate_from 0 xs) i (0 + i, x) (enumerated 0 xs i x at))

-- ---- facts

same_name : (issuer : Party) (name one other : ℕ) → same_fact (Fact issuer name one) (Fact issuer name other) ≡ true
same_name issuer name one other = and_from (issuer.0 == issuer.0) (name == name) ((Decides-eqb issuer.0 issuer.0).1 refl) ((Decides-eqb name name).1 refl)

module _ (tx : Tx) (states : Resolved) (accepted : facts_say tx states ≡ None) where
  fact_outcomes : AllByRecursion (λ o. o.1 ≡ false) (fact_clauses tx states)
  unfolding facts_say
  fact_outcomes = all_false (fact_clauses tx states) accepted

  maker_signs : (s : TxState) (issuer : Party) (name value : ℕ) → Contains tx.outputs s → s.body ≡ Fact issuer name value → signs_command tx issuer.0 ≡ true
  maker_signs s issuer name value has is =
      some_signs is_fact_output tx issuer (not-false (signs is_fact_output tx issuer) (subst (λ (d : StateData). is_unclaimed tx d ≡ false) is (not_one (λ x. is_unclaimed tx x.body) tx.outputs s fact_outcomes.0 has)))

  changer_signs : (s : TxState) (issuer : Party) (name value : ℕ) → Contains states.inputs s → s.body ≡ Fact issuer name value → signs_command tx issuer.0 ≡ true
  changer_signs s issuer name value has is =
      some_signs is_fact_change tx issuer (not-false (signs is_fact_change tx issuer) (subst (λ (d : StateData). is_replaced tx d ≡ false) is (not_one (λ x. is_replaced tx x.body) states.inputs s fact_outcomes.1.0 has)))

  told_once : (i j : ℕ) (s t : TxState) (issuer : Party) (name one other : ℕ) → slice_get tx.outputs i ≡ Some s → slice_get tx.outputs j ≡ Some t → s.body ≡ Fact issuer name one → t.body ≡ Fact issuer name other → i ≡ j
  told_once i j s t issuer name one other at_i at_j is_s is_t =
      let second = none_at (λ p. is_told_twice tx.outputs p) tx.outputs j t fact_outcomes.1.1.0 at_j in
      let both = none_at (λ q. not (q.0 == 0 + j) && same_fact q.1.body t.body) tx.outputs i s second at_i in
      let same : same_fact s.body t.body ≡ true = subst (λ (d : StateData). same_fact d t.body ≡ true) (sym is_s) (subst (λ (d : StateData). same_fact (Fact issuer name one) d ≡ true) (sym is_t) (same_name issuer name one other)) in
      let places : 0 + i ≡ 0 + j = (Decides-eqb (0 + i) (0 + j)).0 (not-false (0 + i == 0 + j) (⊎_elim (λ k. k) (λ k. absurd (both_ways (same_fact s.body t.body) k same)) (and_cases (not (0 + i == 0 + j)) (same_fact s.body t.body) both))) in
      omega (arith, places)

pub keep_facts : {F : Type 0} (contracts : Contracts) → GovernsFacts contracts → (e : Environment F) (net : List (NodeState F)) → e.judge ≡ verdict_of contracts → StoresHold e net → KeepsAllFacts e net
keep_facts contracts facts e net judged proven p n s stx at there =
    let one : IsProven e s.stored stx = all_get (IsProven e s.stored) s.stored n stx (proven p s at) there in
    let accepted : verdict_of contracts stx.tx one.states ≡ verdict.Accepted = subst (λ judge. judge stx.tx one.states ≡ verdict.Accepted) judged one.accepted in
    let says : (issuer : Party) (name value : ℕ) → (governs one.states.inputs 3 || governs stx.tx.outputs 3) ≡ true → facts_say stx.tx one.states ≡ None = λ issuer name value has.
    some_eq (sym (facts stx.tx one.states) ∙ accepts contracts stx.tx one.states accepted (Fact issuer name value) has) in
    let makes : (x : TxState) (issuer : Party) (name value : ℕ) → Contains stx.tx.outputs x → x.body ≡ Fact issuer name value → facts_say stx.tx one.states ≡ None = λ x issuer name value has is.
    says issuer name value (or_right _ _ (subst (λ (d : StateData). governs stx.tx.outputs (contract_of d) ≡ true) is (governed stx.tx.outputs x has))) in
    record {
      states = one.states;
      resolves = one.resolves;
      made = λ x issuer name value has is few. by_signer e.mark stx issuer.0 one.signed few (maker_signs stx.tx one.states (makes x issuer name value has is) x issuer name value has is);
      consumed = λ x issuer name value has is few. by_signer e.mark stx issuer.0 one.signed few
          (changer_signs stx.tx one.states (says issuer name value (or_left _ _ (subst (λ (d : StateData). governs one.states.inputs (contract_of d) ≡ true) is (governed one.states.inputs x has)))) x issuer name value has is);
      once = λ i j x y issuer name a b at_i at_j is_x is_y. told_once stx.tx one.states (makes x issuer name a (contained stx.tx.outputs i x at_i) is_x) i j x y issuer name a b at_i at_j is_x is_y;
    }

-- ---- debts

module _ (tx : Tx) (states : Resolved) (accepted : ious_say tx states ≡ None) where
  iou_outcomes : AllByRecursion (λ o. o.1 ≡ false) (iou_clauses tx states)
  unfolding ious_say
  iou_outcomes = all_false (iou_clauses tx states) accepted

  module _ (s : TxState) (lender borrower : Party) (token : Token) (amount : ℕ) (is : s.body ≡ Iou lender borrower token amount) where
    has_sense : Contains tx.outputs s → (0 < amount) × (lender ≡ borrower → ⊥)
    has_sense has =
        let both = or_parts (amount == 0) (party_eq lender borrower) (subst (λ (d : StateData). is_senseless d ≡ false) is (not_one (λ x. is_senseless x.body) tx.outputs s iou_outcomes.0 has)) in
        let some = eqb-false amount 0 both.0 in
        (omega (arith, some), λ same. eqb-false lender.0 borrower.0 both.1 (ap (λ (p : Party). p.0) same))

    agreed : Contains tx.outputs s → both_sign is_iou_make tx lender borrower ≡ true
    agreed has = not-false (both_sign is_iou_make tx lender borrower) (subst (λ (d : StateData). is_disputed tx d ≡ false) is (not_one (λ x. is_disputed tx x.body) tx.outputs s iou_outcomes.1.0 has))

    lender_signs : Contains tx.outputs s → signs_command tx lender.0 ≡ true
    lender_signs has =
        any_weaken (λ c. is_iou_make c.deed && (has_party c.signers lender.0 && has_party c.signers borrower.0)) (λ c. has_party c.signers lender.0) tx.commands
        (λ c all. (and_parts (has_party c.signers lender.0) (has_party c.signers borrower.0) (and_parts (is_iou_make c.deed) _ all).1).0) (agreed has)

    borrower_signs : Contains tx.outputs s → signs_command tx borrower.0 ≡ true
    borrower_signs has =
        any_weaken (λ c. is_iou_make c.deed && (has_party c.signers lender.0 && has_party c.signers borrower.0)) (λ c. has_party c.signers borrower.0) tx.commands
        (λ c all. (and_parts (has_party c.signers lender.0) (has_party c.signers borrower.0) (and_parts (is_iou_make c.deed) _ all).1).1) (agreed has)

    settler_signs : Contains states.inputs s → signs_command tx lender.0 ≡ true
    settler_signs has =
        some_signs is_iou_settle tx lender (not-false (signs is_iou_settle tx lender) (subst (λ (d : StateData). is_forgotten tx d ≡ false) is (not_one (λ x. is_forgotten tx x.body) states.inputs s iou_outcomes.1.1.0 has)))

    covers : Contains states.inputs s → owed_in lender token states.inputs ≤ paid_in lender token tx.outputs
    covers has = ltb-false (paid_in lender token tx.outputs) (owed_in lender token states.inputs) (subst (λ (d : StateData). is_unpaid tx states d ≡ false) is (not_one (λ x. is_unpaid tx states x.body) states.inputs s iou_outcomes.1.1.1.0 has))

pub keep_debts : {F : Type 0} (contracts : Contracts) → GovernsDebts contracts → (e : Environment F) (net : List (NodeState F)) → e.judge ≡ verdict_of contracts → StoresHold e net → KeepsAllDebts e net
keep_debts contracts ious e net judged proven p n s stx at there =
    let one : IsProven e s.stored stx = all_get (IsProven e s.stored) s.stored n stx (proven p s at) there in
    let accepted : verdict_of contracts stx.tx one.states ≡ verdict.Accepted = subst (λ judge. judge stx.tx one.states ≡ verdict.Accepted) judged one.accepted in
    let says : (lender borrower : Party) (token : Token) (amount : ℕ) → (governs one.states.inputs 4 || governs stx.tx.outputs 4) ≡ true → ious_say stx.tx one.states ≡ None = λ lender borrower token amount has.
    some_eq (sym (ious stx.tx one.states) ∙ accepts contracts stx.tx one.states accepted (Iou lender borrower token amount) has) in
    let makes : (x : TxState) (l b : Party) (t : Token) (a : ℕ) → Contains stx.tx.outputs x → x.body ≡ Iou l b t a → ious_say stx.tx one.states ≡ None = λ x l b t a has is.
    says l b t a (or_right _ _ (subst (λ (d : StateData). governs stx.tx.outputs (contract_of d) ≡ true) is (governed stx.tx.outputs x has))) in
    let takes : (x : TxState) (l b : Party) (t : Token) (a : ℕ) → Contains one.states.inputs x → x.body ≡ Iou l b t a → ious_say stx.tx one.states ≡ None = λ x l b t a has is.
    says l b t a (or_left _ _ (subst (λ (d : StateData). governs one.states.inputs (contract_of d) ≡ true) is (governed one.states.inputs x has))) in
    record {
      states = one.states;
      resolves = one.resolves;
      sensible = λ x l b t a has is. has_sense stx.tx one.states (makes x l b t a has is) x l b t a is has;
      asked = λ x l b t a has is. agreed stx.tx one.states (makes x l b t a has is) x l b t a is has;
      lent = λ x l b t a has is few. by_signer e.mark stx l.0 one.signed few (lender_signs stx.tx one.states (makes x l b t a has is) x l b t a is has);
      borrowed = λ x l b t a has is few. by_signer e.mark stx b.0 one.signed few (borrower_signs stx.tx one.states (makes x l b t a has is) x l b t a is has);
      settled = λ x l b t a has is few. by_signer e.mark stx l.0 one.signed few (settler_signs stx.tx one.states (takes x l b t a has is) x l b t a is has);
      covered = λ x l b t a has is. covers stx.tx one.states (takes x l b t a has is) x l b t a is has;
    }
