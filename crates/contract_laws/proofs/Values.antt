-- A recorded transaction that has Cash is one that the Cash contract accepts, and of any other no value goes in or out.
use Rattle.std.proofs.Common.{◌≡◌, ◌==◌, true, false, List, [], ◌∷◌, None, refl, sym, subst, ◌∙◌, arith}
use Rattle.std.proofs.lemmas.Bool.{or_parts}
use Rattle.std.proofs.lemmas.List.Sums.{sum_by-cons}
use Rattle.net_base.specs.declared.names.Token.{Token}
use Rattle.net_base.proofs.Lists.{all_get}
use Rattle.net_base.proofs.Options.{some_eq}
use Rattle.ledger_types.specs.declared.state.StateData.{StateData}
use Rattle.ledger_types.specs.declared.state.StateData.TheVariants.{Cash, TimeLock, Fact, Iou}
use Rattle.ledger_types.specs.declared.state.TxState.{TxState}
use Rattle.ledger_types.specs.declared.tx.Tx.{Tx}
use Rattle.ledger_types.specs.declared.tx.Resolved.{Resolved}
use Rattle.ledger_types.specs.declared.verdict.Verdict.TheVariants as verdict
use Rattle.ledger_types.specs.Verdicts.{contract_of, governs, verdict_of}
use Rattle.cash_contract.specs.Clauses.{cash_says, amount_in, value_in}
use Rattle.cash_contract.proofs.Conserved.{conserves}
use Rattle.net_model.specs.Environment.{Environment}
use Rattle.net_model.specs.State.{NodeState}
use Rattle.net_model.specs.Stores.{IsProven, StoresHold}
use Rattle.contract_laws.specs.Lawful.{Contracts}
use Rattle.contract_laws.specs.Values.{GovernsCash, has_cash, KeepsAllValue}
use Rattle.contract_laws.proofs.Lawful.{accepts}

-- a state that is not Cash has no amount
no_amount : (token : Token) (d : StateData) → (contract_of d == 1) ≡ false → amount_in token d ≡ 0
no_amount token (Cash other amount owner) e = absurd cc
no_amount token (TimeLock owner until) e = refl
no_amount token (Fact issuer name value) e = refl
no_amount token (Iou lender borrower owed amount) e = refl

no_value : (token : Token) (states : List TxState) → governs states 1 ≡ false → value_in token states ≡ 0
no_value token [] e = refl
no_value token (s ∷ states) e =
    let both = or_parts (contract_of s.body == 1) (governs states 1) e in
    omega (arith, sum_by-cons (λ (x : TxState). amount_in token x.body) s states, no_amount token s.body both.0, no_value token states both.1)

-- some state whose contract is that of number 1
abbrev any_cash : StateData
any_cash = Cash (record { issuer = record { 0 = 0 }; code = [] }) 0 (record { 0 = 0 })

module _ (contracts : Contracts) (cash : GovernsCash contracts) (tx : Tx) (states : Resolved) (accepted : verdict_of contracts tx states ≡ verdict.Accepted) where
  pub cash_accepts : has_cash tx states ≡ true → cash_says tx states ≡ None
  cash_accepts has = some_eq (sym (cash tx states) ∙ accepts contracts tx states accepted any_cash has)

pub keeps_value : {F : Type 0} (contracts : Contracts) → GovernsCash contracts → (e : Environment F) (net : List (NodeState F)) → e.judge ≡ verdict_of contracts → StoresHold e net → KeepsAllValue e net
keeps_value contracts cash e net judged proven p n s stx at there =
    let one : IsProven e s.stored stx = all_get (IsProven e s.stored) s.stored n stx (proven p s at) there in
    let accepted : verdict_of contracts stx.tx one.states ≡ verdict.Accepted = subst (λ judge. judge stx.tx one.states ≡ verdict.Accepted) judged one.accepted in
    record {
      states = one.states;
      resolves = one.resolves;
      accepted = cash_accepts contracts cash stx.tx one.states accepted;
      conserved = λ has token. conserves stx.tx one.states token (cash_accepts contracts cash stx.tx one.states accepted has);
      untouched = λ none token. let both = or_parts (governs one.states.inputs 1) (governs stx.tx.outputs 1) none in (no_value token one.states.inputs both.0, no_value token stx.tx.outputs both.1);
    }
