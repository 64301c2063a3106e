-- What the contract of time locks asks of a transaction, and so of the notary's clock.
use Rattle.std.proofs.Common.{◌≡◌, ℕ, ◌≤◌, ◌||◌, true, false, List, Option, Some, None, refl, sym, subst, ◌∙◌, arith}
use Rattle.std.specs.Prelude.{is_some}
use Rattle.std.specs.List.{AllByRecursion, Contains}
use Rattle.std.proofs.lemmas.Bool.{and_parts, or_left, or_right, not-false, ltb-false, leb-true}
use Rattle.net_base.specs.declared.values.Moment.{Moment}
use Rattle.net_base.specs.declared.values.Party.{Party}
use Rattle.net_base.proofs.Lists.{all_get}
use Rattle.net_base.proofs.Options.{some_eq}
use Rattle.ledger_types.specs.declared.state.StateData.{StateData}
use Rattle.ledger_types.specs.declared.state.StateData.TheVariants.{TimeLock}
use Rattle.ledger_types.specs.declared.state.TxState.{TxState}
use Rattle.ledger_types.specs.declared.tx.Window.{Window}
use Rattle.ledger_types.specs.declared.tx.Tx.{Tx}
use Rattle.ledger_types.specs.declared.tx.Resolved.{Resolved}
use Rattle.ledger_types.specs.declared.verdict.Verdict.TheVariants as verdict
use Rattle.ledger_types.specs.Notary.{is_inside}
use Rattle.ledger_types.specs.Signatures.{signs_command}
use Rattle.ledger_types.specs.Verdicts.{contract_of, governs, verdict_of}
use Rattle.ledger_types.specs.Windows.{has_begun, is_before_end}
use Rattle.small_contracts.specs.Locks.{locks_say, lock_clauses, is_later, start_of, is_closed, is_forced, is_imposed}
use Rattle.small_contracts.specs.Signing.{signs, is_lock_open, is_lock_make}
use Rattle.net_model.specs.Environment.{Environment}
use Rattle.net_model.specs.State.{NodeState}
use Rattle.net_model.specs.Stores.{IsProven, StoresHold}
use Rattle.ledger_laws.specs.Windows.{IsSignedInWindow, AreSignedInWindows}
use Rattle.contract_laws.specs.Lawful.{Contracts}
use Rattle.contract_laws.specs.Locks.{GovernsLocks, OpenWhenDue}
use Rattle.contract_laws.proofs.Lawful.{all_false, governed, accepts}
use Rattle.contract_laws.proofs.Authority.{not_one, some_signs, by_signer}

-- a window that begins at a lock's end or later, and holds a moment, holds one that is no earlier than the end
held_after : (o : Option Window) (until now : Moment) → is_later (start_of o) until ≡ false → is_inside o now ≡ true → until.0 ≤ now.0
held_after None until now begins inside = absurd cc
held_after (Some w) until now begins inside = by w.from begins (and_parts (has_begun w.from now) (is_before_end w.until now) inside).0
  where
    by : (o : Option Moment) → is_later o until ≡ false → has_begun o now ≡ true → until.0 ≤ now.0
    by None begins begun = absurd cc
    by (Some start) begins begun = omega (arith, ltb-false start.0 until.0 begins, leb-true start.0 now.0 begun)

-- and it is there
is_there : (o : Option Window) (until : Moment) → is_later (start_of o) until ≡ false → is_some o ≡ true
is_there None until begins = absurd cc
is_there (Some w) until begins = refl

module _ (tx : Tx) (states : Resolved) (accepted : locks_say tx states ≡ None) where
  outcomes : AllByRecursion (λ o. o.1 ≡ false) (lock_clauses tx states)
  unfolding locks_say
  outcomes = all_false (lock_clauses tx states) accepted

  module _ (s : TxState) (owner : Party) (until : Moment) (is : s.body ≡ TimeLock owner until) where
    -- the window begins at the end of a lock that is consumed, or later
    begins_after : Contains states.inputs s → is_later (start_of tx.window) until ≡ false
    begins_after has = subst (λ (d : StateData). is_closed tx d ≡ false) is (not_one (λ x. is_closed tx x.body) states.inputs s outcomes.0 has)

    -- and its owner signs a command
    opener_signs : Contains states.inputs s → signs_command tx owner.0 ≡ true
    opener_signs has = some_signs is_lock_open tx owner (not-false (signs is_lock_open tx owner) (subst (λ (d : StateData). is_forced tx d ≡ false) is (not_one (λ x. is_forced tx x.body) states.inputs s outcomes.1.0 has)))

    -- so does that of a lock that is made
    maker_signs : Contains tx.outputs s → signs_command tx owner.0 ≡ true
    maker_signs has = some_signs is_lock_make tx owner (not-false (signs is_lock_make tx owner) (subst (λ (d : StateData). is_imposed tx d ≡ false) is (not_one (λ x. is_imposed tx x.body) tx.outputs s outcomes.1.1.0 has)))

pub open_when_due : {F : Type 0} (contracts : Contracts) → GovernsLocks contracts → (e : Environment F) (lists : List (List (List ℕ))) (net : List (NodeState F)) → e.judge ≡ verdict_of contracts → StoresHold e net → AreSignedInWindows e lists net → OpenWhenDue e lists net
open_when_due contracts locks e lists net judged proven windows p n s stx at there =
    let one : IsProven e s.stored stx = all_get (IsProven e s.stored) s.stored n stx (proven p s at) there in
    let accepted : verdict_of contracts stx.tx one.states ≡ verdict.Accepted = subst (λ judge. judge stx.tx one.states ≡ verdict.Accepted) judged one.accepted in
    let says : (owner : Party) (until : Moment) → (governs one.states.inputs 2 || governs stx.tx.outputs 2) ≡ true → locks_say stx.tx one.states ≡ None = λ owner until has.
    some_eq (sym (locks stx.tx one.states) ∙ accepts contracts stx.tx one.states accepted (TimeLock owner until) has) in
    let takes : (x : TxState) (owner : Party) (until : Moment) → Contains one.states.inputs x → x.body ≡ TimeLock owner until → locks_say stx.tx one.states ≡ None = λ x owner until has is.
    says owner until (or_left _ _ (subst (λ (d : StateData). governs one.states.inputs (contract_of d) ≡ true) is (governed one.states.inputs x has))) in
    let makes : (x : TxState) (owner : Party) (until : Moment) → Contains stx.tx.outputs x → x.body ≡ TimeLock owner until → locks_say stx.tx one.states ≡ None = λ x owner until has is.
    says owner until (or_right _ _ (subst (λ (d : StateData). governs stx.tx.outputs (contract_of d) ≡ true) is (governed stx.tx.outputs x has))) in
    let after : (x : TxState) (owner : Party) (until : Moment) → Contains one.states.inputs x → x.body ≡ TimeLock owner until → is_later (start_of stx.tx.window) until ≡ false = λ x owner until has is.
    begins_after stx.tx one.states (takes x owner until has is) x owner until is has in
    let signed : (x : TxState) (owner : Party) (until : Moment) → Contains one.states.inputs x → x.body ≡ TimeLock owner until → IsSignedInWindow e lists net stx.tx = λ x owner until has is.
    windows p n s stx at there (or_right _ _ (or_right _ _ (is_there stx.tx.window until (after x owner until has is)))) in
    record {
      states = one.states;
      resolves = one.resolves;
      made = λ x owner until has is few. by_signer e.mark stx owner.0 one.signed few (maker_signs stx.tx one.states (makes x owner until has is) x owner until is has);
      opened = λ x owner until has is few. by_signer e.mark stx owner.0 one.signed few (opener_signs stx.tx one.states (takes x owner until has is) x owner until is has);
      signed = signed;
      due = λ x owner until has is limits apart. held_after stx.tx.window until (signed x owner until has is).at.cause.moment (after x owner until has is) ((signed x owner until has is).inside limits apart);
    }
