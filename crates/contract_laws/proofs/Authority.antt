-- What the Cash contract asks to sign has signed.
use Rattle.std.proofs.Common.{◌≡◌, ◌⊎◌, inl, inr, ℕ, zero, suc, ◌+◌, ◌<◌, ◌≤◌, ◌==◌, ◌&&◌, ◌||◌, Bool, true, false, List, [], ◌∷◌, None, refl, subst, arith}
use Rattle.std.specs.List.{AllByRecursion, Contains, list_any, list_all, range_with_len}
use Rattle.std.proofs.lemmas.Bool.{and_parts, or_parts, or_left, not-false, eqb-false}
use Rattle.net_base.specs.declared.values.Hash32.{Hash32}
use Rattle.net_base.specs.declared.values.Party.{Party}
use Rattle.net_base.specs.declared.names.Token.{Token}
use Rattle.net_base.specs.Parties.{has_party}
use Rattle.net_base.proofs.Lists.{all_get, any_contained, any_weaken}
use Rattle.ledger_types.specs.declared.state.StateData.{StateData}
use Rattle.ledger_types.specs.declared.state.StateData.TheVariants.{Cash}
use Rattle.ledger_types.specs.declared.state.TxState.{TxState}
use Rattle.ledger_types.specs.declared.tx.Command.{Command}
use Rattle.ledger_types.specs.declared.tx.Deed.{Deed}
use Rattle.ledger_types.specs.declared.tx.Deed.TheVariants.{CashIssue, CashExit}
use Rattle.ledger_types.specs.declared.tx.Tx.{Tx}
use Rattle.ledger_types.specs.declared.tx.Resolved.{Resolved}
use Rattle.ledger_types.specs.declared.tx.SignedTx.{SignedTx}
use Rattle.ledger_types.specs.declared.verdict.Verdict.TheVariants as verdict
use Rattle.ledger_types.specs.Signatures.{signs_command, needs, has_signed, is_signed}
use Rattle.ledger_types.specs.Verdicts.{contract_of, governs, verdict_of}
use Rattle.cash_contract.specs.Clauses.{cash_says, clauses, is_unbacked, is_unsigned_cash, is_unsigned_exit, is_taken, spends, signs_spending}
use Rattle.small_contracts.specs.Signing.{signs}
use Rattle.net_model.specs.Environment.{Environment}
use Rattle.net_model.specs.State.{NodeState}
use Rattle.net_model.specs.Stores.{IsProven, StoresHold}
use Rattle.contract_laws.specs.Lawful.{Contracts}
use Rattle.contract_laws.specs.Values.{GovernsCash}
use Rattle.contract_laws.specs.Authority.{AreSignedFor}
use Rattle.contract_laws.proofs.Lawful.{all_false, kept, governed}
use Rattle.contract_laws.proofs.Values.{cash_accepts}

-- ---- lists

-- what no item passes, none that is contained does
pub not_one : {X : Type 0} (test : X → Bool) (xs : List X) (x : X) → list_any test xs ≡ false → Contains xs x → test x ≡ false
not_one test [] x none (k, lt, is) = absurd (omega (arith, lt))
not_one test (y ∷ ys) x none (zero, lt, is) = subst (λ z. test z ≡ false) is (or_parts (test y) (list_any test ys) none).0
not_one test (y ∷ ys) x none (suc k, lt, is) = not_one test ys x (or_parts (test y) (list_any test ys) none).1 (k, omega (arith, lt), is)

each_passes : {X : Type 0} (test : X → Bool) (xs : List X) → list_all test xs ≡ true → AllByRecursion (λ x. test x ≡ true) xs
each_passes test [] all = tt
each_passes test (x ∷ xs) all = let both = and_parts (test x) (list_all test xs) all in (both.0, each_passes test xs both.1)

in_range : (i n p : ℕ) → i ≤ p → p < i + n → list_any (λ x. x == p) (range_with_len i n) ≡ true
in_range i zero p low high = absurd (omega (arith, low, high))
in_range i (suc n) p low high = by (i == p) refl (λ other. in_range (i + 1) n p (omega (arith, low, other)) (omega (arith, high)))
  where
    by : (b : Bool) → (i == p) ≡ b → ((i ≡ p → ⊥) → list_any (λ x. x == p) (range_with_len (i + 1) n) ≡ true) → (b || list_any (λ x. x == p) (range_with_len (i + 1) n)) ≡ true
    by true e rest = refl
    by false e rest = rest (eqb-false i p e)

-- ---- who has to sign, where the Cash contract accepts

module _ (tx : Tx) (states : Resolved) (accepted : cash_says tx states ≡ None) where
  outcomes : AllByRecursion (λ o. o.1 ≡ false) (clauses tx states)
  unfolding cash_says
  outcomes = all_false (clauses tx states) accepted

  -- the issuer signs the command that issues or exits
  issuer_signs : (c : Command) (token : Token) (amount : ℕ) → Contains tx.commands c → (c.deed ≡ CashIssue token amount) ⊎ (c.deed ≡ CashExit token amount) → has_party c.signers token.issuer.0 ≡ true
  issuer_signs c token amount has (inl is) =
      not-false (has_party c.signers token.issuer.0) (subst (λ (d : Deed). is_unbacked c.signers d ≡ false) is (not_one (λ x. is_unbacked x.signers x.deed) tx.commands c outcomes.1.1.1.0 has))
  issuer_signs c token amount has (inr is) =
      let backed = subst (λ (d : Deed). is_unsigned_exit states.inputs c.signers d ≡ false) is (not_one (λ x. is_unsigned_exit states.inputs x.signers x.deed) tx.commands c outcomes.1.1.1.1.0 has) in
      not-false (has_party c.signers token.issuer.0) (or_parts _ (list_any (λ s. is_unsigned_cash token c.signers s.body) states.inputs) backed).0

  -- the owner signs some command
  owner_signs : (s : TxState) (token : Token) (amount : ℕ) (owner : Party) → Contains states.inputs s → s.body ≡ Cash token amount owner → signs_command tx owner.0 ≡ true
  owner_signs s token amount owner has is =
      let spent : signs_spending tx token owner ≡ true =
      not-false (signs_spending tx token owner) (subst (λ (d : StateData). is_taken tx d ≡ false) is (not_one (λ x. is_taken tx x.body) states.inputs s outcomes.1.1.1.1.1.0 has)) in
      any_weaken (λ c. spends token c.deed && has_party c.signers owner.0) (λ c. has_party c.signers owner.0) tx.commands
      (λ c both. (and_parts (spends token c.deed) (has_party c.signers owner.0) both).1) spent

-- ---- who has to sign has signed

-- who signs a command of a kind signs one
pub some_signs : (test : Deed → Bool) (tx : Tx) (p : Party) → signs test tx p ≡ true → signs_command tx p.0 ≡ true
some_signs test tx p signed = any_weaken (λ c. test c.deed && has_party c.signers p.0) (λ c. has_party c.signers p.0) tx.commands (λ c both. (and_parts (test c.deed) (has_party c.signers p.0) both).1) signed

pub by_signer : (mark : Party → Hash32 → Hash32) (stx : SignedTx) (p : ℕ) → is_signed mark stx ≡ true → p < 16 → signs_command stx.tx p ≡ true → has_signed mark stx p ≡ true
by_signer mark stx p signed few signs =
    kept (λ q. has_signed mark stx q ≡ true) (needs stx.tx) p (range_with_len 0 16) (or_left (signs_command stx.tx p) _ signs) (in_range 0 16 p (omega arith) (omega (arith, few)))
    (each_passes (has_signed mark stx) _ signed)

-- ---- a recorded transaction

pub signed_for : {F : Type 0} (contracts : Contracts) → GovernsCash contracts → (e : Environment F) (net : List (NodeState F)) → e.judge ≡ verdict_of contracts → StoresHold e net → AreSignedFor e net
signed_for contracts cash e net judged proven p n s stx at there =
    let one : IsProven e s.stored stx = all_get (IsProven e s.stored) s.stored n stx (proven p s at) there in
    let accepted : verdict_of contracts stx.tx one.states ≡ verdict.Accepted = subst (λ judge. judge stx.tx one.states ≡ verdict.Accepted) judged one.accepted in
    let says = cash_accepts contracts cash stx.tx one.states accepted in
    record {
      states = one.states;
      resolves = one.resolves;
      issuer = λ c token amount has among deed few. by_signer e.mark stx token.issuer.0 one.signed few
          (any_contained (λ x. has_party x.signers token.issuer.0) stx.tx.commands c (issuer_signs stx.tx one.states (says has) c token amount among deed) among);
      owner = λ x token amount owner has is few. by_signer e.mark stx owner.0 one.signed few
          (owner_signs stx.tx one.states (says (or_left _ _ (is_cash one.states.inputs x token amount owner has is))) x token amount owner has is);
    }
  where
    is_cash : (states : List TxState) (x : TxState) (token : Token) (amount : ℕ) (owner : Party) → Contains states x → x.body ≡ Cash token amount owner → governs states 1 ≡ true
    is_cash states x token amount owner has is = subst (λ (d : StateData). governs states (contract_of d) ≡ true) is (governed states x has)
