-- The one consumer of an input of a recorded transaction is that transaction, where no digests collide.
use Rattle.std.proofs.Common.{◌≡◌, ℕ, not, List, [], ◌∷◌, map, Option, Some, Bool, true, false, cond, ◌||◌, find, is_some, option_to_list, slice_get, refl, sym, ap, subst, ◌∙◌, arith, true≢false}
use Rattle.std.specs.List.{AllByRecursion, Contains, list_any}
use Rattle.std.proofs.lemmas.Bool.{or_left}
use Rattle.net_base.specs.declared.values.Hash32.{Hash32}
use Rattle.net_base.specs.declared.names.StateRef.{StateRef}
use Rattle.net_base.specs.Names.{IsStateRef}
use Rattle.net_base.proofs.Lists.{all_find, all_get, any_contained}
use Rattle.ledger_types.specs.declared.tx.Tx.{Tx}
use Rattle.ledger_types.specs.declared.tx.SignedTx.{SignedTx}
use Rattle.ledger_types.specs.declared.torn.TornTx.{TornTx}
use Rattle.ledger_types.specs.declared.notary.Entry.{Entry}
use Rattle.ledger_types.specs.Names.{ref_eq, has_ref}
use Rattle.ledger_types.specs.Notary.{signs, consumers, IsBook}
use Rattle.ledger_types.specs.Rules.{is_empty, asks_notary}
use Rattle.ledger_types.specs.Signatures.{tx_id}
use Rattle.ledger_types.proofs.Names.{ref_same}
use Rattle.tx_tear.specs.Hashed.{AreApart, hashed_for_all}
use Rattle.tx_tear.specs.Tearing.{tear_of}
use Rattle.net_model.specs.Environment.{Environment, identity}
use Rattle.net_model.specs.State.{NodeState}
use Rattle.net_model.specs.Stores.{IsProven, StoresHold, NamesNotary}
use Rattle.net_model.specs.Tags.{book_of}
use Rattle.notary_book.proofs.Once.{one_consumer}
use Rattle.ledger_laws.specs.Ledgers.{IsSignedInBook, signed_over, hashed_to_sign, Spends, HasNoneSpentTwice}
use Rattle.ledger_laws.proofs.Reading.{HasFewOutputs, IsSizedEntry}
use Rattle.ledger_laws.proofs.Inputs.{inputs_within, signed_inputs}
use Rattle.ledger_laws.proofs.Signing.{first_signed, first_consumes}

-- ---- inputs

-- a transaction with an input asks a notary
input_asks : (tx : Tx) (r : StateRef) → Contains tx.inputs r → asks_notary tx ≡ true
input_asks tx r has = or_left _ _ (by tx.inputs has)
  where
    by : (refs : List StateRef) → Contains refs r → not (is_empty refs) ≡ true
    by [] (k, lt, is) = absurd (omega (arith, lt))
    by (x ∷ refs) has = refl

-- ---- an entry that is found

pub found_first : {X : Type 0} (P : X → Bool) (xs : List X) → list_any P xs ≡ true → (x : X) × (find P xs ≡ Some x)
found_first P [] h = absurd (true≢false (sym h))
found_first {X} P (x ∷ xs) h = by (P x) h (found_first P xs)
  where
    by : (b : Bool) → b || list_any P xs ≡ true → (list_any P xs ≡ true → (y : X) × (find P xs ≡ Some y)) → (y : X) × (cond b (Some x) (find P xs) ≡ Some y)
    by true h more = (x, refl)
    by false h more = more h

pub over_is : (book : List Entry) (id : Hash32) (entry : Entry) → find (signs id) book ≡ Some entry → signed_over book id ≡ entry.request.torn ∷ []
over_is book id entry is = ap (λ (o : Option Entry). map (λ (x : Entry). x.request.torn) (option_to_list o)) is

-- ---- a spent state

module _ {F : Type 0} (e : Environment F) (net : List (NodeState F)) (book : IsBook e.mark (identity e e.notary.0) (book_of e net)) (proven : StoresHold e net) (signed : IsSignedInBook e net) (names : NamesNotary e)
    (stored_few : (p : ℕ) (s : NodeState F) → slice_get net p ≡ Some s → AllByRecursion HasFewOutputs s.stored) (booked_sized : AllByRecursion IsSizedEntry (book_of e net)) where
  -- the tear-off over which the id was signed first shows the inputs of the transaction
  same_inputs : (tx : Tx) (entry : Entry) → AllByRecursion IsStateRef tx.inputs → is_some tx.notary ≡ true → AreApart (hashed_to_sign (book_of e net) tx) → find (signs (tx_id tx)) (book_of e net) ≡ Some entry → entry.inputs ≡ tx.inputs
  same_inputs tx entry within named apart is =
      let first = first_signed e.mark (identity e e.notary.0) (book_of e net) (tx_id tx) entry book is in
      let apart_two : AreApart (hashed_for_all [] (tear_of tx ∷ entry.request.torn ∷ [])) = subst (λ (l : List TornTx). AreApart (hashed_for_all [] (tear_of tx ∷ l))) (over_is (book_of e net) (tx_id tx) entry is) apart in
      let sized : IsSizedEntry entry = all_find IsSizedEntry (signs (tx_id tx)) (book_of e net) entry booked_sized is in
      first.shown.inputs ∙ signed_inputs tx entry.request.torn first.shown.seen apart_two sized first.of first.shown.sees named first.shown.names within

  one_spender : (r : StateRef) (stx : SignedTx) → Spends e net r stx → consumers (book_of e net) r ≡ tx_id stx.tx ∷ []
  one_spender r stx h =
      let asks = input_asks stx.tx r h.input in
      let p = all_get (IsProven e h.state.stored) h.state.stored h.place stx (proven h.node h.state h.up) h.there in
      let entry = found_first (signs (tx_id stx.tx)) (book_of e net) (signed.stored h.node h.place h.state stx h.up h.there asks) in
      let inputs = same_inputs stx.tx entry.0 (inputs_within h.state.stored stx.tx p.states (stored_few h.node h.state h.up) p.resolves) (names stx.tx p.states p.accepted asks) h.apart entry.1 in
      first_consumes (book_of e net) r (tx_id stx.tx) entry.0 (one_consumer e.mark (identity e e.notary.0) (book_of e net) r book) entry.1 (subst (λ (refs : List StateRef). has_ref r refs ≡ true) (sym inputs) (any_contained (λ x. ref_eq x r) stx.tx.inputs r (ref_same r) h.input))

  pub none_twice : HasNoneSpentTwice e net
  none_twice = record {
    consumer = one_spender;
    once = λ r one other apart a b. apart (heads (sym (one_spender r one a) ∙ one_spender r other b));
  }
    where
      heads : {x y : Hash32} → x ∷ [] ≡ y ∷ [] → x ≡ y
      heads is = cc
