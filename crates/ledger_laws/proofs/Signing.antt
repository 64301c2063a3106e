-- What a book signed names this notary, and consumes what its entry shows.
use Rattle.std.proofs.Common.{◌≡◌, ◌≤◌, List, [], ◌∷◌, ◌++◌, length, Option, Some, None, Bool, true, false, cond, ◌&&◌, ◌||◌, not, find, is_some, refl, sym, ap, subst, ◌∙◌, arith, true≢false}
use Rattle.std.specs.List.{list_any}
use Rattle.std.proofs.lemmas.Bool.{and_parts, and_from, or_left, or_right, not_from_false}
use Rattle.std.proofs.lemmas.Option.{none-some}
use Rattle.net_base.specs.declared.values.Hash32.{Hash32}
use Rattle.net_base.specs.declared.values.Party.{Party}
use Rattle.net_base.specs.declared.values.Moment.{Moment}
use Rattle.net_base.specs.declared.names.StateRef.{StateRef}
use Rattle.net_base.specs.declared.names.Identity.{Identity}
use Rattle.net_base.proofs.Lists.{none_push}
use Rattle.net_base.proofs.Options.{some_eq}
use Rattle.ledger_types.specs.declared.torn.Visible.{Visible}
use Rattle.ledger_types.specs.declared.notary.NotaryAnswer.{NotaryAnswer}
use Rattle.ledger_types.specs.declared.notary.NotaryAnswer.TheVariants as answer
use Rattle.ledger_types.specs.declared.notary.Entry.{Entry}
use Rattle.ledger_types.specs.Names.{hash_eq, is_party, has_ref}
use Rattle.ledger_types.specs.Tears.{visible_of}
use Rattle.ledger_types.specs.Notary.{is_signature, signs, answer_shown, answer_torn, is_notary, inputs_of, consumers_after, consumers, IsBookedAt, IsBooked, IsBookAfter, IsBook}
use Rattle.ledger_types.proofs.Names.{hash_exact}
use Rattle.notary_book.proofs.Once.{answered_anew}

-- ---- what is signed was shown

-- of two answers of which the second is no signature, a signature is the first
pub if_signed : (b : Bool) (x y : NotaryAnswer) → is_signature y ≡ false → is_signature (cond b x y) ≡ true → (b ≡ true) × (is_signature x ≡ true)
if_signed true x y unsigned h = (refl, h)
if_signed false x y unsigned h = absurd (true≢false (sym h ∙ unsigned))

-- a good tear-off that names some notary, with these inputs
pub record IsShown (e : Entry) : Type 0 where
  pub seen : Visible
  pub sees : visible_of e.request.torn ≡ Some seen
  pub names : is_some seen.notary ≡ true
  pub inputs : e.inputs ≡ seen.inputs

named_some : (me : Party) (o : Option Party) → is_party me o ≡ true → is_some o ≡ true
named_some me None h = h
named_some me (Some p) h = refl

torn_shown : (mark : Party → Hash32 → Hash32) (me : Party) (before : List Entry) (e : Entry) (now : Moment) (o : Option Visible) → visible_of e.request.torn ≡ o → e.inputs ≡ inputs_of o → is_signature (answer_torn mark me before e.request now o) ≡ true → IsShown e
torn_shown mark me before e now None is inputs h = absurd (true≢false (sym h))
torn_shown mark me before e now (Some v) is inputs h =
    let named = if_signed (is_party me v.notary) (answer_shown mark me before e.request now v) answer.WrongNotary refl h in
    record { seen = v; sees = is; names = named_some me v.notary named.0; inputs = inputs }

-- a signature that was booked is the answer to the request's tear-off
pub booked_torn : (mark : Party → Hash32 → Hash32) (me : Identity) (before : List Entry) (now : Moment) (e : Entry) → IsBookedAt mark me before now e → is_signature e.answer ≡ true → is_signature (answer_torn mark me.party before e.request now (visible_of e.request.torn)) ≡ true
booked_torn mark me before now e booked h =
    (if_signed (is_notary me) (answer_torn mark me.party before e.request now (visible_of e.request.torn)) answer.WrongNotary refl (ap is_signature (answered_anew mark me before now e booked) ∙ h)).1

booked_shown : (mark : Party → Hash32 → Hash32) (me : Identity) (before : List Entry) (e : Entry) → IsBooked mark me before e → is_signature e.answer ≡ true → IsShown e
booked_shown mark me before e booked h =
    let inputs : inputs_of (visible_of e.request.torn) ≡ e.inputs = ap (λ (x : Entry). x.inputs) booked.1.1 in
    torn_shown mark me.party before e booked.0 (visible_of e.request.torn) refl (sym inputs) (booked_torn mark me before booked.0 e booked.1 h)

-- ---- the first entry that signed an id

-- it signed the id, and was shown
pub record IsFirst (id : Hash32) (e : Entry) : Type 0 where
  pub of : id ≡ e.request.torn.id
  pub signed : is_signature e.answer ≡ true
  pub shown : IsShown e

first_after : (mark : Party → Hash32 → Hash32) (me : Identity) (before es : List Entry) (id : Hash32) (e : Entry) → IsBookAfter mark me before es → find (signs id) es ≡ Some e → IsFirst id e
first_after mark me before [] id e book h = absurd (none-some e h)
first_after mark me before (x ∷ xs) id e book h = by (signs id x) refl h (first_after mark me (before ++ x ∷ []) xs id e book.1)
  where
    by : (b : Bool) → signs id x ≡ b → cond b (Some x) (find (signs id) xs) ≡ Some e → (find (signs id) xs ≡ Some e → IsFirst id e) → IsFirst id e
    by true s h more =
        let parts = and_parts (is_signature x.answer) (hash_eq id x.request.torn.id) s in
        subst (IsFirst id) (some_eq h) (record { of = hash_exact id x.request.torn.id parts.1; signed = parts.0; shown = booked_shown mark me before x book.0 parts.0 })
    by false s h more = more h

pub first_signed : (mark : Party → Hash32 → Hash32) (me : Identity) (book : List Entry) (id : Hash32) (e : Entry) → IsBook mark me book → find (signs id) book ≡ Some e → IsFirst id e
unfolding IsBook
first_signed mark me book id e h is = first_after mark me [] book id e h is

-- ---- and consumes what it shows

consumes_after : (before es : List Entry) (r : StateRef) (id : Hash32) (e : Entry) → list_any (signs id) before ≡ false → find (signs id) es ≡ Some e → has_ref r e.inputs ≡ true → list_any (hash_eq id) (consumers_after before es r) ≡ true
consumes_after before [] r id e none h has = absurd (none-some e h)
consumes_after before (x ∷ xs) r id e none h has = by (signs id x) refl h (λ other k. consumes_after (before ++ x ∷ []) xs r id e (none_push (signs id) before x none other) k has)
  where
    later : (b : Bool) (rest : List Hash32) → list_any (hash_eq id) rest ≡ true → list_any (hash_eq id) (cond b (x.request.torn.id ∷ rest) rest) ≡ true
    later true rest k = or_right (hash_eq id x.request.torn.id) _ k
    later false rest k = k

    here : (b : Bool) (rest : List Hash32) → b ≡ true → hash_eq id x.request.torn.id ≡ true → list_any (hash_eq id) (cond b (x.request.torn.id ∷ rest) rest) ≡ true
    here true rest f same = or_left (hash_eq id x.request.torn.id) _ same
    here false rest f same = absurd (true≢false (sym f))

    by : (b : Bool) → signs id x ≡ b → cond b (Some x) (find (signs id) xs) ≡ Some e → (signs id x ≡ false → find (signs id) xs ≡ Some e → list_any (hash_eq id) (consumers_after (before ++ x ∷ []) xs r) ≡ true)
        → list_any (hash_eq id) (consumers_after before (x ∷ xs) r) ≡ true
    by true s h more =
        let parts = and_parts (is_signature x.answer) (hash_eq id x.request.torn.id) s in
        let own : list_any (signs x.request.torn.id) before ≡ false = subst (λ (i : Hash32). list_any (signs i) before ≡ false) (hash_exact id x.request.torn.id parts.1) none in
        let mine : has_ref r x.inputs ≡ true = subst (λ (y : Entry). has_ref r y.inputs ≡ true) (sym (some_eq h)) has in
        here ((is_signature x.answer && not (list_any (signs x.request.torn.id) before)) && has_ref r x.inputs) (consumers_after (before ++ x ∷ []) xs r) (and_from _ _ (and_from _ _ parts.0 (not_from_false _ own)) mine) parts.1
    by false s h more = later ((is_signature x.answer && not (list_any (signs x.request.torn.id) before)) && has_ref r x.inputs) (consumers_after (before ++ x ∷ []) xs r) (more s h)

-- a list of one at most that has an id is that id alone
alone : (id : Hash32) (ids : List Hash32) → length ids ≤ 1 → list_any (hash_eq id) ids ≡ true → ids ≡ id ∷ []
alone id [] few has = absurd (true≢false (sym has))
alone id (x ∷ []) few has = by (hash_eq id x) refl has
  where
    by : (b : Bool) → hash_eq id x ≡ b → b || false ≡ true → x ∷ [] ≡ id ∷ []
    by true s h = ap (λ (i : Hash32). i ∷ []) (sym (hash_exact id x s))
    by false s h = absurd (true≢false (sym h))
alone id (x ∷ y ∷ ids) few has = absurd (omega (arith, few))

-- the first entry that signed an id consumes each input that it shows, and no other id does
pub first_consumes : (book : List Entry) (r : StateRef) (id : Hash32) (e : Entry) → length (consumers book r) ≤ 1 → find (signs id) book ≡ Some e → has_ref r e.inputs ≡ true → consumers book r ≡ id ∷ []
unfolding consumers
first_consumes book r id e few is has = alone id (consumers_after [] book r) few (consumes_after [] book r id e refl is has)
