-- No reference has two consumers in a book whose entries were added for fresh answers.
use Rattle.std.proofs.Common.{◌≡◌, ◌≤◌, ◌⊎◌, inl, inr, ⊎_elim, List, [], ◌∷◌, ◌++◌, Option, Some, None, Bool, true, false, true≢false, cond, ◌&&◌, not, find, filter_map, option_map, is_some, length, refl, sym, ap, subst, ◌∙◌, arith}
use Rattle.std.specs.List.{list_any, cons_option}
use Rattle.std.proofs.lemmas.Bool.{and_parts, and_from, and_cases, or_cases, or_parts, not-true, both_ways, not_from_false}
use Rattle.notary_book.specs.Indexed.{takes}
use Rattle.net_base.specs.declared.values.Hash32.{Hash32}
use Rattle.net_base.specs.declared.values.Party.{Party}
use Rattle.net_base.specs.declared.values.Moment.{Moment}
use Rattle.net_base.specs.declared.names.StateRef.{StateRef}
use Rattle.net_base.specs.declared.names.Identity.{Identity}
use Rattle.net_base.proofs.Lists.{any_append, any_push}
use Rattle.ledger_types.specs.declared.notary.ConflictItem.{ConflictItem}
use Rattle.ledger_types.specs.declared.notary.Entry.{Entry}
use Rattle.ledger_types.specs.declared.notary.NotaryAnswer.{NotaryAnswer}
use Rattle.ledger_types.specs.declared.notary.NotaryAnswer.TheVariants as answer
use Rattle.ledger_types.specs.declared.notary.RefKind.TheVariants as kind
use Rattle.ledger_types.specs.declared.notary.Request.{Request}
use Rattle.ledger_types.specs.declared.tx.Window.{Window}
use Rattle.ledger_types.specs.declared.torn.Visible.{Visible}
use Rattle.ledger_types.specs.Names.{ref_eq, has_ref, hash_eq, is_party}
use Rattle.ledger_types.specs.Tears.{visible_of}
use Rattle.ledger_types.specs.Notary.{is_signature, signs, repeats, consumes, conflict_over, conflicts, tag_by, has_good_tag, answer_unsigned, answer_shown, answer_torn, answer_new, is_notary, inputs_of, entry_of, reply_over, reply, consumers_after, consumers, IsBookedAt, IsBooked, IsBookAfter, IsBook}
use Rattle.ledger_types.proofs.Names.{ref_exact}

-- ---- tests over lists

-- an element that passes P and not R passes Q, and so one is found
found_by : {X : Type 0} (P R Q : X → Bool) (xs : List X) → ((x : X) → P x ≡ true → R x ≡ false → Q x ≡ true) → list_any P xs ≡ true → list_any R xs ≡ false → is_some (find Q xs) ≡ true
found_by P R Q [] f h k = cc
found_by {X} P R Q (x ∷ xs) f h k =
    let no = or_parts _ _ k in
    (elim (Q x) as (λ b. Q x ≡ b → is_some (cond b (Some x) (find Q xs)) ≡ true) [
      | true ↦ λ e. refl
      | false ↦ λ e. ⊎_elim (λ p. absurd (both_ways (Q x) e (f x p no.0))) (λ p. found_by P R Q xs f p no.1) (or_cases _ _ h)
    ]) refl

-- where an element has a picture there is a first picture
pub record HasFirst {X : Type 0} (xs : List X) : Type 0 where
  pub first : X
  pub rest : List X
  pub is : xs ≡ first ∷ rest

first_cons : {X : Type 0} (o : Option X) (xs : List X) → (is_some o ≡ true) ⊎ HasFirst xs → HasFirst (cons_option o xs)
first_cons (Some x) xs h = record { first = x; rest = xs; is = refl }
first_cons None xs h = ⊎_elim (λ k. cc) (λ k. k) h

pub pictured : {X Y : Type 0} (P : X → Bool) (f : X → Option Y) (xs : List X) → ((x : X) → P x ≡ true → is_some (f x) ≡ true) → list_any P xs ≡ true → HasFirst (filter_map f xs)
pictured P f [] g h = cc
pictured P f (x ∷ xs) g h = first_cons (f x) (filter_map f xs) (⊎_elim (λ p. inl (g x p)) (λ p. inr (pictured P f xs g p)) (or_cases _ _ h))

pub some_map : {X Y : Type 0} (f : X → Y) (o : Option X) → is_some o ≡ true → is_some (option_map f o) ≡ true
some_map f None h = cc
some_map f (Some x) h = refl

-- ---- one entry after another that consumes the reference

conflict_there : (before : List Entry) (id : Hash32) (r : StateRef) → list_any (takes r) before ≡ true → list_any (signs id) before ≡ false → is_some (conflict_over before id kind.Input r) ≡ true
conflict_there before id r h k =
    some_map _ _ (found_by (takes r) (signs id) (consumes id r) before
    (λ x p q. let yes = and_parts _ _ p in
    let other : hash_eq id x.request.torn.id ≡ false = ⊎_elim (λ z. absurd (both_ways _ z yes.0)) (λ z. z) (and_cases _ _ q) in
    and_from _ _ yes.0 (and_from _ _ (not_from_false _ other) yes.1))
    h k)

pub first_append : {X : Type 0} (xs ys : List X) → HasFirst xs → HasFirst (xs ++ ys)
first_append xs ys h = record { first = h.first; rest = h.rest ++ ys; is = ap (λ (l : List _). l ++ ys) h.is }

conflicts_there : (before : List Entry) (id : Hash32) (r : StateRef) (v : Visible) → list_any (takes r) before ≡ true → list_any (signs id) before ≡ false → has_ref r v.inputs ≡ true → HasFirst (conflicts before id v)
conflicts_there before id r v h k has =
    first_append _ _ (pictured (λ s. ref_eq s r) (conflict_over before id kind.Input) v.inputs
    (λ q e. subst (λ (x : StateRef). is_some (conflict_over before id kind.Input x) ≡ true) (sym (ref_exact q r e)) (conflict_there before id r h k)) has)

-- with conflicts nothing is signed
pub unsigned_no : (mark : Party → Hash32 → Hash32) (me : Party) (id : Hash32) (now : Moment) (window : Option Window) (list : List ConflictItem) → HasFirst list → is_signature (answer_unsigned mark me id now window list) ≡ false
unsigned_no mark me id now window [] h = let e = h.is in cc
unsigned_no mark me id now window (c ∷ cs) h = refl

pub if_no : (b : Bool) (x y : NotaryAnswer) → is_signature x ≡ false → is_signature y ≡ false → is_signature (cond b x y) ≡ false
if_no true x y h k = h
if_no false x y h k = k

shown_no : (mark : Party → Hash32 → Hash32) (me : Party) (before : List Entry) (q : Request) (now : Moment) (v : Visible) (r : StateRef) → list_any (takes r) before ≡ true → list_any (signs q.torn.id) before ≡ false → has_ref r v.inputs ≡ true → is_signature (answer_shown mark me before q now v) ≡ false
shown_no mark me before q now v r h k has =
    let free = unsigned_no mark me q.torn.id now v.window _ (conflicts_there before q.torn.id r v h k has) in
    if_no (not (has_good_tag mark q)) answer.BadRequestTag (cond (list_any (signs q.torn.id) before) (answer.Signed (tag_by mark me q.torn.id)) (answer_unsigned mark me q.torn.id now v.window (conflicts before q.torn.id v))) refl
    (rw k free)

torn_no : (mark : Party → Hash32 → Hash32) (me : Party) (before : List Entry) (q : Request) (now : Moment) (o : Option Visible) (r : StateRef) → list_any (takes r) before ≡ true → list_any (signs q.torn.id) before ≡ false → has_ref r (inputs_of o) ≡ true → is_signature (answer_torn mark me before q now o) ≡ false
torn_no mark me before q now None r h k has = refl
torn_no mark me before q now (Some v) r h k has = if_no (is_party me v.notary) (answer_shown mark me before q now v) answer.WrongNotary (shown_no mark me before q now v r h k has) refl

new_no : (mark : Party → Hash32 → Hash32) (me : Identity) (before : List Entry) (q : Request) (now : Moment) (r : StateRef) → list_any (takes r) before ≡ true → list_any (signs q.torn.id) before ≡ false → has_ref r (inputs_of (visible_of q.torn)) ≡ true → is_signature (answer_new mark me before q now) ≡ false
new_no mark me before q now r h k has = if_no (is_notary me) (answer_torn mark me.party before q now (visible_of q.torn)) answer.WrongNotary (torn_no mark me.party before q now (visible_of q.torn) r h k has) refl

-- a booked entry has the answer that its request is given anew
answered_over : (mark : Party → Hash32 → Hash32) (me : Identity) (before : List Entry) (q : Request) (now : Moment) (e : Entry) (o : Option Entry) → (reply_over mark me before q now o).fresh ≡ true → entry_of q (reply_over mark me before q now o).answer ≡ e → answer_new mark me before q now ≡ e.answer
answered_over mark me before q now e (Some x) f is = absurd (true≢false (sym f))
answered_over mark me before q now e None f is = ap (λ (x : Entry). x.answer) is

pub answered_anew : (mark : Party → Hash32 → Hash32) (me : Identity) (before : List Entry) (now : Moment) (e : Entry) → IsBookedAt mark me before now e → answer_new mark me before e.request now ≡ e.answer
unfolding reply
answered_anew mark me before now e booked = answered_over mark me before e.request now e (find (repeats e.request) before) booked.0 booked.1

-- an id that isn't signed yet takes no reference that a signed entry has
taken_once : (mark : Party → Hash32 → Hash32) (me : Identity) (before : List Entry) (e : Entry) (r : StateRef) → IsBooked mark me before e → list_any (takes r) before ≡ true → list_any (signs e.request.torn.id) before ≡ false → has_ref r e.inputs ≡ true → is_signature e.answer ≡ false
taken_once mark me before e r booked h k has =
    let inputs : inputs_of (visible_of e.request.torn) ≡ e.inputs = ap (λ (x : Entry). x.inputs) booked.1.1 in
    sym (ap is_signature (answered_anew mark me before booked.0 e booked.1)) ∙ new_no mark me before e.request booked.0 r h k (ap (has_ref r) inputs ∙ has)

-- ---- the whole book

-- the entry signs a new id that takes the reference
abbrev is_first : List Entry → StateRef → Entry → Bool
is_first before r e = (is_signature e.answer && not (list_any (signs e.request.torn.id) before)) && has_ref r e.inputs

not_first : (mark : Party → Hash32 → Hash32) (me : Identity) (before : List Entry) (e : Entry) (r : StateRef) (b : Bool) → IsBooked mark me before e → list_any (takes r) before ≡ true → is_first before r e ≡ b → b ≡ false
not_first mark me before e r false booked h f = refl
not_first mark me before e r true booked h f =
    let k = and_parts _ _ f in let l = and_parts _ _ k.0 in
    absurd (both_ways _ (taken_once mark me before e r booked h (not-true _ l.1) k.1) l.0)

none_after : (mark : Party → Hash32 → Hash32) (me : Identity) (before es : List Entry) (r : StateRef) → IsBookAfter mark me before es → list_any (takes r) before ≡ true → consumers_after before es r ≡ []
none_after mark me before [] r book h = refl
none_after mark me before (e ∷ es) r book h = rw (not_first mark me before e r _ book.0 h refl) (none_after mark me (before ++ e ∷ []) es r book.1 (any_append _ before (e ∷ []) h))

one_after : (mark : Party → Hash32 → Hash32) (me : Identity) (before es : List Entry) (r : StateRef) → IsBookAfter mark me before es → length (consumers_after before es r) ≤ 1
one_after mark me before [] r book = omega arith
one_after mark me before (e ∷ es) r book =
    (elim (is_first before r e) as (λ b. is_first before r e ≡ b → length (cond b (e.request.torn.id ∷ consumers_after (before ++ e ∷ []) es r) (consumers_after (before ++ e ∷ []) es r)) ≤ 1) [
      | true ↦ λ f.
          let k = and_parts (is_signature e.answer && not (list_any (signs e.request.torn.id) before)) (has_ref r e.inputs) f in
          let l = and_parts (is_signature e.answer) (not (list_any (signs e.request.torn.id) before)) k.0 in
          let none : consumers_after (before ++ e ∷ []) es r ≡ [] = none_after mark me (before ++ e ∷ []) es r book.1 (any_push (takes r) before e (and_from _ _ l.0 k.1)) in rw none (omega arith)
      | false ↦ λ f. one_after mark me (before ++ e ∷ []) es r book.1
    ]) refl

pub one_consumer : (mark : Party → Hash32 → Hash32) (me : Identity) (book : List Entry) (r : StateRef) → IsBook mark me book → length (consumers book r) ≤ 1
unfolding IsBook consumers
one_consumer mark me book r h = one_after mark me [] book r h
