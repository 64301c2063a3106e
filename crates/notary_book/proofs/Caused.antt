-- Each item of a conflict names its consumer.
use Rattle.std.proofs.Common.{◌≡◌, ℕ, zero, suc, List, [], ◌∷◌, ◌++◌, Option, Some, None, Bool, true, false, cond, not, find, filter_map, take, option_map, refl, sym, ap, subst, ◌∙◌}
use Rattle.std.specs.List.{AllByRecursion, list_any, cons_option}
use Rattle.net_base.specs.declared.values.Hash32.{Hash32}
use Rattle.net_base.specs.declared.values.Party.{Party}
use Rattle.net_base.specs.declared.values.Moment.{Moment}
use Rattle.net_base.specs.declared.names.StateRef.{StateRef}
use Rattle.net_base.specs.declared.names.Identity.{Identity}
use Rattle.net_base.proofs.Options.{some_eq}
use Rattle.ledger_types.specs.declared.notary.ConflictItem.{ConflictItem}
use Rattle.ledger_types.specs.declared.notary.Entry.{Entry}
use Rattle.ledger_types.specs.declared.notary.NotaryAnswer.{NotaryAnswer}
use Rattle.ledger_types.specs.declared.notary.NotaryAnswer.TheVariants as answer
use Rattle.ledger_types.specs.declared.notary.RefKind.{RefKind}
use Rattle.ledger_types.specs.declared.notary.RefKind.TheVariants as kind
use Rattle.ledger_types.specs.declared.notary.Request.{Request}
use Rattle.ledger_types.specs.declared.tx.Window.{Window}
use Rattle.ledger_types.specs.declared.torn.Visible.{Visible}
use Rattle.ledger_types.specs.Names.{is_party}
use Rattle.ledger_types.specs.Tears.{visible_of}
use Rattle.ledger_types.specs.Notary.{signs, consumes, consumer_hash_of, conflict_over, conflicts, is_inside, tag_by, has_good_tag, answer_unsigned, answer_shown, answer_torn, is_notary, IsBookAfter, IsBook}
use Rattle.notary_book.specs.Causes.{is_conflict, IsCaused, AnswerIsCaused, AreCausedAfter, AreCaused}
use Rattle.notary_book.proofs.Once.{answered_anew}

module _ (mark : Party → Hash32 → Hash32) (me : Party) (before : List Entry) (id : Hash32) where
  abbrev All : List ConflictItem → Type 0
  All list = AllByRecursion (IsCaused before id) list

  caused_at : (k : RefKind) (r : StateRef) (o : Option Entry) (item : ConflictItem) → find (consumes id r) before ≡ o → option_map (λ e. record { reference = r; consumer_hash = consumer_hash_of e; kind = k }) o ≡ Some item → IsCaused before id item
  caused_at k r None item f h = cc
  caused_at k r (Some d) item f h =
      let e : record { reference = r; consumer_hash = consumer_hash_of d; kind = k } ≡ item = some_eq h in
      (d, (ap (λ (x : ConflictItem). find (consumes id x.reference) before) (sym e) ∙ f, sym (ap (λ (x : ConflictItem). x.consumer_hash) e)))

  caused_cons : (o : Option ConflictItem) (list : List ConflictItem) → ((item : ConflictItem) → o ≡ Some item → IsCaused before id item) → All list → All (cons_option o list)
  caused_cons None list f h = h
  caused_cons (Some item) list f h = (f item refl, h)

  caused_all : (k : RefKind) (rs : List StateRef) → All (filter_map (conflict_over before id k) rs)
  caused_all k [] = tt
  caused_all k (r ∷ rs) = caused_cons (conflict_over before id k r) _ (λ item h. caused_at k r (find (consumes id r) before) item refl h) (caused_all k rs)

  all_both : (xs ys : List ConflictItem) → All xs → All ys → All (xs ++ ys)
  all_both [] ys h k = k
  all_both (x ∷ xs) ys h k = (h.0, all_both xs ys h.1 k)

  all_take : (n : ℕ) (xs : List ConflictItem) → All xs → All (take n xs)
  all_take zero xs h = tt
  all_take (suc n) [] h = tt
  all_take (suc n) (x ∷ xs) h = (h.0, all_take n xs h.1)

  abbrev Caused : NotaryAnswer → Type 0
  Caused g = AnswerIsCaused before id g

  caused_if : (b : Bool) (x y : NotaryAnswer) → Caused x → Caused y → Caused (cond b x y)
  caused_if true x y h k = h
  caused_if false x y h k = k

  caused_unsigned : (now : Moment) (window : Option Window) (list : List ConflictItem) → All list → Caused (answer_unsigned mark me id now window list)
  caused_unsigned now window [] h = caused_if (is_inside window now) (answer.Signed (tag_by mark me id)) (answer.OutsideWindow now) tt tt
  caused_unsigned now window (c ∷ cs) h = all_take 80 (c ∷ cs) h

caused_shown : (mark : Party → Hash32 → Hash32) (me : Party) (before : List Entry) (q : Request) (now : Moment) (v : Visible) → AnswerIsCaused before q.torn.id (answer_shown mark me before q now v)
caused_shown mark me before q now v =
    let id = q.torn.id in
    let free = answer_unsigned mark me id now v.window (conflicts before id v) in
    let signed = cond (list_any (signs id) before) (answer.Signed (tag_by mark me id)) free in
    let all = all_both mark me before id _ _ (caused_all mark me before id kind.Input v.inputs) (caused_all mark me before id kind.Reference v.references) in
    caused_if mark me before id (not (has_good_tag mark q)) answer.BadRequestTag signed tt
    (caused_if mark me before id (list_any (signs id) before) (answer.Signed (tag_by mark me id)) free tt (caused_unsigned mark me before id now v.window (conflicts before id v) all))

caused_torn : (mark : Party → Hash32 → Hash32) (me : Party) (before : List Entry) (q : Request) (now : Moment) (o : Option Visible) → AnswerIsCaused before q.torn.id (answer_torn mark me before q now o)
caused_torn mark me before q now None = tt
caused_torn mark me before q now (Some v) = caused_if mark me before q.torn.id (is_party me v.notary) (answer_shown mark me before q now v) answer.WrongNotary (caused_shown mark me before q now v) tt

caused_after : (mark : Party → Hash32 → Hash32) (me : Identity) (before es : List Entry) → IsBookAfter mark me before es → AreCausedAfter before es
caused_after mark me before [] h = tt
caused_after mark me before (e ∷ es) h =
    let new = caused_if mark me.party before e.request.torn.id (is_notary me) (answer_torn mark me.party before e.request h.0.0 (visible_of e.request.torn)) answer.WrongNotary (caused_torn mark me.party before e.request h.0.0 (visible_of e.request.torn)) tt in
    (subst (AnswerIsCaused before e.request.torn.id) (answered_anew mark me before h.0.0 e h.0.1) new, caused_after mark me (before ++ e ∷ []) es h.1)

pub book_caused : (mark : Party → Hash32 → Hash32) (me : Identity) (book : List Entry) → IsBook mark me book → AreCaused book
unfolding IsBook
book_caused mark me book h = caused_after mark me [] book h

-- ---- an id that was signed

pub no_if : (b : Bool) (x y : NotaryAnswer) → is_conflict x ≡ false → is_conflict y ≡ false → is_conflict (cond b x y) ≡ false
no_if true x y h k = h
no_if false x y h k = k

no_shown : (mark : Party → Hash32 → Hash32) (me : Party) (before : List Entry) (q : Request) (now : Moment) (v : Visible) → list_any (signs q.torn.id) before ≡ true → is_conflict (answer_shown mark me before q now v) ≡ false
no_shown mark me before q now v h = rw h (no_if (not (has_good_tag mark q)) answer.BadRequestTag (answer.Signed (tag_by mark me q.torn.id)) refl refl)

pub no_torn : (mark : Party → Hash32 → Hash32) (me : Party) (before : List Entry) (q : Request) (now : Moment) (o : Option Visible) → list_any (signs q.torn.id) before ≡ true → is_conflict (answer_torn mark me before q now o) ≡ false
no_torn mark me before q now None h = refl
no_torn mark me before q now (Some v) h = no_if (is_party me v.notary) (answer_shown mark me before q now v) answer.WrongNotary (no_shown mark me before q now v h) refl
