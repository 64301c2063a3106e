-- An id that was answered a conflict is never signed.
use Rattle.std.proofs.Common.{◌≡◌, ◌⊎◌, inl, inr, ⊎_elim, List, [], ◌∷◌, ◌++◌, Option, Some, None, Bool, true, false, true≢false, cond, ◌&&◌, ◌||◌, not, find, filter_map, option_map, is_some, refl, sym, ap, subst, ◌∙◌, append_assoc, append-nil}
use Rattle.std.specs.List.{AllByRecursion, list_any, cons_option}
use Rattle.std.proofs.lemmas.Bool.{and_parts, and_from, and_cases, or_cases, or_parts, both_ways, false_from_ne_true, and_left, and_right}
use Rattle.net_base.specs.declared.values.Hash32.{Hash32}
use Rattle.net_base.specs.declared.values.Party.{Party}
use Rattle.net_base.specs.declared.values.Moment.{Moment}
use Rattle.net_base.specs.declared.names.StateRef.{StateRef}
use Rattle.net_base.specs.declared.names.Identity.{Identity}
use Rattle.net_base.proofs.Lists.{any_append, none_push, all_front}
use Rattle.net_base.proofs.Options.{some_eq}
use Rattle.ledger_types.specs.declared.notary.ConflictItem.{ConflictItem}
use Rattle.ledger_types.specs.declared.notary.Entry.{Entry}
use Rattle.ledger_types.specs.declared.notary.NotaryAnswer.{NotaryAnswer}
use Rattle.ledger_types.specs.declared.notary.NotaryAnswer.TheVariants as answer
use Rattle.ledger_types.specs.declared.notary.RefKind.{RefKind}
use Rattle.ledger_types.specs.declared.notary.RefKind.TheVariants as kind
use Rattle.ledger_types.specs.declared.notary.Request.{Request}
use Rattle.ledger_types.specs.declared.tx.Window.{Window}
use Rattle.ledger_types.specs.declared.torn.Visible.{Visible}
use Rattle.ledger_types.specs.Names.{ref_eq, has_ref, hash_eq, is_party}
use Rattle.ledger_types.specs.Tears.{visible_of}
use Rattle.ledger_types.specs.Notary.{is_signature, signs, repeats, consumes, conflict_over, conflicts, is_inside, tag_by, has_good_tag, answer_unsigned, answer_shown, answer_torn, answer_new, is_notary, reply_over, reply, IsBooked, IsBookAfter, IsBook}
use Rattle.ledger_types.proofs.Names.{hash_exact, ref_same, ref_exact}
use Rattle.notary_book.specs.Causes.{is_conflict}
use Rattle.notary_book.specs.Agreement.{refuses, Agree, AgreesWith, AgreeAfter, AllAgree}
use Rattle.notary_book.proofs.Once.{HasFirst, pictured, some_map, first_append, unsigned_no, if_no, answered_anew}
use Rattle.notary_book.proofs.Caused.{no_if, no_torn}

-- ---- tests

find_any : {X : Type 0} (P : X → Bool) (xs : List X) → list_any P xs ≡ true → is_some (find P xs) ≡ true
find_any P [] h = absurd (true≢false (sym h))
find_any {X} P (x ∷ xs) h =
    (elim (P x) as (λ b. P x ≡ b → is_some (cond b (Some x) (find P xs)) ≡ true) [
      | true ↦ λ e. refl
      | false ↦ λ e. ⊎_elim (λ p. absurd (both_ways (P x) e p)) (λ p. find_any P xs p) (or_cases _ _ h)
    ]) refl

any_find : {X : Type 0} (P : X → Bool) (xs : List X) → is_some (find P xs) ≡ true → list_any P xs ≡ true
any_find P [] h = absurd (true≢false (sym h))
any_find {X} P (x ∷ xs) h =
    (elim (P x) as (λ b. is_some (cond b (Some x) (find P xs)) ≡ true → (b || list_any P xs) ≡ true) [
      | true ↦ λ k. refl
      | false ↦ λ k. any_find P xs k
    ]) h

any_behind : {X : Type 0} (P : X → Bool) (xs ys : List X) → list_any P ys ≡ true → list_any P (xs ++ ys) ≡ true
any_behind P [] ys h = h
any_behind P (x ∷ xs) ys h = (elim (P x) as (λ b. (b || list_any P (xs ++ ys)) ≡ true) [ true ↦ refl | false ↦ any_behind P xs ys h ])

any_here : {X : Type 0} (P : X → Bool) (x : X) (xs : List X) → P x ≡ true → list_any P (x ∷ xs) ≡ true
any_here P x xs h = ap (λ (b : Bool). b || list_any P xs) h

all_last : {X : Type 0} (P : X → Type 0) (xs : List X) (x : X) → AllByRecursion P (xs ++ x ∷ []) → P x
all_last P [] x h = h.0
all_last P (y ∷ ys) x h = all_last P ys x h.1

first_behind : {X : Type 0} (xs ys : List X) → HasFirst ys → HasFirst (xs ++ ys)
first_behind [] ys h = h
first_behind (x ∷ xs) ys h = record { first = x; rest = xs ++ ys; is = refl }

first_of_both : {X : Type 0} (xs ys : List X) → HasFirst (xs ++ ys) → HasFirst xs ⊎ HasFirst ys
first_of_both [] ys h = inr h
first_of_both (x ∷ xs) ys h = inl (record { first = x; rest = xs; is = refl })

-- ---- a reference that another id consumes

conflict_some : (before : List Entry) (id : Hash32) (k : RefKind) (r : StateRef) → list_any (consumes id r) before ≡ true → is_some (conflict_over before id k r) ≡ true
conflict_some before id k r h = some_map _ _ (find_any (consumes id r) before h)

first_named : (before : List Entry) (id : Hash32) (k : RefKind) (r : StateRef) (refs : List StateRef) → list_any (consumes id r) before ≡ true → has_ref r refs ≡ true → HasFirst (filter_map (conflict_over before id k) refs)
first_named before id k r refs taken has =
    pictured (λ s. ref_eq s r) (conflict_over before id k) refs
    (λ q e. subst (λ (x : StateRef). is_some (conflict_over before id k x) ≡ true) (sym (ref_exact q r e)) (conflict_some before id k r taken)) has

-- a reference among these that an entry of another id consumes
record Named (before : List Entry) (id : Hash32) (inputs references : List StateRef) : Type 0 where
  pub ref : StateRef
  pub has : (has_ref ref inputs ≡ true) ⊎ (has_ref ref references ≡ true)
  pub taken : list_any (consumes id ref) before ≡ true

record Taken (before : List Entry) (id : Hash32) (refs : List StateRef) : Type 0 where
  pub ref : StateRef
  pub has : has_ref ref refs ≡ true
  pub taken : list_any (consumes id ref) before ≡ true

some_of : {X Y : Type 0} (f : X → Y) (o : Option X) (y : Y) → option_map f o ≡ Some y → is_some o ≡ true
some_of f None y h = cc
some_of f (Some x) y h = refl

taken_cons : (before : List Entry) (id : Hash32) (k : RefKind) (r : StateRef) (rs : List StateRef) → (HasFirst (filter_map (conflict_over before id k) rs) → Taken before id rs)
    → (o : Option ConflictItem) → conflict_over before id k r ≡ o → HasFirst (cons_option o (filter_map (conflict_over before id k) rs)) → Taken before id (r ∷ rs)
taken_cons before id k r rs behind (Some item) e f = record { ref = r; has = any_here (λ s. ref_eq s r) r rs (ref_same r); taken = any_find (consumes id r) before (some_of _ (find (consumes id r) before) item e) }
taken_cons before id k r rs behind None e f = let n = behind f in record { ref = n.ref; has = any_behind (λ s. ref_eq s n.ref) (r ∷ []) rs n.has; taken = n.taken }

taken_in : (before : List Entry) (id : Hash32) (k : RefKind) (refs : List StateRef) → HasFirst (filter_map (conflict_over before id k) refs) → Taken before id refs
taken_in before id k [] h = let e = h.is in cc
taken_in before id k (r ∷ rs) h = taken_cons before id k r rs (taken_in before id k rs) (conflict_over before id k r) refl h

named_by : (before : List Entry) (id : Hash32) (v : Visible) → HasFirst (conflicts before id v) → Named before id v.inputs v.references
named_by before id v h =
    ⊎_elim
    (λ f. let n = taken_in before id kind.Input v.inputs f in record { ref = n.ref; has = inl n.has; taken = n.taken })
    (λ f. let n = taken_in before id kind.Reference v.references f in record { ref = n.ref; has = inr n.has; taken = n.taken })
    (first_of_both (filter_map (conflict_over before id kind.Input) v.inputs) (filter_map (conflict_over before id kind.Reference) v.references) h)

first_by : (before : List Entry) (id : Hash32) (v : Visible) → Named before id v.inputs v.references → HasFirst (conflicts before id v)
first_by before id v n =
    ⊎_elim
    (λ h. first_append (filter_map (conflict_over before id kind.Input) v.inputs) (filter_map (conflict_over before id kind.Reference) v.references) (first_named before id kind.Input n.ref v.inputs n.taken h))
    (λ h. first_behind (filter_map (conflict_over before id kind.Input) v.inputs) (filter_map (conflict_over before id kind.Reference) v.references) (first_named before id kind.Reference n.ref v.references n.taken h))
    n.has

-- ---- an id that was refused

-- what each good request of the id that names me shows names a reference that another id consumes, and no entry signed the id
record Blocked (me : Party) (id : Hash32) (before : List Entry) : Type 0 where
  pub seen : Visible
  pub named : Named before id seen.inputs seen.references
  pub unsigned : list_any (signs id) before ≡ false
  pub shown : (q : Request) → id ≡ q.torn.id → AgreesWith me q before → (v : Visible) → visible_of q.torn ≡ Some v → is_party me v.notary ≡ true → v ≡ seen

blocked_shown : (mark : Party → Hash32 → Hash32) (me : Party) (before : List Entry) (q : Request) (now : Moment) (v : Visible) → Named before q.torn.id v.inputs v.references → list_any (signs q.torn.id) before ≡ false → is_signature (answer_shown mark me before q now v) ≡ false
blocked_shown mark me before q now v n k =
    let free = unsigned_no mark me q.torn.id now v.window _ (first_by before q.torn.id v n) in
    if_no (not (has_good_tag mark q)) answer.BadRequestTag (cond (list_any (signs q.torn.id) before) (answer.Signed (tag_by mark me q.torn.id)) (answer_unsigned mark me q.torn.id now v.window (conflicts before q.torn.id v))) refl
    (rw k free)

blocked_torn : (mark : Party → Hash32 → Hash32) (me : Party) (before : List Entry) (q : Request) (now : Moment) (b : Blocked me q.torn.id before) (o : Option Visible) → ((v : Visible) → o ≡ Some v → is_party me v.notary ≡ true → v ≡ b.seen) → is_signature (answer_torn mark me before q now o) ≡ false
blocked_torn mark me before q now b None f = refl
blocked_torn mark me before q now b (Some v) f = by (is_party me v.notary) refl
  where
    by : (t : Bool) → is_party me v.notary ≡ t → is_signature (cond t (answer_shown mark me before q now v) answer.WrongNotary) ≡ false
    by true e = blocked_shown mark me before q now v (subst (λ (x : Visible). Named before q.torn.id x.inputs x.references) (sym (f v refl e)) b.named) b.unsigned
    by false e = refl

-- a request of a refused id gets no signature
blocked_new : (mark : Party → Hash32 → Hash32) (me : Identity) (before : List Entry) (q : Request) (now : Moment) → Blocked me.party q.torn.id before → AgreesWith me.party q before → is_signature (answer_new mark me before q now) ≡ false
blocked_new mark me before q now b agrees =
    if_no (is_notary me) (answer_torn mark me.party before q now (visible_of q.torn)) answer.WrongNotary (blocked_torn mark me.party before q now b (visible_of q.torn) (λ v h named. b.shown q refl agrees v h named)) refl

blocked_booked : (mark : Party → Hash32 → Hash32) (me : Identity) (before : List Entry) (e : Entry) (id : Hash32) → IsBooked mark me before e → AgreesWith me.party e.request before → Blocked me.party id before → signs id e ≡ false
blocked_booked mark me before e id booked agrees b =
    (elim (hash_eq id e.request.torn.id) as (λ t. hash_eq id e.request.torn.id ≡ t → (is_signature e.answer && t) ≡ false) [
      | true ↦ λ h.
          let here : Blocked me.party e.request.torn.id before = subst (λ (x : Hash32). Blocked me.party x before) (hash_exact id e.request.torn.id h) b in
          let given = answered_anew mark me before booked.0 e booked.1 in
          and_left (is_signature e.answer) true (sym (ap is_signature given) ∙ blocked_new mark me before e.request booked.0 here agrees)
      | false ↦ λ h. and_right (is_signature e.answer) false refl
    ]) refl

blocked_more : (mark : Party → Hash32 → Hash32) (me : Identity) (before : List Entry) (e : Entry) (id : Hash32) → IsBooked mark me before e → AgreesWith me.party e.request before → Blocked me.party id before → Blocked me.party id (before ++ e ∷ [])
blocked_more mark me before e id booked agrees b = record {
  seen = b.seen;
  named = record { ref = b.named.ref; has = b.named.has; taken = any_append (consumes id b.named.ref) before (e ∷ []) b.named.taken };
  unsigned = none_push (signs id) before e b.unsigned (blocked_booked mark me before e id booked agrees b);
  shown = λ q is all v h named. b.shown q is (all_front (λ d. Agree me.party q d.request) before (e ∷ []) all) v h named;
}

-- ---- how an id is refused

conflict_first : (b : Bool) (x y : NotaryAnswer) → is_conflict (cond b x y) ≡ true → is_conflict y ≡ false → is_conflict x ≡ true
conflict_first true x y h k = h
conflict_first false x y h k = absurd (both_ways _ k h)

conflict_then : (b : Bool) (x y : NotaryAnswer) → is_conflict (cond b x y) ≡ true → is_conflict y ≡ false → b ≡ true
conflict_then true x y h k = refl
conflict_then false x y h k = absurd (both_ways _ k h)

conflict_else : (b : Bool) (x y : NotaryAnswer) → is_conflict (cond b x y) ≡ true → is_conflict x ≡ false → (b ≡ false) × (is_conflict y ≡ true)
conflict_else true x y h k = absurd (both_ways _ k h)
conflict_else false x y h k = (refl, h)

conflict_list : (mark : Party → Hash32 → Hash32) (me : Party) (id : Hash32) (now : Moment) (window : Option Window) (list : List ConflictItem) → is_conflict (answer_unsigned mark me id now window list) ≡ true → HasFirst list
conflict_list mark me id now window [] h = absurd (both_ways _ (no_if (is_inside window now) (answer.Signed (tag_by mark me id)) (answer.OutsideWindow now) refl refl) h)
conflict_list mark me id now window (c ∷ cs) h = record { first = c; rest = cs; is = refl }

-- what stood when a request was answered a conflict
record Refusal (me : Party) (before : List Entry) (q : Request) : Type 0 where
  pub seen : Visible
  pub good : visible_of q.torn ≡ Some seen
  pub mine : is_party me seen.notary ≡ true
  pub named : Named before q.torn.id seen.inputs seen.references
  pub unsigned : list_any (signs q.torn.id) before ≡ false

refusal_torn : (mark : Party → Hash32 → Hash32) (me : Party) (before : List Entry) (q : Request) (now : Moment) (o : Option Visible) → visible_of q.torn ≡ o → is_conflict (answer_torn mark me before q now o) ≡ true → Refusal me before q
refusal_torn mark me before q now None good h = absurd (true≢false (sym h))
refusal_torn mark me before q now (Some v) good h =
    let id = q.torn.id in
    let free = answer_unsigned mark me id now v.window (conflicts before id v) in
    let shown = conflict_first (is_party me v.notary) (answer_shown mark me before q now v) answer.WrongNotary h refl in
    let tagged = conflict_else (not (has_good_tag mark q)) answer.BadRequestTag (cond (list_any (signs id) before) (answer.Signed (tag_by mark me id)) free) shown refl in
    let unsigned = conflict_else (list_any (signs id) before) (answer.Signed (tag_by mark me id)) free tagged.1 refl in
    let mine = conflict_then (is_party me v.notary) (answer_shown mark me before q now v) answer.WrongNotary h refl in
    record { seen = v; good = good; mine = mine; named = named_by before id v (conflict_list mark me id now v.window (conflicts before id v) unsigned.1); unsigned = unsigned.0 }

conflict_unsigned : (a : NotaryAnswer) → is_conflict a ≡ true → is_signature a ≡ false
conflict_unsigned (answer.Signed tag) h = absurd (true≢false (sym h))
conflict_unsigned answer.WrongNotary h = refl
conflict_unsigned answer.BadTear h = refl
conflict_unsigned answer.BadRequestTag h = refl
conflict_unsigned (answer.Conflict list) h = refl
conflict_unsigned (answer.OutsideWindow now) h = refl

refusal_blocks : (mark : Party → Hash32 → Hash32) (me : Identity) (before : List Entry) (e : Entry) → IsBooked mark me before e → is_conflict e.answer ≡ true → Blocked me.party e.request.torn.id (before ++ e ∷ [])
refusal_blocks mark me before e booked h =
    let q = e.request in
    let given = answered_anew mark me before booked.0 e booked.1 in
    let torn = conflict_first (is_notary me) (answer_torn mark me.party before q booked.0 (visible_of q.torn)) answer.WrongNotary (ap is_conflict given ∙ h) refl in
    let r = refusal_torn mark me.party before q booked.0 (visible_of q.torn) refl torn in
    record {
      seen = r.seen;
      named = record { ref = r.named.ref; has = r.named.has; taken = any_append (consumes q.torn.id r.named.ref) before (e ∷ []) r.named.taken };
      unsigned = none_push (signs q.torn.id) before e r.unsigned (and_left (is_signature e.answer) (hash_eq q.torn.id e.request.torn.id) (conflict_unsigned e.answer h));
      shown = λ p is all v good named. all_last (λ d. Agree me.party p d.request) before e all (sym is) v r.seen good r.good named r.mine;
    }

-- ---- the whole book

blocked_after : (mark : Party → Hash32 → Hash32) (me : Identity) (before es : List Entry) (id : Hash32) → IsBookAfter mark me before es → AgreeAfter me.party before es → Blocked me.party id before ⊎ (list_any (refuses id) es ≡ true) → Blocked me.party id (before ++ es)
blocked_after mark me before [] id book agree h =
    ⊎_elim (λ b. subst (λ (l : List Entry). Blocked me.party id l) (sym (append-nil before)) b) (λ k. absurd (true≢false (sym k))) h
blocked_after mark me before (e ∷ es) id book agree h =
    let next : Blocked me.party id (before ++ e ∷ []) ⊎ (list_any (refuses id) es ≡ true) =
    ⊎_elim
    (λ b. inl (blocked_more mark me before e id book.0 agree.0 b))
    (λ k. ⊎_elim
    (λ p. let both = and_parts (is_conflict e.answer) (hash_eq id e.request.torn.id) p in inl (subst (λ (x : Hash32). Blocked me.party x (before ++ e ∷ [])) (sym (hash_exact id e.request.torn.id both.1)) (refusal_blocks mark me before e book.0 both.0)))
    (λ p. inr p) (or_cases _ _ k)) h in
    subst (λ (l : List Entry). Blocked me.party id l) (append_assoc before (e ∷ []) es) (blocked_after mark me (before ++ e ∷ []) es id book.1 agree.1 next)

blocked_by : (mark : Party → Hash32 → Hash32) (me : Identity) (book : List Entry) (id : Hash32) → IsBook mark me book → AllAgree me.party book → list_any (refuses id) book ≡ true → Blocked me.party id book
unfolding IsBook
blocked_by mark me book id h agree refused = blocked_after mark me [] book id h agree (inr refused)

-- ---- the answer that is repeated

same_id : (q : Request) (e : Entry) → repeats q e ≡ true → hash_eq q.torn.id e.request.torn.id ≡ true
same_id q e h = (and_parts _ _ (and_parts _ _ h).1).1

repeated_unsigned : (q : Request) (xs : List Entry) (e : Entry) → find (repeats q) xs ≡ Some e → list_any (signs q.torn.id) xs ≡ false → is_signature e.answer ≡ false
repeated_unsigned q [] e h k = cc
repeated_unsigned q (x ∷ xs) e h k =
    let none = or_parts (signs q.torn.id x) (list_any (signs q.torn.id) xs) k in
    (elim (repeats q x) as (λ b. repeats q x ≡ b → cond b (Some x) (find (repeats q) xs) ≡ Some e → is_signature e.answer ≡ false) [
      | true ↦ λ t f. sym (ap (λ (d : Entry). is_signature d.answer) (some_eq f)) ∙ ⊎_elim (λ z. z) (λ z. absurd (both_ways _ z (same_id q x t))) (and_cases (is_signature x.answer) (hash_eq q.torn.id x.request.torn.id) none.0)
      | false ↦ λ t f. repeated_unsigned q xs e f none.1
    ]) refl h

repeated_refuses : (q : Request) (xs : List Entry) (e : Entry) → find (repeats q) xs ≡ Some e → is_conflict e.answer ≡ true → list_any (refuses q.torn.id) xs ≡ true
repeated_refuses q [] e h k = cc
repeated_refuses q (x ∷ xs) e h k =
    (elim (repeats q x) as (λ b. repeats q x ≡ b → cond b (Some x) (find (repeats q) xs) ≡ Some e → list_any (refuses q.torn.id) (x ∷ xs) ≡ true) [
      | true ↦ λ t f. any_here (refuses q.torn.id) x xs (and_from (is_conflict x.answer) (hash_eq q.torn.id x.request.torn.id) (ap (λ (d : Entry). is_conflict d.answer) (some_eq f) ∙ k) (same_id q x t))
      | false ↦ λ t f. any_behind (refuses q.torn.id) (x ∷ []) xs (repeated_refuses q xs e f k)
    ]) refl h

-- an id that was answered a conflict is never signed
pub refused_unsigned : (mark : Party → Hash32 → Hash32) (me : Identity) (book : List Entry) (q : Request) (now : Moment) → IsBook mark me book → AllAgree me.party book → AgreesWith me.party q book → list_any (refuses q.torn.id) book ≡ true → is_signature (reply mark book q me now).answer ≡ false
unfolding reply
refused_unsigned mark me book q now h agree agrees refused = by (find (repeats q) book) refl
  where
    b : Blocked me.party q.torn.id book
    b = blocked_by mark me book q.torn.id h agree refused

    by : (o : Option Entry) → find (repeats q) book ≡ o → is_signature (reply_over mark me book q now o).answer ≡ false
    by (Some e) f = repeated_unsigned q book e f b.unsigned
    by None f = blocked_new mark me book q now b agrees

-- an id that was signed is never answered a conflict
pub signed_unrefused : (mark : Party → Hash32 → Hash32) (me : Identity) (book : List Entry) (q : Request) (now : Moment) → IsBook mark me book → AllAgree me.party book → list_any (signs q.torn.id) book ≡ true → is_conflict (reply mark book q me now).answer ≡ false
unfolding reply
signed_unrefused mark me book q now h agree signed = by (find (repeats q) book) refl
  where
    by : (o : Option Entry) → find (repeats q) book ≡ o → is_conflict (reply_over mark me book q now o).answer ≡ false
    by (Some e) f = false_from_ne_true (is_conflict e.answer) (λ k. both_ways _ (blocked_by mark me book q.torn.id h agree (repeated_refuses q book e f k)).unsigned signed)
    by None f = no_if (is_notary me) (answer_torn mark me.party book q now (visible_of q.torn)) answer.WrongNotary (no_torn mark me.party book q now (visible_of q.torn) signed) refl
