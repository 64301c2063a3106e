-- In a run each tag by the notary checks, and is over an id that the notary's book has signed.
use Rattle.std.proofs.Common.{◌≡◌, ℕ, ◌⊎◌, inl, inr, ⊎_elim, List, [], ◌∷◌, ◌++◌, Option, Some, None, Bool, true, false, cond, ◌==◌, not, find, option_to_list, slice_get, slice_set, refl, sym, ap, subst, ◌∙◌, append-nil}
use Rattle.std.specs.List.{list_all, list_any}
use Rattle.std.proofs.lemmas.Bool.{and_parts, and_from, or_cases, or_left, or_right, not_from_false, eqb-true, eqb-false, eq-eqb, ne_eqb}
use Rattle.net_base.specs.declared.names.Key.{Key}
use Rattle.net_base.specs.declared.values.Hash32.{Hash32}
use Rattle.net_base.specs.declared.values.Party.{Party}
use Rattle.net_base.specs.declared.names.Tag.{Tag}
use Rattle.net_base.specs.declared.causes.Cause.{Cause}
use Rattle.net_base.specs.declared.causes.Event.{Event}
use Rattle.net_base.specs.declared.causes.Event.TheVariants as event
use Rattle.ledger_types.specs.declared.tx.SignedTx.{SignedTx}
use Rattle.ledger_types.specs.declared.notary.ConflictItem.{ConflictItem}
use Rattle.ledger_types.specs.declared.notary.Entry.{Entry}
use Rattle.ledger_types.specs.declared.notary.Request.{Request}
use Rattle.ledger_types.specs.declared.torn.Visible.{Visible}
use Rattle.ledger_types.specs.declared.notary.NotaryAnswer.{NotaryAnswer}
use Rattle.ledger_types.specs.declared.notary.NotaryAnswer.TheVariants as answer
use Rattle.session_wire.specs.declared.body.Body.{Body}
use Rattle.flow_machine.specs.declared.flows.FlowState.{FlowState}
use Rattle.flow_machine.specs.declared.flows.FlowState.TheVariants as state
use Rattle.ledger_types.specs.Names.{party_eq, is_party}
use Rattle.net_base.specs.declared.values.Moment.{Moment}
use Rattle.net_base.specs.declared.names.Identity.{Identity}
use Rattle.net_base.proofs.Lists.{get_there, any_append, any_push, found_passes, passes_weaken}
use Rattle.net_base.proofs.Options.{some_eq}
use Rattle.ledger_types.specs.declared.tx.Window.{Window}
use Rattle.session_wire.specs.Sessions.{Sent, Session, key_eq, session_of}
use Rattle.net_model.specs.Environment.{Environment, party, identity}
use Rattle.flow_machine.specs.Machine.{Machine}
use Rattle.ledger_types.specs.Notary.{repeats, tag_by, signs, is_notary, is_inside, has_good_tag, conflicts, answer_unsigned, answer_shown, answer_torn, reply_over, reply, entry_of}
use Rattle.ledger_types.specs.Tears.{visible_of}
use Rattle.ledger_types.proofs.Names.{hash_same}
use Rattle.net_model.specs.State.{NodeState, Effect, apply_effect, fresh}
use Rattle.net_model.specs.Steps.{booked_by, body_in}
use Rattle.net_model.specs.Runs.{sent_to, item_from, item_for, net_step, fresh_net, run_from, run_of}
use Rattle.flow_machine.specs.Tags.{answer_tags, KeepsTags, BeginsBare}
use Rattle.net_model.specs.Tags.{flow_passes, body_passes, ending_passes, session_passes, entry_passes, Passes, is_good, entries_at, book_of, Holds, NotaryTagsHold}
use Rattle.net_model.proofs.Basics.{from_then, from_cond, get_set, fresh_get, apply_entries}
use Rattle.net_model.proofs.Effects.{step_taken}
use Rattle.net_model.proofs.Acts.{effect_does}
use Rattle.net_model.proofs.Local.{net_taken, body_in_item}
use Rattle.net_model.proofs.Lists.{all_get}
use Rattle.net_model.proofs.Passing.{applied_passes}
use Rattle.net_model.proofs.Holding.{does_brings}

-- ---- a weaker test

module _ {F : Type 0} (m : Machine F) (test other : Tag → Bool) (weaker : (tag : Tag) → test tag ≡ true → other tag ≡ true) where
  tags_weaker : (tags : List Tag) → list_all test tags ≡ true → list_all other tags ≡ true
  tags_weaker tags h = passes_weaken test other tags weaker h

  flow_weaker : (x : FlowState F) → flow_passes m.tags test x ≡ true → flow_passes m.tags other x ≡ true
  flow_weaker (state.Live at) h =
      let p = and_parts _ _ h in let q = and_parts _ _ p.1 in
      and_from _ _ (tags_weaker (m.tags at.stack.top) p.0) (and_from _ _ (passes_weaken (λ x. list_all test (m.tags x)) (λ x. list_all other (m.tags x)) at.stack.below (λ x. tags_weaker (m.tags x)) q.0) (tags_weaker _ q.1))
  flow_weaker (state.Ended step class v) h = tags_weaker _ h
  flow_weaker (state.Failed step class code) h = refl

  ending_weaker : (o : Option Body) → ending_passes test o ≡ true → ending_passes other o ≡ true
  ending_weaker None h = refl
  ending_weaker (Some b) h = tags_weaker _ h

  session_weaker : (x : Session) → session_passes test x ≡ true → session_passes other x ≡ true
  session_weaker x h =
      let p = and_parts _ _ h in let q = and_parts _ _ p.1 in
      and_from _ _ (passes_weaken (λ (i : Sent). body_passes test i.body) (λ (i : Sent). body_passes other i.body) x.sent (λ i. tags_weaker _) p.0)
      (and_from _ _ (passes_weaken (body_passes test) (body_passes other) x.came (λ b. tags_weaker _) q.0) (ending_weaker x.ending q.1))

  entry_weaker : (x : Entry) → entry_passes test x ≡ true → entry_passes other x ≡ true
  entry_weaker x h = let p = and_parts _ _ h in and_from _ _ (weaker _ p.0) (tags_weaker _ p.1)

  pub passes_weaker : (s : NodeState F) → Passes m test s → Passes m other s
  passes_weaker s h = record {
    flows = passes_weaken (flow_passes m.tags test) (flow_passes m.tags other) s.flows flow_weaker h.flows;
    sessions = passes_weaken (session_passes test) (session_passes other) s.sessions session_weaker h.sessions;
    stored = passes_weaken (λ (x : SignedTx). list_all test x.tags) (λ (x : SignedTx). list_all other x.tags) s.stored (λ x. tags_weaker x.tags) h.stored;
    entries = passes_weaken (entry_passes test) (entry_passes other) s.entries entry_weaker h.entries;
  }

-- ---- the book of the network grows at its end

good_more : {F : Type 0} (w : Environment F) (book more : List Entry) (tag : Tag) → is_good w book tag ≡ true → is_good w (book ++ more) tag ≡ true
good_more w book more tag h = ⊎_elim (λ p. or_left _ _ p) (λ p. let q = and_parts _ _ p in or_right _ _ (and_from _ _ q.0 (any_append (signs tag.of) book more q.1))) (or_cases _ _ h)

-- what a step adds to the notary's book
record Grown {F : Type 0} (w : Environment F) (net next : List (NodeState F)) (p : ℕ) (s : NodeState F) (e : Effect F) : Type 0 where
  more : List Entry
  is : book_of w next ≡ book_of w net ++ more
  here : (w.notary.0 == p) ≡ true → book_of w next ≡ s.entries ++ option_to_list e.change.booked

grown : {F : Type 0} (w : Environment F) (net : List (NodeState F)) (p : ℕ) (s : NodeState F) (cause : Cause) (e : Effect F) → slice_get net p ≡ Some s → Grown w net (slice_set net p (apply_effect s cause e)) p s e
grown {F} w net p s cause e is = ⊎_elim
    (λ k. let old : book_of w net ≡ s.entries = ap entries_at (ap (slice_get net) k.0 ∙ is) in
    let new : book_of w (slice_set net p (apply_effect s cause e)) ≡ s.entries ++ option_to_list e.change.booked = ap entries_at k.1 ∙ apply_entries s cause e in
    record { more = option_to_list e.change.booked; is = new ∙ ap (λ (l : List Entry). l ++ option_to_list e.change.booked) (sym old); here = λ _. new })
    (λ k. let same : book_of w (slice_set net p (apply_effect s cause e)) ≡ book_of w net = ap entries_at k in
    record {
      more = [];
      is = same ∙ sym (append-nil (book_of w net));
      here = λ t.
          let there : w.notary.0 ≡ p = eqb-true w.notary.0 p t in
          ap entries_at (ap (slice_get (slice_set net p (apply_effect s cause e))) there ∙ get_there net p s (apply_effect s cause e) is) ∙ apply_entries s cause e;
    })
    (get_set net p s (apply_effect s cause e) w.notary.0 is)

-- ---- the answers of the book

-- an answer that holds no tag, or the notary's own over the id
abbrev Fair : (Party → Hash32 → Hash32) → Party → Hash32 → NotaryAnswer → Type 0
Fair mark me id given = (answer_tags given ≡ []) ⊎ (given ≡ answer.Signed (tag_by mark me id))

module _ (mark : Party → Hash32 → Hash32) (me : Party) where
  fair_if : (id : Hash32) (b : Bool) (x y : NotaryAnswer) → Fair mark me id x → Fair mark me id y → Fair mark me id (cond b x y)
  fair_if id true x y h k = h
  fair_if id false x y h k = k

  fair_unsigned : (id : Hash32) (now : Moment) (window : Option Window) (list : List ConflictItem) → Fair mark me id (answer_unsigned mark me id now window list)
  fair_unsigned id now window [] = fair_if id (is_inside window now) (answer.Signed (tag_by mark me id)) (answer.OutsideWindow now) (inr refl) (inl refl)
  fair_unsigned id now window (c ∷ cs) = inl refl

  fair_shown : (book : List Entry) (q : Request) (now : Moment) (v : Visible) → Fair mark me q.torn.id (answer_shown mark me book q now v)
  fair_shown book q now v =
      let id = q.torn.id in
      let unsigned = answer_unsigned mark me id now v.window (conflicts book id v) in
      let signed = cond (list_any (signs id) book) (answer.Signed (tag_by mark me id)) unsigned in
      fair_if id (not (has_good_tag mark q)) answer.BadRequestTag signed (inl refl)
      (fair_if id (list_any (signs id) book) (answer.Signed (tag_by mark me id)) unsigned (inr refl) (fair_unsigned id now v.window (conflicts book id v)))

  fair_torn : (book : List Entry) (q : Request) (now : Moment) (o : Option Visible) → Fair mark me q.torn.id (answer_torn mark me book q now o)
  fair_torn book q now None = inl refl
  fair_torn book q now (Some v) = fair_if q.torn.id (is_party me v.notary) (answer_shown mark me book q now v) answer.WrongNotary (fair_shown book q now v) (inl refl)

module _ {F : Type 0} (w : Environment F) (me : Identity) (book : List Entry) (q : Request) (now : Moment) where
  -- the fresh answer is good once its entry stands in the book
  fresh_good : (given : NotaryAnswer) → Fair w.mark me.party q.torn.id given → list_all (is_good w (book ++ entry_of q given ∷ [])) (answer_tags given) ≡ true
  fresh_good given f = ⊎_elim
      (λ k. ap (list_all (is_good w (book ++ entry_of q given ∷ []))) k)
      (λ k. subst (λ (g : NotaryAnswer). list_all (is_good w (book ++ entry_of q g ∷ [])) (answer_tags g) ≡ true) (sym k)
      (and_from _ _ (or_right _ _ (and_from _ _ (hash_same (w.mark me.party q.torn.id)) (any_push (signs q.torn.id) book _ (hash_same q.torn.id)))) refl))
      f

  answers_over : (o : Option Entry) (b : Bool) (new : List Entry) → find (repeats q) book ≡ o → is_notary me ≡ b → list_all (entry_passes (is_good w new)) book ≡ true → (is_notary me ≡ true → new ≡ book ++ option_to_list (booked_by q (reply_over w.mark me book q now o))) → list_all (is_good w new) (answer_tags (reply_over w.mark me book q now o).answer) ≡ true
  answers_over (Some e) b new f g h k = let p = found_passes (entry_passes (is_good w new)) (repeats q) book e h f in (and_parts _ _ p).1
  answers_over None false new f g h k = ap (λ (c : Bool). list_all (is_good w new) (answer_tags (cond c (answer_torn w.mark me.party book q now (visible_of q.torn)) answer.WrongNotary))) g
  answers_over None true new f g h k =
      let given = answer_torn w.mark me.party book q now (visible_of q.torn) in
      let good = fresh_good given (fair_torn w.mark me.party book q now (visible_of q.torn)) in
      let is : new ≡ book ++ entry_of q given ∷ [] = k g ∙ ap (λ (c : Bool). book ++ option_to_list (cond c (Some (entry_of q (cond c given answer.WrongNotary))) None)) g in
      ap (λ (c : Bool). list_all (is_good w new) (answer_tags (cond c given answer.WrongNotary))) g ∙ subst (λ (l : List Entry). list_all (is_good w l) (answer_tags given) ≡ true) (sym is) good

  -- the answer is good once its entry, if it is fresh, stands in the book
  answers_by : (new : List Entry) → list_all (entry_passes (is_good w new)) book ≡ true → (is_notary me ≡ true → new ≡ book ++ option_to_list (booked_by q (reply w.mark book q me now))) → list_all (is_good w new) (answer_tags (reply w.mark book q me now).answer) ≡ true
  unfolding reply
  answers_by new h k = answers_over (find (repeats q) book) (is_notary me) new refl refl h k

-- ---- the items of the network

sent_passes : (test : Tag → Bool) (me n : ℕ) (o : Option Session) (item : Sent) → ((x : Session) → o ≡ Some x → session_passes test x ≡ true) → sent_to me n o ≡ Some item → body_passes test item.body ≡ true
sent_passes test me n None item f h = cc
sent_passes test me n (Some x) item f h =
    let p = and_parts _ _ (f x refl) in
    from_cond _ (x.peer.0 == me) (slice_get x.sent n) item h (λ _ k. all_get (λ (i : Sent). body_passes test i.body) x.sent n item p.0 k)

module _ {F : Type 0} (w : Environment F) (net : List (NodeState F)) (test : Tag → Bool) (all : (q : ℕ) (s : NodeState F) → slice_get net q ≡ Some s → Passes w.machine test s) where
  from_passes : (me q n : ℕ) (key : Key) (item : Sent) → item_from net me q key n ≡ Some item → body_passes test item.body ≡ true
  unfolding item_from
  from_passes me q n key item h = from_then _ (λ s. sent_to me n (session_of key s.sessions)) (slice_get net q) item h (λ s is k. sent_passes test me n (session_of key s.sessions) item (λ x there. found_passes (session_passes test) (λ y. key_eq key y.key) s.sessions x (all q s is).sessions there) k)

  item_passes : (me : ℕ) (s : NodeState F) (ev : Event) (item : Sent) → item_for net me s ev ≡ Some item → body_passes test item.body ≡ true
  item_passes me s (event.Answer key) item h = from_passes me key.initiator.0 0 key item h
  item_passes me s (event.Arrive key direction number) item h = from_then _ (λ x. item_from net me x.peer.0 key number) (session_of key s.sessions) item h (λ x is k. from_passes me x.peer.0 number key item k)
  item_passes me s (event.Start f class args) item h = cc
  item_passes me s (event.Move f) item h = cc
  item_passes me s (event.Lapse f) item h = cc

own_good : {F : Type 0} (w : Environment F) (book : List Entry) (me : ℕ) (id : Hash32) → (w.notary.0 == me) ≡ false → is_good w book (tag_by w.mark (party me) id) ≡ true
own_good w book me id h = or_left _ _ (not_from_false _ (ne_eqb me w.notary.0 (λ k. eqb-false w.notary.0 me h (sym k))))

same_test : {F : Type 0} (w : Environment F) (p : ℕ) → party_eq (party p) w.notary ≡ true → (w.notary.0 == p) ≡ true
same_test w p h = eq-eqb w.notary.0 p (sym (eqb-true p w.notary.0 h))

-- ---- a step of the network

pub step_holds : {F : Type 0} (w : Environment F) → KeepsTags w.machine → BeginsBare w.machine → (net next : List (NodeState F)) (p : ℕ) (cause : Cause) (e : Effect F) → net_step w net p cause ≡ Some (next, e) → Holds w net → Holds w next
step_holds {F} w keeps bare net next p cause e h all =
    let k = net_taken w net next p cause e h in
    let s = k.old in
    let new = slice_set net p (apply_effect s cause e) in
    let st = step_taken w p s _ cause (item_for net p s cause.event) e k.step in
    let g = grown w net p s cause e k.is in
    let test = is_good w (book_of w new) in
    let weaker : (tag : Tag) → is_good w (book_of w net) tag ≡ true → test tag ≡ true = λ tag good. subst (λ (l : List Entry). is_good w l tag ≡ true) (sym g.is) (good_more w (book_of w net) g.more tag good) in
    let now_all : (q : ℕ) (t : NodeState F) → slice_get net q ≡ Some t → Passes w.machine test t = λ q t is. passes_weaker w.machine (is_good w (book_of w net)) test weaker t (all q t is) in
    let mine = now_all p s k.is in
    let brings = does_brings w p s cause.moment.0 test mine keeps (λ no id. own_good w (book_of w new) p id no) bare cause.event (body_in (item_for net p s cause.event)) e
    (λ b is. let i = body_in_item (item_for net p s cause.event) b is in subst (λ (x : Body). body_passes test x ≡ true) i.2 (item_passes w net test now_all p s cause.event i.0 i.1))
    (λ q is. answers_by w (identity w p) s.entries q (record { 0 = cause.moment.0 }) (book_of w new) mine.entries (λ there. g.here (same_test w p there) ∙ ap (λ (o : Option Entry). s.entries ++ option_to_list o) is))
    (effect_does w p s cause.moment.0 cause.event _ e st.effect) in
    let after = applied_passes w.machine test s cause e mine brings in
    let there : Holds w new = λ q t is. ⊎_elim
    (λ l. subst (λ (x : NodeState F). Passes w.machine test x) (some_eq (sym l.1 ∙ is)) after)
    (λ l. now_all q t (sym l ∙ is))
    (get_set net p s (apply_effect s cause e) q k.is) in
    subst (λ (n : List (NodeState F)). Holds w n) (sym k.new) there

fresh_passes : {F : Type 0} (m : Machine F) (test : Tag → Bool) → Passes m test (fresh {F = F})
fresh_passes m test = record { flows = refl; sessions = refl; stored = refl; entries = refl }

fresh_holds : {F : Type 0} (w : Environment F) → Holds w (fresh_net w)
fresh_holds {F} w p s h = subst (λ (x : NodeState F). Passes w.machine (is_good w (book_of w (fresh_net w))) x) (fresh_get w.nodes p fresh s h) (fresh_passes w.machine _)

run_holds_from : {F : Type 0} (w : Environment F) → KeepsTags w.machine → BeginsBare w.machine → (net last : List (NodeState F)) (causes : List (ℕ × Cause)) → run_from w net causes ≡ Some last → Holds w net → Holds w last
run_holds_from {F} w keeps bare net last [] h all = subst (λ (n : List (NodeState F)). Holds w n) (some_eq h) all
run_holds_from w keeps bare net last (x ∷ xs) h all = from_then _ (λ done. run_from w done.0 xs) (net_step w net x.0 x.1) last h (λ done is k. run_holds_from w keeps bare done.0 last xs k (step_holds w keeps bare net done.0 x.0 x.1 done.1 is all))

pub run_holds : {F : Type 0} (w : Environment F) → KeepsTags w.machine → BeginsBare w.machine → (causes : List (ℕ × Cause)) (net : List (NodeState F)) → run_of w causes ≡ Some net → Holds w net
unfolding run_of
run_holds w keeps bare causes net h = run_holds_from w keeps bare (fresh_net w) net causes h (fresh_holds w)

pub notary_tags_hold : {F : Type 0} → NotaryTagsHold F
notary_tags_hold w causes net keeps bare h = run_holds w keeps bare causes net h
