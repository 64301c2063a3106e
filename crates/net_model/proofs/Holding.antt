-- Each step keeps the notary's tags good.
use Rattle.std.proofs.Common.{◌≡◌, ℕ, zero, suc, ◌+◌, List, [], ◌∷◌, Option, Some, None, Bool, true, false, cond, ◌==◌, map, find, drop, option_map, option_to_list, length, slice_get, refl, sym, ap, subst, ◌∙◌}
use Rattle.std.specs.List.{list_all}
use Rattle.std.proofs.lemmas.Bool.{and_parts, and_from}
use Rattle.net_base.specs.declared.names.Key.{Key}
use Rattle.net_base.specs.declared.values.Hash32.{Hash32}
use Rattle.net_base.specs.declared.names.Tag.{Tag}
use Rattle.net_base.specs.declared.causes.Event.{Event}
use Rattle.net_base.proofs.Lists.{found_passes}
use Rattle.net_base.proofs.Options.{some_eq}
use Rattle.ledger_types.specs.declared.tx.SignedTx.{SignedTx}
use Rattle.ledger_types.specs.declared.notary.Entry.{Entry}
use Rattle.ledger_types.specs.declared.notary.Request.{Request}
use Rattle.ledger_types.specs.declared.notary.NotaryAnswer.{NotaryAnswer}
use Rattle.session_wire.specs.declared.body.Body.{Body}
use Rattle.session_wire.specs.declared.body.Body.TheVariants as body_of
use Rattle.flow_machine.specs.declared.acts.Act.{Act}
use Rattle.flow_machine.specs.declared.acts.Resumed.{Resumed}
use Rattle.flow_machine.specs.declared.acts.Resumed.TheVariants as resumed
use Rattle.flow_machine.specs.declared.flows.Checkpoint.{Checkpoint}
use Rattle.flow_machine.specs.declared.flows.FlowState.{FlowState}
use Rattle.flow_machine.specs.declared.flows.FlowState.TheVariants as state
use Rattle.session_wire.specs.Sessions.{Session, first_item, is_confirm, key_eq, next_item, session_of}
use Rattle.net_model.specs.Environment.{Environment, party, identity}
use Rattle.ledger_types.specs.Notary.{Reply, reply, tag_by}
use Rattle.ledger_types.specs.Names.{hash_eq}
use Rattle.ledger_types.specs.Signatures.{tx_id}
use Rattle.ledger_types.specs.Stores.{stored_of}
use Rattle.net_model.specs.State.{NodeState, Effect, Change, with_ids}
use Rattle.net_model.specs.Steps.{Done, handed, onwards, booked_by, place, answering, checkpoint_of, live_at, live}
use Rattle.session_wire.specs.Rules.{sessions_of, item_on}
use Rattle.flow_machine.specs.Tags.{answer_tags, value_tags, act_tags, resumed_tags, KeepsTags, BeginsBare}
use Rattle.net_model.specs.Tags.{body_tags, flow_passes, body_passes, ending_passes, session_passes, entry_passes, Passes}
use Rattle.net_model.proofs.Basics.{from_some, from_map, from_then}
use Rattle.net_model.proofs.Acts.{IsTold, judged, short, absent, ids, recorded, refused, timed, Performs, tells, opens_to, sends_on, takes_from, has_found, has_tagged, has_locked, has_answered, has_recorded, Gives, goes, pushed, popped, finished, failed, Does, starts, answers_to, arrives, acts, owned_there}
use Rattle.net_model.proofs.Booked.{added}
use Rattle.net_model.proofs.Lists.{all_option, all_get}
use Rattle.net_model.proofs.Passing.{Brings, part_passes}

told_bare : (r : Resumed) → IsTold r → resumed_tags r ≡ []
told_bare r (judged v e) = ap resumed_tags e
told_bare r (short have e) = ap resumed_tags e
told_bare r (absent e) = ap resumed_tags e
told_bare r (ids list e) = ap resumed_tags e
told_bare r (recorded e) = ap resumed_tags e
told_bare r (refused code e) = ap resumed_tags e
told_bare r (timed e) = ap resumed_tags e

found_test : (P : SignedTx → Bool) (id : Hash32) (xs : List SignedTx) (stx : SignedTx) → list_all P xs ≡ true → stored_of (with_ids xs) id ≡ Some stx → P stx ≡ true
found_test P id [] stx h e = cc
found_test P id (x ∷ xs) stx h e =
    let p = and_parts (P x) (list_all P xs) h in
    (elim (hash_eq id (tx_id x.tx)) as (λ b. option_map (λ (q : Hash32 × SignedTx). q.1) (cond b (Some (tx_id x.tx, x)) (find (λ q. hash_eq id q.0) (with_ids xs))) ≡ Some stx → P stx ≡ true) [
      | true ↦ λ k. subst (λ (z : SignedTx). P z ≡ true) (some_eq k) p.0
      | false ↦ λ k. found_test P id xs stx p.1 k
    ]) e

handed_tags : (body : Body) → resumed_tags (handed body) ≡ body_tags body
handed_tags (body_of.Init class first) = refl
handed_tags body_of.Confirm = refl
handed_tags (body_of.Reject code) = refl
handed_tags (body_of.Data v) = refl
handed_tags (body_of.Error code) = refl
handed_tags body_of.End = refl

all_drop : {X : Type 0} (test : X → Bool) (n : ℕ) (xs : List X) → list_all test xs ≡ true → list_all test (drop n xs) ≡ true
all_drop test zero xs h = h
all_drop test (suc n) [] h = h
all_drop test (suc n) (x ∷ xs) h = all_drop test n xs (and_parts _ _ h).1

module _ (test : Tag → Bool) where
  first_passes : (n : ℕ) (bodies : List Body) (found : ℕ × Body) → list_all (body_passes test) bodies ≡ true → first_item n bodies ≡ Some found → body_passes test found.1 ≡ true
  first_passes n [] found h e = cc
  first_passes n (body ∷ bodies) found h e =
      let p = and_parts _ _ h in
      (elim (is_confirm body) as (λ b. cond b (first_item (n + 1) bodies) (Some (n, body)) ≡ Some found → body_passes test found.1 ≡ true)
      [ true ↦ λ k. first_passes (n + 1) bodies found p.1 k | false ↦ λ k. from_some (λ (x : ℕ × Body). body_passes test x.1 ≡ true) k p.0 ]) e

  next_passes : (session : Session) (o : Option Body) (next : Option ℕ × Body) → session.ending ≡ o → session_passes test session ≡ true → next_item session o ≡ Some next → body_passes test next.1 ≡ true
  next_passes session (Some ending) next e h k =
      let p = and_parts _ _ h in let q = and_parts _ _ p.1 in
      let r : body_passes test ending ≡ true = ap (ending_passes test) (sym e) ∙ q.1 in
      from_some (λ (x : Option ℕ × Body). body_passes test x.1 ≡ true) k r
  next_passes session None next e h k =
      let p = and_parts _ _ h in let q = and_parts _ _ p.1 in
      from_map (λ (x : Option ℕ × Body). body_passes test x.1 ≡ true) (λ found. (Some found.0, found.1)) (first_item session.taken (drop session.taken session.came)) next k (λ found is. first_passes session.taken (drop session.taken session.came) found (all_drop (body_passes test) session.taken session.came q.0) is)

-- what performing an act brings, and what it hands on
record BringsDone (test : Tag → Bool) (d : Done) : Type 0 where
  resumed : list_all test (resumed_tags d.0) ≡ true
  sent : list_all (λ item. body_passes test item.body) d.1.sent ≡ true
  came : list_all (body_passes test) (option_to_list d.1.came) ≡ true
  recorded : list_all (λ stx. list_all test stx.tags) (option_to_list d.1.recorded) ≡ true
  booked : list_all (entry_passes test) (option_to_list d.1.booked) ≡ true

module _ {F : Type 0} (w : Environment F) (me : ℕ) (s : NodeState F) (now : ℕ) (test : Tag → Bool) (passes : Passes w.machine test s) (keeps : KeepsTags w.machine) (own : (w.notary.0 == me) ≡ false → (id : Hash32) → test (tag_by w.mark (party me) id) ≡ true) where
  -- the reply of the book
  abbrev Given : Request → Reply
  Given q = reply w.mark s.entries q (identity w me) (record { 0 = now })

  -- the answer that the book gives passes
  abbrev Answers : Option Entry → Type 0
  Answers booked = (q : Request) → booked ≡ booked_by q (Given q) → list_all test (answer_tags (Given q).answer) ≡ true

  booked_as : (q : Request) (b : Entry) → booked_by q (Given q) ≡ Some b → (q ≡ b.request) × ((Given q).answer ≡ b.answer)
  booked_as q b h = let a = added w.mark (identity w me) s.entries q (record { 0 = now }) b h in (ap (λ (x : Entry). x.request) a.is, ap (λ (x : Entry). x.answer) a.is)

  bring : (d x : Done) → d ≡ x → BringsDone test x → BringsDone test d
  bring d x e b = subst (BringsDone test) (sym e) b

  done_brings : (f : ℕ) (a : Act F) (d : Done) → list_all test (act_tags w.machine.tags a) ≡ true → Answers d.1.booked → Performs w me s now f a d → BringsDone test d
  done_brings f a d h answers (tells told e) =
      let bare = told_bare d.0 told in
      record { resumed = ap (list_all test) bare; sent = ap (λ (c : Change). list_all (λ item. body_passes test item.body) c.sent) e; came = ap (λ (c : Change). list_all (body_passes test) (option_to_list c.came)) e; recorded = ap (λ (c : Change). list_all (λ stx. list_all test stx.tags) (option_to_list c.recorded)) e; booked = ap (λ (c : Change). list_all (entry_passes test) (option_to_list c.booked)) e }
  done_brings f a d h answers (opens_to to class first i j k e) =
      let p : list_all test (value_tags first) ≡ true = ap (λ (x : Act F). list_all test (act_tags w.machine.tags x)) (sym i) ∙ h in
      bring d _ e (record { resumed = refl; sent = and_from _ _ p refl; came = refl; recorded = refl; booked = refl })
  done_brings f a d h answers (sends_on key value session i j e) =
      let p : list_all test (value_tags value) ≡ true = ap (λ (x : Act F). list_all test (act_tags w.machine.tags x)) (sym i) ∙ h in
      bring d _ e (record { resumed = refl; sent = and_from _ _ p refl; came = refl; recorded = refl; booked = refl })
  done_brings f a d h answers (takes_from key session next i j e) =
      let there = owned_there f (session_of key s.sessions) session i in
      let good = found_passes (session_passes test) (λ x. key_eq key x.key) s.sessions session passes.sessions there in
      let p = next_passes test session session.ending next refl good j in
      bring d _ e (record { resumed = ap (list_all test) (handed_tags next.1) ∙ p; sent = refl; came = refl; recorded = refl; booked = refl })
  done_brings f a d h answers (has_found id stx i e) =
      let p = found_test (λ (x : SignedTx). list_all test x.tags) id s.stored stx passes.stored i in
      bring d _ e (record { resumed = p; sent = refl; came = refl; recorded = refl; booked = refl })
  done_brings f a d h answers (has_tagged id i e) =
      bring d _ e (record { resumed = and_from _ _ (own i id) refl; sent = refl; came = refl; recorded = refl; booked = refl })
  done_brings f a d h answers (has_locked token amount list i e) =
      bring d _ e (record { resumed = refl; sent = refl; came = refl; recorded = refl; booked = refl })
  done_brings f a d h answers (has_answered q i e) =
      let p : list_all test (q.tag ∷ []) ≡ true = ap (λ (x : Act F). list_all test (act_tags w.machine.tags x)) (sym i) ∙ h in
      let given = answers q (ap (λ (x : Done). x.1.booked) e) in
      bring d _ e (record {
        resumed = given;
        sent = refl;
        came = refl;
        recorded = refl;
        booked = all_option (entry_passes test) (booked_by q (Given q)) (λ b is. let k = booked_as q b is in
            and_from _ _ (ap (λ (x : Request). test x.tag) (sym k.0) ∙ (and_parts _ _ p).0) (ap (λ (x : NotaryAnswer). list_all test (answer_tags x)) (sym k.1) ∙ given));
      })
  done_brings f a d h answers (has_recorded stx states i j k l m n e) =
      let p : list_all test stx.tags ≡ true = ap (λ (x : Act F). list_all test (act_tags w.machine.tags x)) (sym i) ∙ h in
      bring d _ e (record { resumed = refl; sent = refl; came = refl; recorded = and_from _ _ p refl; booked = refl })

  module _ (at : Checkpoint F) (good : flow_passes w.machine.tags test (state.Live at) ≡ true) where
    top_passes : list_all test (w.machine.tags at.stack.top) ≡ true
    top_passes = (and_parts _ _ good).0

    below_passes : list_all (λ frame. list_all test (w.machine.tags frame)) at.stack.below ≡ true
    below_passes = (and_parts _ _ (and_parts _ _ good).1).0

    act_passes : list_all test (act_tags w.machine.tags at.waiting) ≡ true
    act_passes = (and_parts _ _ (and_parts _ _ good).1).1

    onwards_pass : (frame : F) (below : List F) (with : Resumed) → list_all test (w.machine.tags frame) ≡ true → list_all (λ x. list_all test (w.machine.tags x)) below ≡ true → list_all test (resumed_tags with) ≡ true → part_passes w.machine.tags test (onwards w me now at frame below with) ≡ true
    onwards_pass frame below with h k r = let n = keeps test frame with (place w me at.flow at.step now) h r in and_from _ _ n.0 (and_from _ _ k n.1)

    last_pass : (sessions : List Session) (body : Body) → body_passes test body ≡ true → list_all (λ item. body_passes test item.body) (map (λ session. item_on (party me) session body) sessions) ≡ true
    last_pass [] body h = refl
    last_pass (x ∷ xs) body h = and_from _ _ h (last_pass xs body h)

    onto : (e x : Effect F) → e ≡ x → Brings w.machine test x → Brings w.machine test e
    onto e x i b = subst (Brings w.machine test) (sym i) b

    gives_brings : (e : Effect F) → Answers e.change.booked → Gives w me s now at at.waiting e → Brings w.machine test e
    gives_brings e answers (goes d o p i) =
        let b = done_brings at.flow at.waiting d act_passes (subst (λ (x : Effect F). Answers x.change.booked) i answers) p in
        onto e _ i (record { flow = onwards_pass at.stack.top at.stack.below d.0 top_passes below_passes b.resumed; sent = b.sent; came = b.came; recorded = b.recorded; booked = b.booked })
    gives_brings e answers (pushed frame i j k) =
        let p : list_all test (w.machine.tags frame) ≡ true = ap (λ (x : Act F). list_all test (act_tags w.machine.tags x)) (sym i) ∙ act_passes in
        onto e _ k (record { flow = onwards_pass frame (at.stack.top ∷ at.stack.below) resumed.Started p (and_from _ _ top_passes below_passes) refl; sent = refl; came = refl; recorded = refl; booked = refl })
    gives_brings e answers (popped value frame below i j k) =
        let p : list_all test (value_tags value) ≡ true = ap (λ (x : Act F). list_all test (act_tags w.machine.tags x)) (sym i) ∙ act_passes in
        let q : list_all (λ x. list_all test (w.machine.tags x)) (frame ∷ below) ≡ true = ap (list_all (λ x. list_all test (w.machine.tags x))) (sym j) ∙ below_passes in
        onto e _ k (record { flow = onwards_pass frame below (resumed.Returned value) (and_parts _ _ q).0 (and_parts _ _ q).1 p; sent = refl; came = refl; recorded = refl; booked = refl })
    gives_brings e answers (finished value i j k) =
        let p : list_all test (value_tags value) ≡ true = ap (λ (x : Act F). list_all test (act_tags w.machine.tags x)) (sym i) ∙ act_passes in
        onto e _ k (record { flow = p; sent = last_pass (sessions_of at.flow s.sessions) body_of.End refl; came = refl; recorded = refl; booked = refl })
    gives_brings e answers (failed code i k) =
        onto e _ k (record { flow = refl; sent = last_pass (sessions_of at.flow s.sessions) (body_of.Error code) refl; came = refl; recorded = refl; booked = refl })

  checkpoint_passes : (x : FlowState F) (at : Checkpoint F) → flow_passes w.machine.tags test x ≡ true → checkpoint_of x ≡ Some at → flow_passes w.machine.tags test (state.Live at) ≡ true
  checkpoint_passes (state.Live y) at h e = subst (λ (z : Checkpoint F). flow_passes w.machine.tags test (state.Live z) ≡ true) (some_eq e) h
  checkpoint_passes (state.Ended step class v) at h e = cc
  checkpoint_passes (state.Failed step class code) at h e = cc

  live_passes : (f : ℕ) (at : Checkpoint F) → live_at s f ≡ Some at → flow_passes w.machine.tags test (state.Live at) ≡ true
  live_passes f at h = from_then _ checkpoint_of (slice_get s.flows f) at h (λ x is k. checkpoint_passes x at (all_get (flow_passes w.machine.tags test) s.flows f x passes.flows is) k)

  module _ (bare : BeginsBare w.machine) where
    begins_pass : (f class : ℕ) (made : F × Act F) → w.machine.tags made.0 ≡ [] → act_tags w.machine.tags made.1 ≡ [] → part_passes w.machine.tags test (live f 0 class [] made) ≡ true
    begins_pass f class made h k = and_from _ _ (ap (list_all test) h) (and_from _ _ refl (ap (list_all test) k))

    answering_brings : (key : Key) (f class : ℕ) (init : Body) (o : Option (F × Act F)) → w.machine.begun class key (place w me f 0 now) ≡ o → body_passes test init ≡ true → Brings w.machine test (answering key f class init o)
    answering_brings key f class init None i h = record { flow = refl; sent = refl; came = and_from _ _ h refl; recorded = refl; booked = refl }
    answering_brings key f class init (Some made) i h =
        let b = bare.begun class key (place w me f 0 now) made i in
        record { flow = begins_pass f class made b.0 b.1; sent = refl; came = and_from _ _ h refl; recorded = refl; booked = refl }

    pub does_brings : (ev : Event) (body : Option Body) (e : Effect F) → ((b : Body) → body ≡ Some b → body_passes test b ≡ true) → Answers e.change.booked → Does w me s now ev body e → Brings w.machine test e
    does_brings ev body e good answers (starts f class args made i j k l) =
        let b = bare.made class args (place w me f 0 now) made k in
        subst (Brings w.machine test) (sym l) (record { flow = begins_pass f class made b.0 b.1; sent = refl; came = refl; recorded = refl; booked = refl })
    does_brings ev body e good answers (answers_to key class first i j k l) =
        subst (Brings w.machine test) (sym l) (answering_brings key (length s.flows) class (body_of.Init class first) _ refl (good _ j))
    does_brings ev body e good answers (arrives key direction number b session i j k l m) =
        subst (Brings w.machine test) (sym m) (record { flow = refl; sent = refl; came = and_from _ _ (good b j) refl; recorded = refl; booked = refl })
    does_brings ev body e good answers (acts f at i j g) = gives_brings at (live_passes f at j) e answers g
