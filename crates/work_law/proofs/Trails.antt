-- What a node did since a call began, of whatever network all that it took is true.
use Rattle.std.proofs.Common.{◌≡◌, ◌⊎◌, inl, inr, ⊎_elim, ℕ, zero, suc, ◌+◌, ◌≤◌, List, [], ◌∷◌, ◌++◌, Option, Some, None, true, length, option_and_then, option_to_list, slice_get, slice_set, refl, sym, ap, subst, ◌∙◌, arith}
use Rattle.std.specs.List.{AllByRecursion}
use Rattle.std.proofs.lemmas.Bool.{eqb-true, true≢false}
use Rattle.net_base.specs.declared.names.Key.{Key}
use Rattle.net_base.specs.declared.values.Party.{Party}
use Rattle.net_base.specs.declared.causes.Event.{Event}
use Rattle.net_base.proofs.Lists.{all_append, all_weaken, get_there, get_beside, set_own}
use Rattle.net_base.proofs.Options.{some_eq}
use Rattle.session_wire.specs.declared.body.Body.{Body}
use Rattle.session_wire.specs.Frames.{IsFrame}
use Rattle.session_wire.specs.Sessions.{Session, Sent, session_of, key_eq}
use Rattle.session_wire.specs.declared.frame.Frame.{Frame}
use Rattle.session_wire.specs.declared.frame.Frame.TheVariants.{Message, Ack}
use Rattle.session_wire.proofs.Keys.{key_exact}
use Rattle.session_table.specs.Tables.{raised}
use Rattle.session_frames.specs.declared.judged.Judged.{Judged}
use Rattle.session_frames.specs.declared.judged.Judged.TheVariants as judged
use Rattle.session_frames.specs.declared.sending.Outgoing.{Outgoing}
use Rattle.session_frames.specs.Items.{GoesFurther}
use Rattle.session_frames.specs.Judging.{IsJudged, arrived, is_with}
use Rattle.session_frames.specs.Sending.{addressee}
use Rattle.session_frames.proofs.Spelled.{spelled}
use Rattle.net_model.specs.Environment.{Environment, identity, party}
use Rattle.net_model.specs.State.{NodeState, Record, apply_effect, came_on, flow_of, fresh, replay, replay_from, sessions_on}
use Rattle.net_model.specs.Steps.{next_cause}
use Rattle.net_model.specs.Runs.{IsItem, IsMatchedFrom, accepts, item_for, item_from}
use Rattle.net_model.proofs.Basics.{apply_sessions}
use Rattle.net_model.proofs.Effects.{effect_accepts, step_taken}
use Rattle.node_tables.specs.Journals.{records_of, state_of}
use Rattle.node_tables.specs.Seen.{padded}
use Rattle.node_core.specs.Seen.{Pends}
use Rattle.node_core.specs.Takes.{accepting, ack_to}
use Rattle.wire_queue.specs.Wire.{IsIn}
use Rattle.wire_queue.proofs.Wires.{in_left, in_right}
use Rattle.network_core.specs.WorldSteps.{WorldCommits, WorldFaults}
use Rattle.work_law.specs.Works.{Grows, Stays, fell}
use Rattle.work_law.proofs.Worlds.{fell_then, grows_same, grows_one, grows_then, grows_wider, stays_same, stays_then, stays_commit, stays_fault, fell_fault}
use Rattle.network_core.specs.Worlds.{NodeWorld, MaySpell, came_at, IsTrue, WaitsAt, AreArrived, Sound}
use Rattle.network_core.proofs.AgreeingNets.{Wider, wider_same, set_wider, wider_all, came_there, keeps_sessions, keeps_rest}
use Rattle.network_core.proofs.AgreeingPlace.{pushed, state_after, came_of, sound_push}
use Rattle.network_core.proofs.AgreeingSaid.{Says, says, raised_get, IsPlace, answers, arrives, accepts_it, comes}
use Rattle.network_core.proofs.AgreeingKeys.{sound_keys, found_by_key}
use Rattle.network_core.proofs.AgreeingLists.{set_twice}

matched_more : {F : Type 0} (net : List (NodeState F)) (p : ℕ) (s : NodeState F) (rs : List (Record F)) (r : Record F) → IsMatchedFrom net p s rs → (accepts r.cause.event ≡ true → IsItem net p (replay_from s rs) r) → IsMatchedFrom net p s (rs ++ r ∷ [])
matched_more net p s [] r h k = (k, tt)
matched_more net p s (x ∷ rs) r h k = (h.0, matched_more net p (apply_effect s x.cause x.effect) rs r h.1 k)

module _ {F : Type 0} (e : Environment F) (p now : ℕ) where
  abbrev pub state : List (List ℕ) → NodeState F
  state bodies = state_of e.frame_at bodies

  -- each accepted item of a journal is its sender's in a network
  abbrev pub MatchedIn : List (NodeState F) → List (List ℕ) → Type 0
  MatchedIn net bodies = IsMatchedFrom net p fresh (records_of e.frame_at bodies)

  -- all frames that were taken tell what is in a network
  abbrev pub TrueAt : List (NodeState F) → List (List ℕ) → Type 0
  TrueAt net took = (x : List ℕ) → IsIn x took → WaitsAt net p x

  -- a frame tells what is wherever the node has this state
  abbrev pub Told : NodeState F → Outgoing → Type 0
  Told s o = (net : List (NodeState F)) → slice_get net p ≡ Some s → WaitsAt net o.to.0 o.bytes

  -- where the node has the one state, nothing is lost where it has the other
  abbrev pub Later : NodeState F → NodeState F → Type 0
  Later s t = (net : List (NodeState F)) → slice_get net p ≡ Some s → Wider net (slice_set net p t)

  pub later_same : (s : NodeState F) → Later s s
  later_same s net is = subst (Wider net) (sym (set_own net p s is)) (wider_same net)

  wider_then : (a b c : List (NodeState F)) → Wider a b → Wider b c → Wider a c
  wider_then a b c h k = record { items = λ q me n key item i. k.items q me n key item (h.items q me n key item i); came = λ q key. omega (arith, h.came q key, k.came q key) }

  later_then : (s t u : NodeState F) → Later s t → Later t u → Later s u
  later_then s t u h k net is =
      let mid = slice_set net p t in
      subst (Wider net) (set_twice net p t u) (wider_then net mid (slice_set mid p u) (h net is) (k mid (get_there net p s t is)))

  told_later : (s t : NodeState F) (o : Outgoing) → Later s t → Told s o → Told t o
  told_later s t o later told net is =
      let old = slice_set net p s in
      let here : slice_get old p ≡ Some s = get_there net p t s is in
      let back : slice_set old p t ≡ net = set_twice net p s t ∙ set_own net p t is in
      let wider : Wider old net = subst (Wider old) back (later old here) in
      (wider_all old net wider o.to.0 (o.bytes ∷ []) (told old here, tt)).0

  -- one body more, which is of an item that its sender has in each network of which the taken frames are true, or of none
  pub record More (took : List (List ℕ)) (old l : List (List ℕ)) : Type 0 where
    pub event : Event
    pub item : Option Sent
    pub body : List ℕ
    pub pends : Pends e p now old event item body
    pub is : l ≡ old ++ body ∷ []
    pub fits : (i : Sent) → item ≡ Some i → accepts event ≡ true
    pub sender : (net : List (NodeState F)) → TrueAt net took → accepts event ≡ true → (i : Sent) × (item ≡ Some i) × (item_for net p (state old) event ≡ Some i)

  -- a journal went on
  pub record Grown (took : List (List ℕ)) (count most : ℕ) (old l : List (List ℕ)) : Type 0 where
    pub sound : Sound e p now old → Sound e p now l
    pub later : Later (state old) (state l)
    pub matched : (net : List (NodeState F)) → TrueAt net took → MatchedIn net old → MatchedIn net l
    pub grows : Grows count most old l

  pub grown_same : (took : List (List ℕ)) (most : ℕ) (l : List (List ℕ)) → Grown took 0 most l l
  grown_same took most l = record { sound = λ s. s; later = later_same (state l); matched = λ net t m. m; grows = grows_same most l }

  -- where a call went on from what another one left, and the two made it go on by so much at most
  pub grown_then : (ta tb : List (List ℕ)) (ca cb ma mb most : ℕ) (a b c : List (List ℕ)) → ma + mb ≤ most → Grown ta ca ma a b → Grown tb cb mb b c → Grown (ta ++ tb) (ca + cb) most a c
  grown_then ta tb ca cb ma mb most a b c within h k = record {
    sound = λ s. k.sound (h.sound s);
    later = later_then (state a) (state b) (state c) h.later k.later;
    matched = λ net t m. k.matched net (λ x has. t x (in_right x ta tb has)) (h.matched net (λ x has. t x (in_left x ta tb has)) m);
    grows = grows_wider (ca + cb) (ma + mb) most a c within (grows_then ca cb ma mb a b c h.grows k.grows);
  }

  -- one record more, which counts or is the one pending
  pub grown_more : (took : List (List ℕ)) (count most : ℕ) (old l : List (List ℕ)) → count ≤ 1 → 1 ≤ count + most → More took old l → Grown took count most old l
  unfolding state_of replay
  grown_more took count most old l few within m =
      let cause = next_cause (state old) now m.event m.item in
      let record_is : Record F = record { cause = cause; effect = m.pends.effect } in
      let records : records_of e.frame_at l ≡ records_of e.frame_at old ++ record_is ∷ [] = ap (records_of e.frame_at) m.is ∙ pushed e p now old m.event m.item m.body m.pends in
      let after : state l ≡ apply_effect (state old) cause m.pends.effect = ap state m.is ∙ state_after e p now old m.event m.item m.body m.pends in
      record {
        sound = λ s. subst (Sound e p now) (sym m.is) (sound_push e p now old m.event m.item m.body m.pends m.fits s);
        later = λ net is. subst (λ (t : NodeState F). Wider net (slice_set net p t)) (sym after) (set_wider net p (state old) cause m.pends.effect is);
        matched = λ net t known. subst (λ (rs : List (Record F)). IsMatchedFrom net p fresh rs) (sym records) (matched_more net p fresh (records_of e.frame_at old) record_is known (λ accepting.
            let found = m.sender net t accepting in
            record {
              item = found.0;
              is_sent = found.2;
              is_body = came_of e p now old m.event m.item m.body m.pends found.0 found.1 accepting;
              in_turn = ap (λ (o : Option Sent). (next_cause (state old) now m.event o).stamp) found.1;
            }));
        grows = grows_one count most old l m.body few within m.is;
      }

  -- ---- a node's world that goes on by one call

  pub record Goes (y z : NodeWorld) (took : List (List ℕ)) (sent : List Outgoing) (count : ℕ) : Type 0 where
    pub one : z.up ≡ true → z.other ≡ None
    pub waits : z.waiting ≡ y.waiting
    pub stays : Stays y z
    pub lists : (l : List (List ℕ)) → MaySpell z l → (old : List (List ℕ)) × MaySpell y old × Grown took count (fell y.up z.up) old l
    pub told : ((old : List (List ℕ)) → MaySpell y old → Sound e p now old) → (l : List (List ℕ)) → MaySpell z l → AllByRecursion (Told (state l)) sent
    pub numbers : (y.up ≡ true → length y.acked ≡ length (state y.journal).sessions) → z.up ≡ true → length z.acked ≡ length (state z.journal).sessions
    pub acks : ((old : List (List ℕ)) → MaySpell y old → Sound e p now old) → (y.up ≡ true → length y.acked ≡ length (state y.journal).sessions) → z.up ≡ true → (net : List (NodeState F)) → TrueAt net took → (y.up ≡ true → AreArrived net (state y.journal).sessions y.acked) → AreArrived net (state z.journal).sessions z.acked

  -- all calls since the world x
  pub record Trail (x y : NodeWorld) (took : List (List ℕ)) (sent : List Outgoing) (count : ℕ) : Type 0 where
    pub one : y.up ≡ true → y.other ≡ None
    pub waits : y.waiting ≡ x.waiting
    pub stays : Stays x y
    pub lists : (l : List (List ℕ)) → MaySpell y l → (old : List (List ℕ)) × MaySpell x old × Grown took count (fell x.up y.up) old l
    pub told : (l : List (List ℕ)) → MaySpell y l → AllByRecursion (Told (state l)) sent
    pub numbers : y.up ≡ true → length y.acked ≡ length (state y.journal).sessions
    pub acks : y.up ≡ true → (net : List (NodeState F)) → TrueAt net took → (x.up ≡ true → AreArrived net (state x.journal).sessions x.acked) → AreArrived net (state y.journal).sessions y.acked

  module _ (x : NodeWorld) (sounds : (l : List (List ℕ)) → MaySpell x l → Sound e p now l) where
    pub trail_here : (x.up ≡ true → x.other ≡ None) → (x.up ≡ true → length x.acked ≡ length (state x.journal).sessions) → Trail x x [] [] 0
    trail_here one numbers = record {
      one = one;
      waits = refl;
      stays = stays_same x;
      lists = λ l may. (l, may, grown_same [] (fell x.up x.up) l);
      told = λ l may. tt;
      numbers = numbers;
      acks = λ up net t known. known up;
    }

    pub trail_sound : (y : NodeWorld) (took : List (List ℕ)) (sent : List Outgoing) (count : ℕ) → Trail x y took sent count → (l : List (List ℕ)) → MaySpell y l → Sound e p now l
    trail_sound y took sent count t l may = let back = t.lists l may in back.2.sound (sounds back.0 back.1)

    pub trail_then : (y z : NodeWorld) (ta tb : List (List ℕ)) (sa sb : List Outgoing) (ca cb : ℕ) → Trail x y ta sa ca → Goes y z tb sb cb → Trail x z (ta ++ tb) (sa ++ sb) (ca + cb)
    trail_then y z ta tb sa sb ca cb t g = record {
      one = g.one;
      waits = g.waits ∙ t.waits;
      stays = stays_then x y z t.stays g.stays;
      lists = λ l may.
          let mid = g.lists l may in
          let back = t.lists mid.0 mid.1 in
          (back.0, back.1, grown_then ta tb ca cb (fell x.up y.up) (fell y.up z.up) (fell x.up z.up) back.0 mid.0 l (fell_then x y z t.stays g.stays) back.2 mid.2);
      told = λ l may.
          let mid = g.lists l may in
          all_append (Told (state l)) sa sb (all_weaken (Told (state mid.0)) (Told (state l)) sa (λ o h. told_later (state mid.0) (state l) o mid.2.later h) (t.told mid.0 mid.1)) (g.told (trail_sound y ta sa ca t) l may);
      numbers = λ up. g.numbers t.numbers up;
      acks = λ up net true_all known. g.acks (trail_sound y ta sa ca t) t.numbers up net (λ a has. true_all a (in_right a ta tb has)) (λ was. t.acks was net (λ a has. true_all a (in_left a ta tb has)) known);
    }

-- ---- acknowledged numbers of a longer journal

padded_length : (ns : List ℕ) (ss : List Session) → length (padded ns ss) ≡ length ss
padded_length ns [] = refl
padded_length [] (s ∷ ss) = ap suc (padded_length [] ss)
padded_length (n ∷ ns) (s ∷ ss) = ap suc (padded_length ns ss)

padded_get : (ns : List ℕ) (ss : List Session) (i n : ℕ) → slice_get (padded ns ss) i ≡ Some n → (slice_get ns i ≡ Some n) ⊎ (n ≡ 0)
padded_get ns [] i n h = cc
padded_get [] (s ∷ ss) zero n h = inr (some_eq (sym h))
padded_get [] (s ∷ ss) (suc i) n h = ⊎_elim (λ k. cc) (λ k. inr k) (padded_get [] ss i n h)
padded_get (m ∷ ns) (s ∷ ss) zero n h = inl h
padded_get (m ∷ ns) (s ∷ ss) (suc i) n h = padded_get ns ss i n h

module _ {F : Type 0} (e : Environment F) (p now : ℕ) where
  arrived_more : (bodies : List (List ℕ)) (acked : List ℕ) (ev : Event) (item : Option Sent) (body : List ℕ) (net : List (NodeState F)) → Pends e p now bodies ev item body → length acked ≡ length (state e p now bodies).sessions
      → AreArrived net (state e p now bodies).sessions acked → AreArrived net (state e p now (bodies ++ body ∷ [])).sessions (padded acked (state e p now (bodies ++ body ∷ [])).sessions)
  arrived_more bodies acked ev item body net pends count known i session n at is = ⊎_elim
      (λ old.
      let s = state_of e.frame_at bodies in
      let cause = next_cause s now ev item in
      let found = get_beside acked s.sessions i n count old in
      let after : (state_of e.frame_at (bodies ++ body ∷ [])).sessions ≡ sessions_on cause pends.effect s.sessions = ap (λ (s : NodeState F). s.sessions) (state_after e p now bodies ev item body pends) ∙ apply_sessions s cause pends.effect in
      let keeps = (keeps_sessions cause pends.effect s.sessions).places i found.0 found.1 in
      let same : keeps.0 ≡ session = some_eq (sym keeps.1 ∙ (ap (λ (ss : List Session). slice_get ss i) (sym after) ∙ at)) in
      let here : n ≤ came_at net keeps.0.peer.0 keeps.0.key = rw (keeps.2, keeps.3) (known i found.0 n found.1 old) in
      subst (λ (s : Session). n ≤ came_at net s.peer.0 s.key) same here)
      (λ none. omega (arith, none))
      (padded_get acked (state_of e.frame_at (bodies ++ body ∷ [])).sessions i n is)

  module _ (y : NodeWorld) where
    abbrev Sender : List (List ℕ) → Event → Option Sent → Type 0
    Sender took ev item = (net : List (NodeState F)) → TrueAt e p now net took → accepts ev ≡ true → (i : Sent) × (item ≡ Some i) × (item_for net p (state e p now y.journal) ev ≡ Some i)

    -- where no item is accepted there is none
    pub none_sender : (took : List (List ℕ)) (ev : Event) (body : List ℕ) → Pends e p now y.journal ev None body → Sender took ev None
    none_sender took ev body pends net t accepting =
        let taken = step_taken e p (state_of e.frame_at y.journal) _ _ None pends.effect pends.step in
        let found = effect_accepts e p (state_of e.frame_at y.journal) now ev None pends.effect accepting taken.effect in
        let no = found.1 in absurd cc

    pub goes_same : (took : List (List ℕ)) → (y.up ≡ true → y.other ≡ None) → Goes e p now y y took [] 0
    goes_same took one = record {
      one = one;
      waits = refl;
      stays = stays_same y;
      lists = λ l may. (l, may, grown_same e p now took (fell y.up y.up) l);
      told = λ sounds l may. tt;
      numbers = λ known up. known up;
      acks = λ sounds counts up net t known. known up;
    }

    pub goes_sent : (took : List (List ℕ)) (sent : List Outgoing) → (y.up ≡ true → y.other ≡ None) → ((l : List (List ℕ)) → MaySpell y l → Sound e p now l → AllByRecursion (Told e p now (state e p now l)) sent) → Goes e p now y y took sent 0
    goes_sent took sent one tells = record {
      one = one;
      waits = refl;
      stays = stays_same y;
      lists = λ l may. (l, may, grown_same e p now took (fell y.up y.up) l);
      told = λ sounds l may. tells l may (sounds l may);
      numbers = λ known up. known up;
      acks = λ sounds counts up net t known. known up;
    }

    pub goes_commit : (z : NodeWorld) (took : List (List ℕ)) (sent : List Outgoing) (ev : Event) (item : Option Sent) (c : WorldCommits e p now ev item y z) → z.waiting ≡ y.waiting → ((i : Sent) → item ≡ Some i → accepts ev ≡ true) → Sender took ev item
        → AllByRecursion (Told e p now (state e p now (y.journal ++ c.body ∷ []))) sent → Goes e p now y z took sent 1
    goes_commit z took sent ev item c waits fits sender tells = record {
      one = λ up. other;
      waits = waits;
      stays = stays_commit e p now ev item y z c;
      lists = λ l may. (y.journal, inl refl, grown_more e p now took 1 (fell y.up z.up) y.journal l (omega arith) (omega arith) (record { event = ev; item = item; body = c.body; pends = c.pends; is = its_own l may; fits = fits; sender = sender }));
      told = λ sounds l may. subst (λ (j : List (List ℕ)). AllByRecursion (Told e p now (state e p now j)) sent) (sym (its_own l may)) tells;
      numbers = λ known up. rw (acked, journal) (padded_length y.acked (state_of e.frame_at (y.journal ++ c.body ∷ [])).sessions);
      acks = λ sounds counts up net t known. rw (acked, journal) (arrived_more y.journal y.acked ev item c.body net c.pends (counts c.was_up) (known c.was_up));
    }
      where
        journal : z.journal ≡ y.journal ++ c.body ∷ []
        journal = ap (λ (n : NodeWorld). n.journal) c.after

        other : z.other ≡ None
        other = ap (λ (n : NodeWorld). n.other) c.after

        acked : z.acked ≡ padded y.acked (state_of e.frame_at (y.journal ++ c.body ∷ [])).sessions
        acked = ap (λ (n : NodeWorld). n.acked) c.after

        its_own : (l : List (List ℕ)) → MaySpell z l → l ≡ y.journal ++ c.body ∷ []
        its_own l may = ⊎_elim (λ is. is ∙ journal) (λ is. absurd (let no : Some l ≡ None = sym is ∙ other in cc)) may

    pub goes_fault : (z : NodeWorld) (took : List (List ℕ)) (ev : Event) (item : Option Sent) (c : WorldFaults e p now ev item y z) → y.faults ≤ z.faults → ((i : Sent) → item ≡ Some i → accepts ev ≡ true) → Sender took ev item → Goes e p now y z took [] 0
    goes_fault z took ev item c later fits sender = record {
      one = λ up. absurd (true≢false (sym up ∙ c.down));
      waits = c.waiting;
      stays = stays_fault e p now ev item y z c later;
      lists = λ l may. (
        y.journal,
        inl refl,
        ⊎_elim
            (λ is. subst (λ (j : List (List ℕ)). Grown e p now took 0 (fell y.up z.up) y.journal j) (sym is) (grown_same e p now took (fell y.up z.up) y.journal))
            (λ is. grown_more e p now took 0 (fell y.up z.up) y.journal l (omega arith) (fell_fault y z c.was_up c.down) (record { event = ev; item = item; body = c.body; pends = c.pends; is = is; fits = fits; sender = sender }))
            (c.lists l may),
      );
      told = λ sounds l may. tt;
      numbers = λ known up. absurd (true≢false (sym up ∙ c.down));
      acks = λ sounds counts up. absurd (true≢false (sym up ∙ c.down));
    }

  -- ---- frames that a node takes

  module _ (ss : List Session) (bytes : List ℕ) (net : List (NodeState F)) (h : WaitsAt net p bytes) where
    -- what is said tells of the frame
    told_of : (said : Judged) → IsJudged (identity e p) ss bytes said → Says (identity e p) ss h.carried said
    told_of said judges =
        let is = spelled (identity e p) ss h.carried said h.lawful (subst (λ (b : List ℕ). IsJudged (identity e p) ss b said) h.whole judges) in
        subst (Says (identity e p) ss h.carried) (sym is) (says (identity e p) ss h.carried)

  module _ (bodies : List (List ℕ)) (bytes : List ℕ) where
    abbrev sessions : List Session
    sessions = (state_of e.frame_at bodies).sessions

    module _ (from : Party) (key : Key) (direction number stamp : ℕ) (body : Body) (judges : IsJudged (identity e p) sessions bytes (judged.Next from key direction number stamp body)) (further : GoesFurther (identity e p) sessions (judged.Next from key direction number stamp body)) where
      abbrev item : Sent
      item = record { body = body; stamp = stamp }

      abbrev ev : Event
      ev = accepting sessions key direction number

      sender_has : (net : List (NodeState F)) → WaitsAt net p bytes → item_from net p from.0 key number ≡ Some item
      sender_has net h =
          let told = told_of sessions bytes net h (judged.Next from key direction number stamp body) judges in
          let to : told.0.0 ≡ p = ap (λ (f : Frame). (addressee f).0) (sym told.1) ∙ h.to in
          let true_is : IsTrue net (Message from told.0 key direction number stamp body) = subst (IsTrue net) told.1 h.true_is in
          subst (λ (me : ℕ). item_from net me from.0 key number ≡ Some item) to true_is

      item_is : (net : List (NodeState F)) → WaitsAt net p bytes → IsPlace (identity e p) sessions from key direction number body → item_for net p (state_of e.frame_at bodies) ev ≡ Some item
      item_is net h (inl b) =
          let has = sender_has net h in
          let initiator = b.initiator in
          let first = b.first in
          let here : item_from net p key.initiator.0 key 0 ≡ Some item = subst (λ (n : ℕ). item_from net p key.initiator.0 key n ≡ Some item) first (subst (λ (q : Party). item_from net p q.0 key number ≡ Some item) (sym initiator) has) in
          subst (λ (a : Event). item_for net p (state_of e.frame_at bodies) a ≡ Some item) (sym (answers (identity e p) sessions from key direction number body b)) here
      item_is net h (inr g) =
          let has = sender_has net h in
          let at : item_from net p g.session.peer.0 key number ≡ Some item = subst (λ (q : Party). item_from net p q.0 key number ≡ Some item) (sym g.peer) has in
          let here : option_and_then (λ (session : Session). item_from net p session.peer.0 key number) (session_of key sessions) ≡ Some item = subst (λ (o : Option Session). option_and_then (λ (session : Session). item_from net p session.peer.0 key number) o ≡ Some item) (sym g.stands) at in
          subst (λ (a : Event). item_for net p (state_of e.frame_at bodies) a ≡ Some item) (sym (arrives (identity e p) sessions from key direction number body g)) here

      pub frame_sender : (net : List (NodeState F)) → TrueAt e p now net (bytes ∷ []) → accepts ev ≡ true → (i : Sent) × (Some item ≡ Some i) × (item_for net p (state_of e.frame_at bodies) ev ≡ Some i)
      frame_sender net t accepting_is = (item, refl, item_is net (t bytes (inl refl)) further.place)

      pub frame_fits : (k : Sent) → Some item ≡ Some k → accepts ev ≡ true
      frame_fits k is = accepts_it (identity e p) sessions from key direction number body further.place

      -- once it is committed it has arrived
      pub now_arrived : (more : List ℕ) → Pends e p now bodies ev (Some item) more → number + 1 ≤ arrived (session_of key (state_of e.frame_at (bodies ++ more ∷ [])).sessions)
      now_arrived more pends =
          let cause = next_cause (state_of e.frame_at bodies) now ev (Some item) in
          let came : pends.effect.change.came ≡ Some body = came_of e p now bodies ev (Some item) more pends item refl (frame_fits item refl) in
          let owner = flow_of pends.effect.flow in
          let first : number + 1 ≤ arrived (session_of key (came_on ev (option_to_list pends.effect.change.came) owner sessions)) = subst (λ (o : Option Body). number + 1 ≤ arrived (session_of key (came_on ev (option_to_list o) owner sessions))) (sym came) (comes (identity e p) sessions from key direction number body owner further.place) in
          let rest = (keeps_rest cause pends.effect (came_on ev (option_to_list pends.effect.change.came) owner sessions)).came key in
          let after : (state_of e.frame_at (bodies ++ more ∷ [])).sessions ≡ sessions_on cause pends.effect sessions = ap (λ (s : NodeState F). s.sessions) (state_after e p now bodies ev (Some item) more pends) ∙ apply_sessions (state_of e.frame_at bodies) cause pends.effect in
          let all : number + 1 ≤ arrived (session_of key (sessions_on cause pends.effect sessions)) = omega (arith, first, rest) in
          subst (λ (ss : List Session). number + 1 ≤ arrived (session_of key ss)) (sym after) all

    -- an acknowledgement of what arrived tells what is
    pub ack_told : (s : NodeState F) (from : Party) (key : Key) (direction upto : ℕ) → IsFrame (Ack (party p) from key direction upto) → upto ≤ arrived (session_of key s.sessions) → Told e p now s (ack_to (party p) from key direction upto)
    ack_told s from key direction upto lawful few net is =
        let came = came_there net p key s is in
        record { carried = Ack (party p) from key direction upto; lawful = lawful; whole = refl; to = refl; true_is = rw came few }

    -- what a raised number is of has arrived, in each network of which the frame is true
    pub raised_arrived : (key : Key) (direction upto : ℕ) (acked : List ℕ) → Sound e p now bodies → IsJudged (identity e p) sessions bytes (judged.Acked key direction upto) → (net : List (NodeState F)) → WaitsAt net p bytes → AreArrived net sessions acked
        → AreArrived net sessions (raised (party p) key direction upto sessions acked)
    raised_arrived key direction upto acked sound judges net h known k session n at is =
        let found = raised_get (party p) key direction upto sessions acked k n session at is in
        let before = known k session found.0 at found.1 in
        ⊎_elim (λ same. omega (arith, before, same)) (λ more. let all = below k session at more.0 in omega (arith, before, more.1, all)) found.2
      where
        below : (k : ℕ) (session : Session) → slice_get sessions k ≡ Some session → key_eq key session.key ≡ true → upto ≤ came_at net session.peer.0 session.key
        below k session at test =
            let told = told_of sessions bytes net h (judged.Acked key direction upto) judges in
            let same : key ≡ session.key = key_exact key session.key test in
            let true_is : IsTrue net (Ack told.0 told.1 key direction upto) = subst (IsTrue net) told.2 h.true_is in
            let keyed = found_by_key sessions k session (sound_keys e p now bodies sound) at in
            let found : session_of key sessions ≡ Some session = ap (λ (q : Key). session_of q sessions) same ∙ keyed in
            let with_sender : is_with told.0 (Some session) ≡ true = subst (λ (o : Option Session). is_with told.0 o ≡ true) found told.3 in
            let peer : session.peer.0 ≡ told.0.0 = eqb-true session.peer.0 told.0.0 with_sender in
            rw (peer, sym same) true_is
