-- What posts and deliveries make of the worlds that a network shows.
use Rattle.std.proofs.Common.{◌≡◌, inl, inr, ⊎_elim, ℕ, ◌<◌, Bool, true, false, List, length, map, slice_set, Option, Some, None, IsSome, IsErr, Result, Ok, Err, refl, sym, ◌∙◌, ap, subst, arith}
use Rattle.std.specs.List.{slice_get}
use Rattle.std.specs.Option.{option_map, option_to_list}
use Rattle.std.proofs.lemmas.Option.{MatchOption-at_some, same_Some, none-some, slice_get-map}
use Rattle.net_base.specs.declared.names.Identity.{Identity}
use Rattle.net_base.proofs.Lists.{get_below, map_set, set_length, set_own, get_beside}
use Rattle.session_table.specs.Tables.{unacked}
use Rattle.session_frames.specs.Sending.{AreMessages}
use Rattle.session_frames.specs.declared.sending.Outgoing.{Outgoing}
use Rattle.net_model.specs.Environment.{Environment, environment, party, Meaning}
use Rattle.node_tables.specs.Journals.{state_of}
use Rattle.node_core.specs.declared.faults.TakeFault.TheVariants as take_fault
use Rattle.node_core.specs.Seen.{NodeSeen}
use Rattle.node_core.specs.Takes.{TakeAnswers, unacked_at}
use Rattle.network_core.specs.declared.serving.Delivery.{Delivery}
use Rattle.network_core.specs.declared.steps.Outcome.{Outcome}
use Rattle.network_core.specs.declared.steps.Outcome.TheVariants as outcome
use Rattle.network_core.specs.Worlds.{NodeWorld, World, NetSeen, ShowsJournal, NodeShows, Shows, Coherent, KeepsWorld}
use Rattle.network_core.specs.Answers.{said, take_sent, mailed, count_fresh, parted, Posting, PostServes, Handed, Handing, HandServes, TakeServes, reached, replied}
use Rattle.network_core.specs.WorldSteps.{WorldPosts, PostsFrom, WorldTakes, WorldHands, handed_over, waits_on, without, sent_all, count_new}
use Rattle.network_core.proofs.Agreeing.{post_coherent, hand_coherent, never_garbled}
use Rattle.network_core.proofs.Mailing.{waits_in, map_set_same, sent_all_waits, sent_all_length, sent_all_get, count_is}
use Rattle.network_core.proofs.Placing.{get_set_both}
use Rattle.network_core.proofs.Places.{shows_but}
use Rattle.network_core.proofs.Served.{takes}

pub up_of : (journal : Option (List (List ℕ))) (x : NodeWorld) → IsSome journal → ShowsJournal journal x → x.up ≡ true
up_of None x up shows = cc
up_of (Some b) x up shows = shows.0

down_of : (journal : Option (List (List ℕ))) (x : NodeWorld) → journal ≡ None → ShowsJournal journal x → x.up ≡ false
down_of None x none shows = shows
down_of (Some b) x none shows = cc

stands_of : (journal : Option (List (List ℕ))) (bodies : List (List ℕ)) (x : NodeWorld) → journal ≡ Some bodies → ShowsJournal journal x → (x.up ≡ true) × (x.journal ≡ bodies) × (x.other ≡ None)
stands_of journal bodies x here shows = rw here at shows

net_is : (net : NetSeen) (nodes : List NodeSeen) (waiting : List (List (List ℕ))) (now : ℕ) → net.nodes ≡ nodes → net.waiting ≡ waiting → net.now ≡ now → net ≡ record { nodes = nodes; waiting = waiting; now = now }
net_is net nodes waiting now a b c =
    ap (λ (l : List NodeSeen). record { nodes = l; waiting = net.waiting; now = net.now }) a ∙ ap (λ (l : List (List (List ℕ))). record { nodes = nodes; waiting = l; now = net.now }) b ∙ ap (λ (t : ℕ). record { nodes = nodes; waiting = waiting; now = t }) c

-- frames that are sent among those that wait are sent in the world that is shown
mail_shows : {F : Type 0} (e : Environment F) (os : List Outgoing) (net : NetSeen) (w : World) → Shows e net w → Shows e (record { nodes = net.nodes; waiting = mailed os net.waiting; now = net.now }) (record { nodes = sent_all os w.nodes; now = w.now })
mail_shows e os net w shows = record {
  count = sent_all_length os w.nodes ∙ shows.count;
  each = λ q n z at there.
      let found = sent_all_get os w.nodes q z there in
      shows_but e q n z found.0 (shows.each q n found.0 at found.1) found.2.0 found.2.1;
  waiting = sent_all_waits os w.nodes ∙ ap (mailed os) shows.waiting;
  clock = shows.clock;
}

-- ---- posts

module _ {F : Type 0} (m : Meaning F) (id : Identity) (p : ℕ) (old new : NetSeen) (w : World) (shows : Shows (environment m id) old w) (coherent : Coherent (environment m id) w) where
  abbrev e : Environment F
  e = environment m id

  abbrev Keeps : Option Outcome → Type 0
  Keeps o = (v : World) × Shows e new v × Coherent e v × WorldPosts e p w o v

  module _ (n : NodeSeen) (x : NodeWorld) (shown : NodeShows e p n x) (there : slice_get w.nodes p ≡ Some x) where
    post_stays : (o : Option Outcome) → new ≡ old → PostsFrom e p w x o w → Keeps o
    post_stays o same h = (w, subst (λ (z : NetSeen). Shows e z w) (sym same) shows, coherent, inr (x, there, h))

    post_any : (o : Option Outcome) → Posting m.frame_at n old o new → Keeps o
    post_any None s = post_stays None s.1 (up_of n.journal x s.0 shown.journal, refl)
    post_any (Some (outcome.Posted count)) (bodies, here, messages, is, same) =
        let stands = stands_of n.journal bodies x here shown.journal in
        let mine = unacked_at m.frame_at n.identity.party bodies n.acked in
        let os = unacked_at e.frame_at (party p) x.journal x.acked in
        let one : mine ≡ unacked_at m.frame_at (party p) bodies n.acked = ap (λ (i : Identity). unacked_at m.frame_at i.party bodies n.acked) shown.identity_is in
        let two : unacked_at m.frame_at (party p) bodies n.acked ≡ unacked_at m.frame_at (party p) bodies x.acked = ap (λ a. unacked_at m.frame_at (party p) bodies a) (sym shown.acked_is) in
        let three : unacked_at m.frame_at (party p) bodies x.acked ≡ os = ap (λ b. unacked_at m.frame_at (party p) b x.acked) (sym stands.1) in
        let all : mine ≡ os = one ∙ two ∙ three in
        let v : World = record { nodes = sent_all os w.nodes; now = w.now } in
        let lawful : AreMessages (party p) (unacked (party p) (state_of m.frame_at x.journal).sessions x.acked) =
        rw (stands.1, shown.acked_is) (subst (λ (i : Identity). AreMessages i.party (unacked i.party (state_of m.frame_at bodies).sessions n.acked)) shown.identity_is messages) in
        let counted : count ≡ count_new os w.nodes = is ∙ ap (λ l. count_fresh l old.waiting) all ∙ sym (count_is os w.nodes ∙ ap (count_fresh os) shows.waiting) in
        let goes : WorldPosts e p w (Some (outcome.Posted count)) v = inr (x, there, (stands.0, counted, refl, lawful)) in
        let now_is : new ≡ record { nodes = old.nodes; waiting = mailed os old.waiting; now = old.now } = same ∙ ap (λ l. record { nodes = old.nodes; waiting = mailed l old.waiting; now = old.now }) all in
        (v, subst (λ (z : NetSeen). Shows e z v) (sym now_is) (mail_shows e os old w shows), post_coherent e p w v (Some (outcome.Posted count)) coherent goes, goes)
    post_any (Some (outcome.Refused why)) s = post_stays (Some (outcome.Refused why)) s.2 (s.0, down_of n.journal x s.1 shown.journal, refl)
    post_any (Some _) s = absurd s

pub post_world : {F E : Type 0} (m : Meaning F) (p : ℕ) (old new : NetSeen) (result : Result Outcome E) → PostServes m.frame_at p old result new → KeepsWorld m old new (λ e w v. WorldPosts e p w (said result) v)
post_world m p old new result (inl (past, is, same)) id w shows coherent =
    (w, subst (λ (z : NetSeen). Shows (environment m id) z w) (sym same) shows, coherent, inl (omega (arith, past, shows.count), is, refl))
post_world m p old new result (inr (n, at, posting)) id w shows coherent =
    let found = get_beside old.nodes w.nodes p n (sym shows.count) at in
    post_any m id p old new w shows coherent n found.0 (shows.each p n found.0 at found.1) found.1 (said result) posting

-- ---- deliveries

module _ {F : Type 0} (m : Meaning F) (id : Identity) (repeated : Bool) (p i : ℕ) (old new : NetSeen) (w : World) (shows : Shows (environment m id) old w) (coherent : Coherent (environment m id) w) (n : NodeSeen) (x : NodeWorld) (frames : List (List ℕ)) (shown : NodeShows (environment m id) p n x) (at : slice_get old.nodes p ≡ Some n) (there : slice_get w.nodes p ≡ Some x) (waits : x.waiting ≡ frames) where
  abbrev e2 : Environment F
  e2 = environment m id

  abbrev Hands : Option Outcome → Type 0
  Hands o = (v : World) × Shows e2 new v × Coherent e2 v × WorldHands e2 repeated p i w o v

  -- the node's world once the frame was handed over, or left
  over_shows : (b : Bool) (k : NodeSeen) (y : NodeWorld) → NodeShows e2 p k y → NodeShows e2 p k (handed_over b i y)
  over_shows true k y h = h
  over_shows false k y h = shows_but e2 p k (handed_over false i y) y h (without i y.waiting) refl

  over_waits : (b : Bool) (y : NodeWorld) → y.waiting ≡ x.waiting → waits_in (slice_set w.nodes p (handed_over b i y)) ≡ parted b p i frames old.waiting
  over_waits true y same = map_set_same (λ (z : NodeWorld). z.waiting) w.nodes p x y there same ∙ shows.waiting
  over_waits false y same =
      map_set (λ (z : NodeWorld). z.waiting) w.nodes p (handed_over false i y) ∙ ap (λ l. slice_set l p (without i y.waiting)) shows.waiting ∙ ap (λ l. slice_set old.waiting p (without i l)) (same ∙ waits)

  mid_shows : (b : Bool) (k : NodeSeen) (y : NodeWorld) → NodeShows e2 p k y → y.waiting ≡ x.waiting
      → Shows e2 (record { nodes = slice_set old.nodes p k; waiting = parted b p i frames old.waiting; now = old.now }) (record { nodes = slice_set w.nodes p (handed_over b i y); now = w.now })
  mid_shows b k y h same = record {
    count = set_length w.nodes p (handed_over b i y) ∙ shows.count ∙ sym (set_length old.nodes p k);
    each = λ q a z here beside.
        ⊎_elim
        (λ s. rw (s.0, s.1, s.2) (over_shows b k y h))
        (λ s. shows.each q a z s.0 s.1)
        (get_set_both old.nodes w.nodes p k (handed_over b i y) q a z here beside);
    waiting = over_waits b y same;
    clock = shows.clock;
  }

  handed_any : (journal : Option (List (List ℕ))) (o : Option Outcome) → n.journal ≡ journal → IsSome journal → Handed m repeated p i n frames old o new → Hands o
  handed_any None o here up h = cc
  handed_any (Some bodies) o here up h =
      let stands = stands_of n.journal bodies x here shown.journal in
      let at_i : slice_get x.waiting i ≡ Some h.bytes = ap (λ l. slice_get l i) waits ∙ h.there in
      let answers = MatchOption-at_some _ _ bodies here h.takes in
      let went = takes m id p old.now n h.node x shown h.bytes bodies here stands h.answer h.counted (λ said judges. never_garbled e2 p i w x h.bytes said coherent there at_i judges) answers in
      let y = went.0 in
      let b = waits_on repeated o in
      let sent = take_sent h.answer in
      let v : World = record { nodes = sent_all sent (slice_set w.nodes p (handed_over b i y)); now = w.now } in
      let after : new ≡ record { nodes = slice_set old.nodes p h.node; waiting = mailed sent (parted b p i frames old.waiting); now = old.now } = net_is new _ _ _ h.nodes h.waiting h.now in
      let shows_now : Shows e2 new v = subst (λ (z : NetSeen). Shows e2 z v) (sym after) (mail_shows e2 sent _ _ (mid_shows b h.node y went.1 went.2)) in
      let one : WorldTakes e2 p old.now h.bytes x o y sent = subst (λ (r : Option Outcome). WorldTakes e2 p old.now h.bytes x r y sent) (sym h.outcome_is) went.3 in
      let two : WorldTakes e2 p w.now h.bytes x o y sent = subst (λ (t : ℕ). WorldTakes e2 p t h.bytes x o y sent) (sym shows.clock) one in
      let goes : WorldHands e2 repeated p i w o v = inr (x, there, inr (stands.0, inr (h.bytes, y, sent, at_i, two, refl))) in
      (v, shows_now, hand_coherent e2 repeated p i w v o coherent goes, goes)

  hand_any : (o : Option Outcome) → Handing m repeated p i n frames old o new → Hands o
  hand_any o (inl (none, is, same)) = (w, subst (λ (z : NetSeen). Shows e2 z w) (sym same) shows, coherent, inr (x, there, inl (down_of n.journal x none shown.journal, is, refl)))
  hand_any o (inr (up, inl (none, is, same))) =
      (w, subst (λ (z : NetSeen). Shows e2 z w) (sym same) shows, coherent, inr (x, there, inr (up_of n.journal x up shown.journal, inl (ap (λ l. slice_get l i) waits ∙ none, is, refl))))
  hand_any o (inr (up, inr h)) = handed_any n.journal o refl up h

pub hand_world : {F E : Type 0} (m : Meaning F) (repeated : Bool) (p i : ℕ) (old new : NetSeen) (result : Result Outcome E) → HandServes m repeated p i old result new → KeepsWorld m old new (λ e w v. WorldHands e repeated p i w (said result) v)
hand_world m repeated p i old new result (inl (past, is, same)) id w shows coherent =
    (w, subst (λ (z : NetSeen). Shows (environment m id) z w) (sym same) shows, coherent, inl (omega (arith, past, shows.count), is, refl))
hand_world m repeated p i old new result (inr (n, frames, at, waiting, handing)) id w shows coherent =
    let found = get_beside old.nodes w.nodes p n (sym shows.count) at in
    let there : slice_get (waits_in w.nodes) p ≡ Some found.0.waiting = slice_get-map (λ (z : NodeWorld). z.waiting) w.nodes p ∙ ap (option_map (λ (z : NodeWorld). z.waiting)) found.1 in
    let waits : found.0.waiting ≡ frames = same_Some _ _ (sym there ∙ ap (λ l. slice_get l p) shows.waiting ∙ waiting) in
    hand_any m id repeated p i old new w shows coherent n found.0 frames (shows.each p n found.0 at found.1) at found.1 waits (said result) handing

-- ---- the result of a frame that was handed over

memory_answers : {F : Type 0} (w : Environment F) (now : ℕ) (bytes : List ℕ) (n : NodeSeen) (journal : Option (List (List ℕ))) → n.journal ≡ journal → IsSome journal → TakeAnswers w now bytes n (Err take_fault.Memory) n
memory_answers w now bytes n None here up = cc
memory_answers w now bytes n (Some bodies) here up = rw here (inl (refl, refl))

parted_short : (repeated : Bool) (place at : ℕ) (frames : List (List ℕ)) (waiting : List (List (List ℕ))) → parted (waits_on repeated None) place at frames waiting ≡ waiting
parted_short true place at frames waiting = refl
parted_short false place at frames waiting = refl

module _ {F : Type 0} (m : Meaning F) (repeated : Bool) (place at : ℕ) (old new : NetSeen) (n : NodeSeen) (frames : List (List ℕ)) (there : slice_get old.nodes place ≡ Some n) (up : IsSome n.journal) (waits : slice_get old.waiting place ≡ Some frames) where
  -- memory ran out before the frame was handed over
  pub handed_short : {E : Type 0} (r : Result Outcome E) → IsErr r → at < length frames → new ≡ old → HandServes m repeated place at old r new
  handed_short (Ok o) err lt same = cc
  handed_short (Err x) err lt same =
      let found = get_below frames at lt in
      inr (
        n,
        frames,
        there,
        waits,
        inr (
          up,
          inr (record {
            bytes = found.0;
            there = found.1;
            answer = Err take_fault.Memory;
            node = n;
            takes = memory_answers (environment m n.identity) old.now found.0 n n.journal refl up;
            counted = tt;
            outcome_is = refl;
            nodes = ap (λ (z : NetSeen). z.nodes) same ∙ sym (set_own old.nodes place n there);
            waiting = ap (λ (z : NetSeen). z.waiting) same ∙ sym (parted_short repeated place at frames old.waiting);
            now = ap (λ (z : NetSeen). z.now) same;
          }),
        ),
      )

  -- memory ran out as the node took it
  pub handed_err : {E G : Type 0} (r : Result Outcome E) (a : Result Delivery G) (x : G) (bytes : List ℕ) (k : NodeSeen) → IsErr r → a ≡ Err x → slice_get frames at ≡ Some bytes → TakeServes m old.now bytes n a k
      → new.nodes ≡ slice_set old.nodes place k → new.waiting ≡ old.waiting → new.now ≡ old.now → HandServes m repeated place at old r new
  handed_err (Ok o) a x bytes k err was found serves nodes waiting now = cc
  handed_err (Err y) a x bytes k err was found (answer, takes, reached_is, sent_is, counted) nodes waiting now =
      inr (
        n,
        frames,
        there,
        waits,
        inr (
          up,
          inr (record {
            bytes = bytes;
            there = found;
            answer = answer;
            node = k;
            takes = takes;
            counted = counted;
            outcome_is = sym (ap reached was) ∙ reached_is;
            nodes = nodes;
            waiting = waiting ∙ sym (ap (λ l. mailed l (parted (waits_on repeated None) place at frames old.waiting)) (sym sent_is ∙ ap replied was) ∙ parted_short repeated place at frames old.waiting);
            now = now;
          }),
        ),
      )

  -- the node took it
  pub handed_done : (E : Type 0) {G : Type 0} (a : Result Delivery G) (delivery : Delivery) (bytes : List ℕ) (k : NodeSeen) (b : Bool) → a ≡ Ok delivery → slice_get frames at ≡ Some bytes → TakeServes m old.now bytes n a k → b ≡ waits_on repeated (Some delivery.outcome)
      → new.nodes ≡ slice_set old.nodes place k → new.waiting ≡ mailed (option_to_list delivery.ack) (parted b place at frames old.waiting) → new.now ≡ old.now → HandServes {E = E} m repeated place at old (Ok delivery.outcome) new
  handed_done E a delivery bytes k b was found (answer, takes, reached_is, sent_is, counted) is nodes waiting now =
      inr (
        n,
        frames,
        there,
        waits,
        inr (
          up,
          inr (record {
            bytes = bytes;
            there = found;
            answer = answer;
            node = k;
            takes = takes;
            counted = counted;
            outcome_is = sym (ap reached was) ∙ reached_is;
            nodes = nodes;
            waiting = waiting ∙ ap (λ l. mailed l (parted b place at frames old.waiting)) (sym (ap replied was) ∙ sent_is) ∙ ap (λ c. mailed (take_sent answer) (parted c place at frames old.waiting)) is;
            now = now;
          }),
        ),
      )

pub list_there : {W : Type 0} (g : W → List (List ℕ)) (items : List W) (p : ℕ) (a : W) (frames : List (List ℕ)) → slice_get items p ≡ Some a → slice_get (map g items) p ≡ Some frames → g a ≡ frames
list_there g items p a frames at there = same_Some _ _ (sym (slice_get-map g items p ∙ ap (option_map g) at) ∙ there)

pub got_some : {X Y : Type 0} (g : X → Y) (o : Option X) (ys : List Y) (i : ℕ) → option_map g o ≡ slice_get ys i → i < length ys → IsSome o
got_some g None ys i is lt = let found = get_below ys i lt in absurd (none-some _ (is ∙ found.1))
got_some g (Some x) ys i is lt = refl
