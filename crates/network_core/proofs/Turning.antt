-- Each step of a drain keeps the network's worlds, and each that commits takes from its room.
use Rattle.std.proofs.Common.{◌≡◌, inl, inr, ℕ, zero, suc, ◌+◌, ◌-◌, ◌<◌, ◌≤◌, ◌^◌, ◌||◌, Bool, List, [], ◌∷◌, length, slice_set, Option, Some, None, IsSome, IsErr, Result, Ok, Err, false, refl, sym, ◌∙◌, ap, subst, arith, length-append, nat_le, nat_lt}
use Rattle.std.specs.List.{slice_get}
use Rattle.std.proofs.lemmas.Bool.{or_parts, leb-false}
use Rattle.std.proofs.lemmas.Option.{MatchOption-at_none, MatchOption-at_some}
use Rattle.session_wire.specs.Sessions.{Sent}
use Rattle.session_frames.specs.declared.sending.Outgoing.{Outgoing}
use Rattle.session_frames.specs.declared.judged.Judged.{Judged}
use Rattle.session_frames.specs.declared.judged.Judged.TheVariants as judged
use Rattle.net_base.specs.declared.causes.Event.{Event}
use Rattle.net_base.specs.declared.names.Key.{Key}
use Rattle.net_base.specs.declared.values.Party.{Party}
use Rattle.net_base.proofs.Lists.{set_length}
use Rattle.disk_journal.specs.Journal.{is_full_at}
use Rattle.net_model.specs.Environment.{environment, Meaning}
use Rattle.net_model.specs.Steps.{stamp_in}
use Rattle.node_core.specs.declared.faults.TurnFault.{TurnFault}
use Rattle.node_core.specs.declared.faults.TurnFault.TheVariants as turn_fault
use Rattle.node_core.specs.declared.faults.Turned.{Turned}
use Rattle.node_core.specs.declared.faults.Turned.TheVariants as turned
use Rattle.node_core.specs.declared.faults.Taken.{Taken}
use Rattle.node_core.specs.declared.faults.Taken.TheVariants as taken
use Rattle.node_core.specs.declared.faults.TakeFault.{TakeFault}
use Rattle.node_core.specs.declared.faults.TakeFault.TheVariants as take_fault
use Rattle.node_tables.specs.Journals.{Reads, state_of}
use Rattle.node_core.specs.Journals.{is_full, bytes_of}
use Rattle.node_core.specs.Seen.{NodeSeen, Commits, TurnsAs, TurnAnswers}
use Rattle.node_core.specs.Takes.{AcceptsAs, Responds, TakesAs, TakeAnswers}
use Rattle.network_core.specs.declared.net.Turning.{Turning}
use Rattle.network_core.specs.declared.steps.Outcome.{Outcome}
use Rattle.network_core.specs.declared.steps.Outcome.TheVariants as outcome
use Rattle.network_core.specs.Worlds.{NetSeen}
use Rattle.network_core.specs.WorldSteps.{WorldPosts}
use Rattle.network_core.specs.Answers.{said, net_steps, turn_outcome, take_outcome, TurnServes, AtPlace, Posting, PostServes, SendServes, Handing, HandServes, count_fresh, mailed}
use Rattle.network_core.specs.Drains.{room, total_room, journal_room, takes, TurnAt, HandAt, world_steps, Drains, Drives, Pair, with_world, pair_steps}
use Rattle.network_core.specs.Rounds.{DrainSteps, Posts, PostsAt, PostsStop, InOrder, Hands, DeliversAt, Turns, TurnsAt, TurnsStop, drain_outcome}
use Rattle.network_core.proofs.Places.{turn_world, waits_get}
use Rattle.network_core.proofs.Delivering.{post_world, hand_world}
use Rattle.network_core.proofs.Draining.{Counts, ends_all}
use Rattle.network_core.proofs.Driving.{net_turn, net_post, net_hand, same_count, post_keeps, to_world}
use Rattle.network_core.proofs.Mapping.{hands_map}
use Rattle.network_core.proofs.Emptying.{hands_shorter}

-- ---- the room

module _ {F : Type 0} (m : Meaning F) (now : ℕ) (n k : NodeSeen) where
  same_room : k ≡ n → journal_room k.journal + 0 ≤ journal_room n.journal
  same_room is = omega (arith, ap (λ x. journal_room x.journal) is)

  -- a journal that isn't full has fewer than 65,536 records
  few : (stamp : ℕ) (bodies : List (List ℕ)) → is_full m.frame_at stamp bodies ≡ false → length bodies < 65536
  few stamp bodies spare =
      let counted = or_parts (is_full_at (length bodies) (17 + bytes_of bodies)) (nat_le (2 ^ 63 - 1) (state_of m.frame_at bodies).stamp || nat_le (2 ^ 63 - 1) stamp) spare in
      leb-false 65536 (length bodies) (or_parts (nat_le 65536 (length bodies)) (nat_lt 133693435 (17 + bytes_of bodies)) counted.0).0

  committed_room : (bodies : List (List ℕ)) (event : Event) (item : Option Sent) → n.journal ≡ Some bodies → Commits (environment m n.identity) now bodies event item n k → journal_room k.journal + 1 ≤ journal_room n.journal
  committed_room bodies event item here c =
      let less = few (stamp_in item) bodies c.appended.room in
      omega (arith, less, ap journal_room c.journal, ap journal_room here, length-append bodies (c.body ∷ []))

  no_room : k.journal ≡ None → journal_room k.journal + 0 ≤ journal_room n.journal
  no_room is = omega (arith, ap journal_room is)

  up_narrows : (pick : Option ℕ) (bodies : List (List ℕ)) → n.journal ≡ Some bodies → (answer : Result Turned TurnFault) → TurnsAs (environment m n.identity) now pick bodies n answer k → journal_room k.journal + takes (turn_outcome answer) ≤ journal_room n.journal
  up_narrows pick bodies here (Ok turned.Idle) s = same_room s.1
  up_narrows pick bodies here (Ok (turned.Moved g)) s = committed_room bodies s.0 None here s.3
  up_narrows pick bodies here (Err turn_fault.NodeDown) s = absurd s
  up_narrows pick bodies here (Err turn_fault.Full) s = same_room s.3
  up_narrows pick bodies here (Err turn_fault.Memory) s = same_room s.3
  up_narrows pick bodies here (Err turn_fault.Fault) s = no_room s.2.journal

  node_narrows : (pick : Option ℕ) (journal : Option (List (List ℕ))) (answer : Result Turned TurnFault) → n.journal ≡ journal → TurnAnswers (environment m n.identity) now pick n answer k → journal_room k.journal + takes (turn_outcome answer) ≤ journal_room n.journal
  node_narrows pick None answer here s =
      let q : (answer ≡ Err turn_fault.NodeDown) × (k ≡ n) = MatchOption-at_none _ _ here s in
      rw q.0 (same_room q.1)
  node_narrows pick (Some bodies) answer here s = up_narrows pick bodies here answer (MatchOption-at_some _ _ bodies here s)

  -- ---- a frame that is handed over

  accepts_narrows : (bodies : List (List ℕ)) → n.journal ≡ Some bodies → (from : Party) (key : Key) (direction number : ℕ) (item : Sent) (answer : Result Taken TakeFault) → AcceptsAs (environment m n.identity) now bodies from key direction number item n answer k
      → journal_room k.journal + takes (take_outcome answer) ≤ journal_room n.journal
  accepts_narrows bodies here from key direction number item (Ok (taken.Took upto ack)) s = committed_room bodies _ (Some item) here s.2
  accepts_narrows bodies here from key direction number item (Ok taken.Acked) s = absurd s
  accepts_narrows bodies here from key direction number item (Ok (taken.Again expected ack)) s = absurd s
  accepts_narrows bodies here from key direction number item (Ok (taken.Early expected)) s = absurd s
  accepts_narrows bodies here from key direction number item (Ok taken.NoSession) s = absurd s
  accepts_narrows bodies here from key direction number item (Err take_fault.NodeDown) s = absurd s
  accepts_narrows bodies here from key direction number item (Err take_fault.Garbled) s = absurd s
  accepts_narrows bodies here from key direction number item (Err (take_fault.NotMine to)) s = absurd s
  accepts_narrows bodies here from key direction number item (Err take_fault.Full) s = same_room s.1
  accepts_narrows bodies here from key direction number item (Err take_fault.Memory) s = absurd s
  accepts_narrows bodies here from key direction number item (Err take_fault.Fault) s = no_room s.journal

  answered_room : (answer : Result Taken TakeFault) (z : Result Taken TakeFault) → answer ≡ z → takes (take_outcome z) ≡ 0 → k.journal ≡ n.journal → journal_room k.journal + takes (take_outcome answer) ≤ journal_room n.journal
  answered_room answer z is none same = omega (arith, ap (λ a. takes (take_outcome a)) is, none, ap journal_room same)

  responds_narrows : (bodies : List (List ℕ)) → n.journal ≡ Some bodies → (said : Judged) (answer : Result Taken TakeFault) → Responds (environment m n.identity) now bodies said n answer k → journal_room k.journal + takes (take_outcome answer) ≤ journal_room n.journal
  responds_narrows bodies here judged.Garbled answer s = answered_room answer _ s.0 refl (ap (λ z. z.journal) s.1)
  responds_narrows bodies here (judged.NotMine to) answer s = answered_room answer _ s.0 refl (ap (λ z. z.journal) s.1)
  responds_narrows bodies here judged.NoSession answer s = answered_room answer _ s.0 refl (ap (λ z. z.journal) s.1)
  responds_narrows bodies here (judged.Early expected) answer s = answered_room answer _ s.0 refl (ap (λ z. z.journal) s.1)
  responds_narrows bodies here (judged.Acked key direction upto) answer s = answered_room answer _ s.0 refl (ap (λ z. z.journal) s.1)
  responds_narrows bodies here (judged.Again from key direction expected) answer s = answered_room answer _ s.0 refl (ap (λ z. z.journal) s.1)
  responds_narrows bodies here (judged.Next from key direction number stamp body) answer s = accepts_narrows bodies here from key direction number (record { body = body; stamp = stamp }) answer s

  takes_narrows : (bytes : List ℕ) (bodies : List (List ℕ)) → n.journal ≡ Some bodies → (answer : Result Taken TakeFault) → TakesAs (environment m n.identity) now bytes bodies n answer k → journal_room k.journal + takes (take_outcome answer) ≤ journal_room n.journal
  takes_narrows bytes bodies here answer (inl (is, same)) = answered_room answer _ is refl (ap (λ z. z.journal) same)
  takes_narrows bytes bodies here answer (inr (said, judges, further, s)) = responds_narrows bodies here said answer s

  pub node_takes : (bytes : List ℕ) (journal : Option (List (List ℕ))) (answer : Result Taken TakeFault) → n.journal ≡ journal → IsSome journal → TakeAnswers (environment m n.identity) now bytes n answer k → journal_room k.journal + takes (take_outcome answer) ≤ journal_room n.journal
  node_takes bytes None answer here up s = cc
  node_takes bytes (Some bodies) answer here up s = takes_narrows bytes bodies here answer (MatchOption-at_some _ _ bodies here s)

total_set : (ns : List NodeSeen) (i : ℕ) (n k : NodeSeen) (by : ℕ) → slice_get ns i ≡ Some n → journal_room k.journal + by ≤ journal_room n.journal → total_room (slice_set ns i k) + by ≤ total_room ns
total_set [] i n k by at le = cc
total_set (x ∷ xs) zero n k by at le = let same : x ≡ n = cc in omega (arith, le, ap (λ z. journal_room z.journal) same)
total_set (x ∷ xs) (suc i) n k by at le = omega (arith, total_set xs i n k by at le)

module _ {F : Type 0} (m : Meaning F) where
  pub narrows : {E : Type 0} (now p : ℕ) (pick : Option ℕ) (old new : NetSeen) (result : Result Outcome E) → AtPlace p old result new (λ n r k. TurnServes m now pick n r k) → room new + takes (said result) ≤ room old
  unfolding room
  narrows now p pick old new result (inl (past, is, same)) = rw is (omega (arith, ap (λ x. total_room x.nodes) same))
  narrows now p pick old new result (inr (n, k, at, nodes, waiting, (answer, answers, so))) =
      let less = total_set old.nodes p n k (takes (turn_outcome answer)) at (node_narrows m now n k pick n.journal answer refl answers) in
      rw so (omega (arith, less, ap total_room nodes))

  -- a turn that moves takes one
  pub narrows_moved : {E : Type 0} (now p : ℕ) (pick : Option ℕ) (old new : NetSeen) (result : Result Outcome E) (o : Outcome) (g : ℕ) → AtPlace p old result new (λ n r k. TurnServes m now pick n r k) → result ≡ Ok o → o ≡ outcome.Moved g → room new < room old
  narrows_moved now p pick old new result o g at was is =
      let less : room new + takes (said result) ≤ room old = narrows now p pick old new result at in
      let one : takes (said result) ≡ 1 = ap (λ r. takes (said r)) was ∙ ap (λ z. takes (Some z)) is in
      omega (arith, less, one)

  -- ---- posts and deliveries

  -- what a delivery takes from the room; it changes no moment, and no number of nodes
  pub record Took (old new : NetSeen) (o : Option Outcome) : Type 0 where
    pub left : total_room new.nodes + takes o ≤ total_room old.nodes
    pub clock : new.now ≡ old.now
    pub count : length new.nodes ≡ length old.nodes

  took_none : (old new : NetSeen) (o z : Option Outcome) → o ≡ z → takes z ≡ 0 → new ≡ old → Took old new o
  took_none old new o z is none same = record { left = omega (arith, ap takes is, none, ap (λ y. total_room y.nodes) same); clock = ap (λ y. y.now) same; count = ap (λ y. length y.nodes) same }

  handing_takes : (repeated : Bool) (p i : ℕ) (n : NodeSeen) (frames : List (List ℕ)) (old new : NetSeen) (o : Option Outcome) → slice_get old.nodes p ≡ Some n → Handing m repeated p i n frames old o new → Took old new o
  handing_takes repeated p i n frames old new o at (inl (none, is, same)) = took_none old new o _ is refl same
  handing_takes repeated p i n frames old new o at (inr (up, inl (none, is, same))) = took_none old new o _ is refl same
  handing_takes repeated p i n frames old new o at (inr (up, inr h)) =
      let less = total_set old.nodes p n h.node (takes (take_outcome h.answer)) at (node_takes m old.now n h.node h.bytes n.journal h.answer refl up h.takes) in
      record { left = omega (arith, less, ap total_room h.nodes, ap takes h.outcome_is); clock = h.now; count = ap length h.nodes ∙ set_length old.nodes p h.node }

  pub hand_takes : {E : Type 0} (repeated : Bool) (p i : ℕ) (old new : NetSeen) (result : Result Outcome E) → HandServes m repeated p i old result new → Took old new (said result)
  hand_takes repeated p i old new result (inl (past, is, same)) = took_none old new (said result) _ is refl same
  hand_takes repeated p i old new result (inr (n, frames, at, waits, handing)) = handing_takes repeated p i n frames old new (said result) at handing

  -- ---- the worlds

  -- one turn, at a place of the network
  pub drives_turn : {E : Type 0} (p : ℕ) (old new : NetSeen) (result : Result Outcome E) (o : Option Outcome) → p < length old.nodes → new.now ≡ old.now → AtPlace p old result new (λ n r k. TurnServes m old.now None n r k) → said result ≡ o
      → Drives m old new (λ W s w v. (p < s.count w) × s.turn p w o v)
  drives_turn p old new result o lt clock at was = record {
    pairs = λ id w shows coherent.
        let one = turn_world m p old new result None clock at id w shows coherent in
        (one.0, one.1, one.2, (lt, (net_turn m p old new result o was at clock, subst (λ (s : Option Outcome). TurnAt (environment m id) p w s one.0) was one.3)));
    seen = (lt, net_turn m p old new result o was at clock);
    clock = clock;
    left = omega (arith, narrows old.now p None old new result at);
    count = same_count p old new result (λ n r k. TurnServes m old.now None n r k) at;
  }

  -- one post
  pub drives_post : {E : Type 0} (p : ℕ) (old new : NetSeen) (result : Result Outcome E) (o : Option Outcome) → PostServes m.frame_at p old result new → said result ≡ o → Drives m old new (λ W s w v. s.post p w o v)
  unfolding room
  drives_post p old new result o at was =
      let same = post_keeps m p old new result at in
      record {
        pairs = λ id w shows coherent.
            let one = post_world m p old new result at id w shows coherent in
            (one.0, one.1, one.2, (net_post m p old new result o was at, subst (λ (s : Option Outcome). WorldPosts (environment m id) p w s one.0) was one.3));
        seen = net_post m p old new result o was at;
        clock = same.1;
        left = omega (arith, ap total_room same.0);
        count = ap length same.0;
      }

  -- one delivery, at a place of the network
  pub drives_hand : {E : Type 0} (p : ℕ) (old new : NetSeen) (result : Result Outcome E) (o : Option Outcome) → p < length old.nodes → HandServes m false p 0 old result new → said result ≡ o
      → Drives m old new (λ W s w v. (p < s.count w) × s.hand p w o v)
  unfolding room
  drives_hand p old new result o lt at was =
      let took = hand_takes false p 0 old new result at in
      record {
        pairs = λ id w shows coherent.
            let one = hand_world m false p 0 old new result at id w shows coherent in
            (one.0, one.1, one.2, (lt, (net_hand m p old new result o was at, subst (λ (s : Option Outcome). HandAt (environment m id) p w s one.0) was one.3)));
        seen = (lt, net_hand m p old new result o was at);
        clock = took.clock;
        left = omega (arith, took.left);
        count = took.count;
      }

  -- a delivery that commits takes one
  pub hand_falls : {E : Type 0} (p : ℕ) (old new : NetSeen) (result : Result Outcome E) (o : Outcome) → HandServes m false p 0 old result new → result ≡ Ok o → takes (Some o) ≡ 1 → room new < room old
  unfolding room
  hand_falls p old new result o at was one =
      let took = hand_takes false p 0 old new result at in
      omega (arith, took.left, ap (λ r. takes (said r)) was, one)

pub count_turn : {F E : Type 0} (m : Meaning F) (now : ℕ) (pick : Option ℕ) (p : ℕ) (old new : NetSeen) (result : Result Outcome E) → AtPlace p old result new (λ n r k. TurnServes m now pick n r k) → length new.nodes ≡ length old.nodes
count_turn m now pick p old new result at = same_count p old new result (λ n r k. TurnServes m now pick n r k) at

-- ---- a drain's answer

-- the result of the drain of a call
pub drained_as : {F E : Type 0} (m : Meaning F) (old new : NetSeen) (r : Result Bool E) (o : Option Outcome) → drain_outcome r ≡ o → Drains m old (drain_outcome r) new → Drains m old o new
drained_as m old new r o is h = subst (λ (z : Option Outcome). Drains m old z new) is h

pub drain_short : {E : Type 0} (r : Result Bool E) → IsErr r → drain_outcome r ≡ None
drain_short (Ok t) is = cc
drain_short (Err x) is = refl

-- ---- posts of all nodes

pub posts_short : {W E : Type 0} (s : DrainSteps W) (w v : W) (r : Result (Unit {0}) E) → IsErr r → PostsStop s None w v → Posts s w r v
posts_short s w v (Ok t) is h = cc
posts_short s w v (Err x) is h = h

pub posts_err : {W E : Type 0} (s : DrainSteps W) (w v : W) (r : Result (Unit {0}) E) (x : E) → r ≡ Err x → Posts s w r v → PostsStop s None w v
posts_err {W} {E} s w v r x is h = subst (λ (z : Result (Unit {0}) E). Posts s w z v) is h

pub posts_ok : {W E : Type 0} (s : DrainSteps W) (w v : W) (r : Result (Unit {0}) E) (x : Unit {0}) → r ≡ Ok x → Posts s w r v → InOrder (PostsAt s) (s.count w) 0 w v
posts_ok {W} {E} s w v r x is h = subst (λ (z : Result (Unit {0}) E). Posts s w z v) is h

pub posts_all : {W : Type 0} (s : DrainSteps W) (p : ℕ) (w v : W) → s.count w ≡ p → InOrder (PostsAt s) p 0 w v → InOrder (PostsAt s) (s.count w) 0 w v
posts_all s p w v is h = subst (λ (q : ℕ). InOrder (PostsAt s) q 0 w v) (sym is) h

-- ---- deliveries at a node

-- all frames that waited at first were delivered
pub all_delivered : {F : Type 0} (m : Meaning F) (old new : NetSeen) (p d : ℕ) (moved : Bool) (frames : List (List ℕ)) → slice_get old.waiting p ≡ Some frames → length frames ≡ d
    → Drives m old new (λ W s w v. Counts moved (Hands s p d) w v) → Drives m old new (λ W s w v. Counts moved (DeliversAt s p) w v)
all_delivered m old new p d moved frames at count drives = record {
  pairs = λ id w shows coherent.
      let e = environment m id in
      let one = drives.pairs id w shows coherent in
      let a = with_world old w shows coherent in
      let b = with_world new one.0 one.1 one.2 in
      let found = waits_get w.nodes p frames (ap (λ l. slice_get l p) shows.waiting ∙ at) in
      (one.0, one.1, one.2, ends_all (pair_steps m id) p d moved a b (λ n h. inr (refl, inr ((frames, at, count), refl), hands_shorter e p d n w one.0 found.0 found.1 (ap length found.2 ∙ count) (hands_map (pair_steps m id) (world_steps e) (λ (z : Pair e). z.world) (to_world m id) p d n a b h))) one.3);
  seen = ends_all (net_steps m) p d moved old new (λ n h. inr ((frames, at, count), refl)) drives.seen;
  clock = drives.clock;
  left = drives.left;
  count = drives.count;
}

pub turns_is : {W E : Type 0} (made : ℕ → W → W → Type 0) (stops : Option Outcome → W → W → Type 0) (w v : W) (r : Result Turning E) (t : Turning) → r ≡ Ok t → Turns r made stops w v → Turns {E = E} (Ok t) made stops w v
turns_is {W} {E} made stops w v r t is h = subst (λ (z : Result Turning E). Turns z made stops w v) is h

-- the turns and the posts of a round
abbrev pub PostedSo : {W : Type 0} → DrainSteps W → (E : Type 0) → Turning → W → W → Type 0
PostedSo {W} s E t w v = (u : W) × Turns {E = E} (Ok t) (InOrder (TurnsAt s) (s.count w)) (TurnsStop s) w u × InOrder (PostsAt s) (s.count u) 0 u v

pub posted_so : {W : Type 0} (s : DrainSteps W) (E : Type 0) (t : Turning) (w u v : W) → Turns {E = E} (Ok t) (InOrder (TurnsAt s) (s.count w)) (TurnsStop s) w u → InOrder (PostsAt s) (s.count u) 0 u v → PostedSo s E t w v
posted_so s E t w u v turns posts = (u, turns, posts)

-- ---- what a node has to send

module _ {F E : Type 0} (f : Reads F) (n : NodeSeen) (r : Result (Option (List Outgoing)) E) (o : Option (List Outgoing)) (was : r ≡ Ok o) (serves : SendServes f n r) where
  pub sends_some : (frames : List Outgoing) → o ≡ Some frames → SendServes {E = E} f n (Ok (Some frames))
  sends_some frames is = subst (λ (z : Result (Option (List Outgoing)) E). SendServes f n z) (was ∙ ap Ok is) serves

  pub sends_none : o ≡ None → n.journal ≡ None
  sends_none is = subst (λ (z : Result (Option (List Outgoing)) E). SendServes f n z) (was ∙ ap Ok is) serves

-- its frames are posted
pub posting : (E : Type 0) {F : Type 0} (f : Reads F) (n : NodeSeen) (frames : List Outgoing) → SendServes {E = E} f n (Ok (Some frames)) → (nodes : List NodeSeen) (waiting : List (List (List ℕ))) (now count : ℕ) (after : List (List (List ℕ)))
    → count ≡ count_fresh frames waiting → after ≡ mailed frames waiting → Posting f n (record { nodes = nodes; waiting = waiting; now = now }) (Some (outcome.Posted count)) (record { nodes = nodes; waiting = after; now = now })
posting E f n frames (bodies, here, is, messages) nodes waiting now count after counted sent =
    (bodies, here, messages, counted ∙ ap (λ l. count_fresh l waiting) is, ap (λ l. record { nodes = nodes; waiting = l; now = now }) (sent ∙ ap (λ l. mailed l waiting) is))

-- memory ran out for a post of a node that is up, and nothing changed
pub post_left : {F E : Type 0} (f : Reads F) (place : ℕ) (n : NodeSeen) (old new : NetSeen) (r : Result Outcome E) → IsErr r → slice_get old.nodes place ≡ Some n → IsSome n.journal → new ≡ old → PostServes f place old r new
post_left f place n old new (Ok o) err at up same = cc
post_left f place n old new (Err x) err at up same = inr (n, at, (up, same))

-- a node whose frames were given is up
pub up_by : {F : Type 0} (E : Type 0) (f : Reads F) (n : NodeSeen) (frames : List Outgoing) → SendServes {E = E} f n (Ok (Some frames)) → IsSome n.journal
up_by E f n frames s = rw s.1 refl
