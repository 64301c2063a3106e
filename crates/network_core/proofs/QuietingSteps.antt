-- What turns, posts and deliveries that commit nothing leave of each node.
use Rattle.std.proofs.Common.{◌≡◌, ℕ, zero, suc, ◌<◌, ◌≤◌, ◌⊎◌, inl, inr, ⊎_elim, List, [], ◌∷◌, Option, Some, None, Bool, true, false, length, slice_get, slice_set, refl, sym, ◌∙◌, ap, subst, arith}
use Rattle.std.proofs.lemmas.Bool.{true≢false, cases_lt}
use Rattle.std.proofs.lemmas.Option.{slice_get_within}
use Rattle.net_base.specs.declared.names.Key.{Key}
use Rattle.net_base.specs.declared.values.Party.{Party}
use Rattle.net_base.proofs.Lists.{set_length}
use Rattle.session_wire.specs.declared.body.Body.{Body}
use Rattle.session_wire.specs.declared.frame.Frame.{Frame}
use Rattle.session_wire.specs.Frames.{IsFrame, frame}
use Rattle.session_wire.specs.Sessions.{Sent}
use Rattle.session_table.specs.Tables.{unacked}
use Rattle.session_table.specs.declared.resent.Item.{Item}
use Rattle.session_frames.specs.declared.judged.Judged.{Judged}
use Rattle.session_frames.specs.declared.judged.Judged.TheVariants as judged
use Rattle.session_frames.specs.declared.sending.Outgoing.{Outgoing}
use Rattle.session_frames.specs.Judging.{judge}
use Rattle.session_frames.specs.Sending.{message_of, outgoing}
use Rattle.session_frames.proofs.Spelled.{spelled}
use Rattle.net_model.specs.Environment.{Environment, party, identity}
use Rattle.node_tables.specs.Journals.{state_of}
use Rattle.node_core.specs.Seen.{picked_at}
use Rattle.node_core.specs.Takes.{unacked_at}
use Rattle.network_core.specs.declared.refusal.Refusal.{Refusal}
use Rattle.network_core.specs.declared.refusal.Refusal.TheVariants as refusal
use Rattle.network_core.specs.declared.steps.Outcome.{Outcome}
use Rattle.network_core.specs.declared.steps.Outcome.TheVariants as outcome
use Rattle.network_core.specs.Worlds.{NodeWorld, World}
use Rattle.network_core.specs.WorldSteps.{WorldTurns, WorldPosts, PostsFrom, HearsNext, Hears, WorldTakes, waits_on, handed_over, without, sent_all}
use Rattle.network_core.specs.Drains.{TurnAt}
use Rattle.network_core.specs.Rounds.{InOrder, IsLastTurn, IsTaken, committed}
use Rattle.network_core.proofs.QuietingFrames.{Has, Grown, grown_same, grown_then, all_grown, all_sent, get_set, has_mapped, all_has}

-- ---- in the order of places

module _ (at : ℕ → ℕ → World → World → Type 0) (R : World → World → Type 0) (limit : ℕ) (same : (w : World) → R w w) (step : (p : ℕ) (w u v : World) → p < limit → R w u → at p 0 u v → R w v) where
  pub order_all : (p n : ℕ) (w v : World) → n ≡ 0 → p ≤ limit → InOrder at p n w v → R w v
  order_all zero n w v nil le (is, there) = subst (R w) (sym there) (same w)
  order_all (suc p) n w v nil le (u, k, j, before, here, sum) =
      let none : j ≡ 0 = omega arith in
      step p w u v (omega arith) (order_all p k w u (omega arith) (omega arith) before) (subst (λ (m : ℕ). at p m u v) none here)

  -- what is done at one place, with what comes before and behind it
  pub order_split : (q p n : ℕ) (w v : World) → n ≡ 0 → p ≤ limit → q < p → InOrder at p n w v → (a : World) × (c : World) × InOrder at q 0 w a × at q 0 a c × R c v
  order_split q zero n w v nil le lt h = absurd (omega (arith, lt))
  order_split q (suc p) n w v nil le lt (u, k, j, before, here, sum) =
      let none : j ≡ 0 = omega arith in
      let first : k ≡ 0 = omega arith in
      elim (cases_lt q p) [
        | inl below ↦
            let found = order_split q p k w u first (omega arith) below before in
            (found.0, found.1, found.2, found.3, step p found.1 u v (omega arith) found.4 (subst (λ (m : ℕ). at p m u v) none here))
        | inr past ↦
            let is : p ≡ q = omega arith in
            (u, v, subst (λ (m : ℕ). InOrder at m 0 w u) is (subst (λ (m : ℕ). InOrder at p m w u) first before), subst (λ (m : ℕ). at m 0 u v) is (subst (λ (m : ℕ). at p m u v) none here), same v)
      ]

-- ---- worlds in which nothing was committed

-- a node that is up was up, on the same journal
pub record Still (x y : NodeWorld) : Type 0 where
  pub up : x.up ≡ true
  pub journal : y.journal ≡ x.journal
  pub other : y.other ≡ x.other

-- each node that is up was up, on the same journal
pub record Stayed (w v : World) : Type 0 where
  pub now : v.now ≡ w.now
  pub count : length v.nodes ≡ length w.nodes
  pub back : (q : ℕ) (y : NodeWorld) → slice_get v.nodes q ≡ Some y → y.up ≡ true → (x : NodeWorld) × (slice_get w.nodes q ≡ Some x) × Still x y

pub stayed_same : (w : World) → Stayed w w
stayed_same w = record { now = refl; count = refl; back = λ q y h up. (y, h, record { up = up; journal = refl; other = refl }) }

pub stayed_then : (w u v : World) → Stayed w u → Stayed u v → Stayed w v
stayed_then w u v f g = record {
  now = g.now ∙ f.now;
  count = g.count ∙ f.count;
  back = λ q y h up.
      let x = g.back q y h up in
      let z = f.back q x.0 x.1 x.2.up in
      (z.0, z.1, record { up = z.2.up; journal = x.2.journal ∙ z.2.journal; other = x.2.other ∙ z.2.other });
}

-- each node is the same, and what waited waits
pub record Posted (w v : World) : Type 0 where
  pub now : v.now ≡ w.now
  pub grown : Grown w.nodes v.nodes

pub posted_same : (w : World) → Posted w w
posted_same w = record { now = refl; grown = grown_same w.nodes }

pub posted_then : (w u v : World) → Posted w u → Posted u v → Posted w v
posted_then w u v f g = record { now = g.now ∙ f.now; grown = grown_then w.nodes u.nodes v.nodes f.grown g.grown }

pub posted_stayed : (w v : World) → Posted w v → Stayed w v
posted_stayed w v f = record {
  now = f.now;
  count = f.grown.count;
  back = λ q y h up.
      let x = f.grown.back q y h in
      (x.0, x.1, record { up = sym x.2.up ∙ up; journal = x.2.journal; other = x.2.other });
}

-- ---- what a node is once a frame was handed over

pub waits_taken : (o : Outcome) → IsTaken o → waits_on false (Some o) ≡ false
waits_taken (outcome.Refused why) taken = absurd (taken why refl)
waits_taken other taken = refl

pub rest_has : (b c : List ℕ) (xs : List (List ℕ)) → slice_get xs 0 ≡ Some c → Has b xs → (c ≡ b) ⊎ Has b (without 0 xs)
rest_has b c [] h there = absurd there
rest_has b c (x ∷ xs) h (inl e) = let same : x ≡ c = cc in inl (sym same ∙ e)
rest_has b c (x ∷ xs) h (inr there) = inr there

pub none_first : (b : List ℕ) (xs : List (List ℕ)) → slice_get xs 0 ≡ None → Has b xs → ⊥
none_first b [] h there = there
none_first b (x ∷ xs) h there = cc

-- the frame at the front is taken, or left
pub record Handed (y z : NodeWorld) : Type 0 where
  pub up : z.up ≡ y.up
  pub journal : z.journal ≡ y.journal
  pub other : z.other ≡ y.other
  pub openable : z.openable ≡ y.openable

pub handed : (b : Bool) (i : ℕ) (y : NodeWorld) → Handed y (handed_over b i y)
handed true i y = record { up = refl; journal = refl; other = refl; openable = refl }
handed false i y = record { up = refl; journal = refl; other = refl; openable = refl }

-- of two places of one list
pub same_node : (xs : List NodeWorld) (q : ℕ) (x y : NodeWorld) → slice_get xs q ≡ Some x → slice_get xs q ≡ Some y → x ≡ y
same_node xs q x y h k = cc

pub down_not_up : (y : NodeWorld) → y.up ≡ true → y.up ≡ false → ⊥
down_not_up y up down = true≢false (sym up ∙ down)

moved_not_last : (f : ℕ) → IsLastTurn (outcome.Moved f) → ⊥
moved_not_last f (inl is) = cc
moved_not_last f (inr (inl is)) = cc
moved_not_last f (inr (inr is)) = cc

refused_last : (why : Refusal) → IsLastTurn (outcome.Refused why) → why ≡ refusal.NodeDown
refused_last why (inl is) = cc
refused_last why (inr (inl is)) = cc
refused_last why (inr (inr is)) = cc

pub down_not_full : (why : Refusal) → why ≡ refusal.NodeDown → why ≡ refusal.Full → ⊥
down_not_full why down full = cc

module _ {F : Type 0} (e : Environment F) where
  -- ---- turns

  turn_idle : (p now : ℕ) (x y : NodeWorld) (o : Outcome) → IsLastTurn o → WorldTurns e p now None x (Some o) y → y.up ≡ true → picked_at e now None y.journal ≡ None
  turn_idle p now x y outcome.Idle last h lit = rw (h.2) h.1
  turn_idle p now x y outcome.Fault last h lit = absurd (down_not_up y lit h.2.down)
  turn_idle p now x y (outcome.Refused why) last h lit = ⊎_elim
      (λ s. absurd (down_not_up x (ap (λ (a : NodeWorld). a.up) (sym h.1) ∙ lit) s.1))
      (λ s. absurd (down_not_full why (refused_last why last) s.0))
      h.0
  turn_idle p now x y (outcome.Moved f) last h lit = absurd (moved_not_last f last)
  turn_idle p now x y other last h lit = absurd h

  -- at the first places no flow can go on
  abbrev pub AreIdle : ℕ → World → Type 0
  AreIdle p v = (q : ℕ) (y : NodeWorld) → q < p → slice_get v.nodes q ≡ Some y → y.up ≡ true → picked_at e v.now None y.journal ≡ None

  pub idle_on : (p : ℕ) (w v : World) (o : Outcome) → p < length w.nodes → IsLastTurn o → TurnAt e p w (Some o) v → AreIdle p w → (length v.nodes ≡ length w.nodes) × AreIdle (suc p) v
  idle_on p w v o lt last (inl (past, is, same)) before = absurd (omega (arith, lt, past))
  idle_on p w v o lt last (inr (x, y, there, same, turn)) before = (
    ap (λ (z : World). length z.nodes) same ∙ set_length w.nodes p y,
    λ q z le at up.
        let now : v.now ≡ w.now = ap (λ (a : World). a.now) same in
        let set : slice_get (slice_set w.nodes p y) q ≡ Some z = rw same at at in
        rw now (⊎_elim
        (λ s. rw s.1 (turn_idle p w.now x y o last turn (ap (λ (a : NodeWorld). a.up) (sym s.1) ∙ up)))
        (λ s. before q z (omega (arith, le, s.0)) s.1 up)
        (get_set w.nodes p y q z set)),
  )

  -- ---- posts

  pub post_grows : (p : ℕ) (w v : World) (o : Option Outcome) → WorldPosts e p w o v → Posted w v
  post_grows p w v o (inl (past, is, same)) = subst (Posted w) (sym same) (posted_same w)
  post_grows p w v o (inr (x, there, from)) = by o from
    where
      by : (a : Option Outcome) → PostsFrom e p w x a v → Posted w v
      by None h = subst (Posted w) (sym h.1) (posted_same w)
      by (Some (outcome.Posted count)) h = subst (Posted w) (sym h.2) (record { now = refl; grown = all_grown (unacked_at e.frame_at (party p) x.journal x.acked) w.nodes })
      by (Some (outcome.Refused why)) h = subst (Posted w) (sym h.2) (posted_same w)
      by (Some other) h = absurd h

  -- what isn't acknowledged waits at its addressee
  pub post_sends : (p : ℕ) (w v : World) (x : NodeWorld) (o : Outcome) (item : Item) → WorldPosts e p w (Some o) v → slice_get w.nodes p ≡ Some x → x.up ≡ true → Has item (unacked (party p) (state_of e.frame_at x.journal).sessions x.acked)
      → IsFrame (message_of (party p) item) × ((y : NodeWorld) → slice_get v.nodes item.peer.0 ≡ Some y → Has (frame (message_of (party p) item)) y.waiting)
  post_sends p w v x o item (inl (past, is, same)) at up has = absurd (let k = slice_get_within w.nodes p x at in omega (arith, past, k))
  post_sends p w v x o item (inr (z, there, from)) at up has =
      let one : z ≡ x = same_node w.nodes p z x there at in
      by o (subst (λ (a : NodeWorld). PostsFrom e p w a (Some o) v) one from)
    where
      by : (a : Outcome) → PostsFrom e p w x (Some a) v → IsFrame (message_of (party p) item) × ((y : NodeWorld) → slice_get v.nodes item.peer.0 ≡ Some y → Has (frame (message_of (party p) item)) y.waiting)
      by (outcome.Posted count) h = (
        all_has (λ (i : Item). IsFrame (message_of (party p) i)) (unacked (party p) (state_of e.frame_at x.journal).sessions x.acked) item h.3 has,
        λ y k.
            let sent = unacked_at e.frame_at (party p) x.journal x.acked in
            let after : slice_get (sent_all sent w.nodes) item.peer.0 ≡ Some y = ap (λ (a : World). slice_get a.nodes item.peer.0) (sym h.2) ∙ k in
            all_sent sent (outgoing (party p) item) w.nodes y (has_mapped (outgoing (party p)) item (unacked (party p) (state_of e.frame_at x.journal).sessions x.acked) has) after,
      )
      by (outcome.Refused why) h = absurd (down_not_up x up h.1)
      by other h = absurd h

  -- ---- deliveries

  -- the node says of these bytes that they are the message of the item that comes next
  pub record IsNextFor (q : ℕ) (journal : List (List ℕ)) (b : List ℕ) : Type 0 where
    pub carried : Frame
    pub lawful : IsFrame carried
    pub whole : b ≡ frame carried
    pub from : Party
    pub key : Key
    pub direction : ℕ
    pub number : ℕ
    pub stamp : ℕ
    pub body : Body
    pub says : judge (identity e q) (state_of e.frame_at journal).sessions carried ≡ judged.Next from key direction number stamp body

  -- where nothing is committed a node that is up stays as it is, but for what is acknowledged
  pub record Quietly (x y : NodeWorld) : Type 0 where
    pub journal : y.journal ≡ x.journal
    pub other : y.other ≡ x.other
    pub waiting : y.waiting ≡ x.waiting

  quietly_same : (x y : NodeWorld) → y ≡ x → Quietly x y
  quietly_same x y is = record { journal = ap (λ (a : NodeWorld). a.journal) is; other = ap (λ (a : NodeWorld). a.other) is; waiting = ap (λ (a : NodeWorld). a.waiting) is }

  next_still : (q now : ℕ) (from : Party) (key : Key) (direction number : ℕ) (item : Sent) (x : NodeWorld) (o : Outcome) (y : NodeWorld) (sent : List Outgoing) → HearsNext e q now from key direction number item x o y sent → committed o ≡ 0 → y.up ≡ true → Quietly x y
  next_still q now from key direction number item x (outcome.Took upto) y sent h none up = absurd (omega (arith, none))
  next_still q now from key direction number item x outcome.Fault y sent h none up = absurd (down_not_up y up h.0.down)
  next_still q now from key direction number item x (outcome.Refused why) y sent h none up = quietly_same x y h.2
  next_still q now from key direction number item x other y sent h none up = absurd h

  pub hears_still : (q now : ℕ) (said : Judged) (x : NodeWorld) (o : Outcome) (y : NodeWorld) (sent : List Outgoing) → Hears e q now said x o y sent → committed o ≡ 0 → y.up ≡ true → Quietly x y
  hears_still q now judged.Garbled x o y sent h none up = absurd h
  hears_still q now (judged.NotMine to) x o y sent h none up = absurd h
  hears_still q now judged.NoSession x o y sent h none up = quietly_same x y h.1
  hears_still q now (judged.Early expected) x o y sent h none up = quietly_same x y h.1
  hears_still q now (judged.Acked key direction upto) x o y sent h none up = record { journal = ap (λ (a : NodeWorld). a.journal) h.1; other = ap (λ (a : NodeWorld). a.other) h.1; waiting = ap (λ (a : NodeWorld). a.waiting) h.1 }
  hears_still q now (judged.Again from key direction expected) x o y sent h none up = quietly_same x y h.1
  hears_still q now (judged.Next from key direction number stamp body) x o y sent h none up = next_still q now from key direction number (record { body = body; stamp = stamp }) x o y sent h none up

  -- the item that comes next is committed, or the node goes down
  next_none : (q now : ℕ) (from : Party) (key : Key) (direction number : ℕ) (item : Sent) (x : NodeWorld) (o : Outcome) (y : NodeWorld) (sent : List Outgoing) → HearsNext e q now from key direction number item x o y sent → IsTaken o → committed o ≡ 0 → y.up ≡ true → ⊥
  next_none q now from key direction number item x (outcome.Took upto) y sent h taken none up = omega (arith, none)
  next_none q now from key direction number item x outcome.Fault y sent h taken none up = down_not_up y up h.0.down
  next_none q now from key direction number item x (outcome.Refused why) y sent h taken none up = taken why refl
  next_none q now from key direction number item x other y sent h taken none up = h

  pub takes_none : (q now : ℕ) (b : List ℕ) (x : NodeWorld) (o : Outcome) (y : NodeWorld) (sent : List Outgoing) → IsNextFor q x.journal b → WorldTakes e q now b x (Some o) y sent → IsTaken o → committed o ≡ 0 → y.up ≡ true → ⊥
  takes_none q now b x o y sent next (said, is, further, hears) taken none up =
      let of : said ≡ judge (identity e q) (state_of e.frame_at x.journal).sessions next.carried = spelled (identity e q) (state_of e.frame_at x.journal).sessions next.carried said next.lawful (rw next.whole at is) in
      next_none q now next.from next.key next.direction next.number (record { body = next.body; stamp = next.stamp }) x o y sent (subst (λ (s : Judged). Hears e q now s x o y sent) (of ∙ next.says) hears) taken none up

  -- only a full journal refuses a frame that is handed over
  next_refused : (q now : ℕ) (from : Party) (key : Key) (direction number : ℕ) (item : Sent) (x : NodeWorld) (o : Outcome) (y : NodeWorld) (sent : List Outgoing) (why : Refusal) → o ≡ outcome.Refused why → HearsNext e q now from key direction number item x o y sent → why ≡ refusal.Full
  next_refused q now from key direction number item x (outcome.Took upto) y sent why is h = cc
  next_refused q now from key direction number item x outcome.Fault y sent why is h = cc
  next_refused q now from key direction number item x (outcome.Refused other) y sent why is h = let full : other ≡ refusal.Full = h.0 in cc
  next_refused q now from key direction number item x other y sent why is h = absurd h

  pub hears_refused : (q now : ℕ) (said : Judged) (x : NodeWorld) (o : Outcome) (y : NodeWorld) (sent : List Outgoing) (why : Refusal) → o ≡ outcome.Refused why → Hears e q now said x o y sent → why ≡ refusal.Full
  hears_refused q now judged.Garbled x o y sent why is h = absurd h
  hears_refused q now (judged.NotMine to) x o y sent why is h = absurd h
  hears_refused q now judged.NoSession x o y sent why is h = let k = h.0 in cc
  hears_refused q now (judged.Early expected) x o y sent why is h = let k = h.0 in cc
  hears_refused q now (judged.Acked key direction upto) x o y sent why is h = let k = h.0 in cc
  hears_refused q now (judged.Again from key direction expected) x o y sent why is h = let k = h.0 in cc
  hears_refused q now (judged.Next from key direction number stamp body) x o y sent why is h = next_refused q now from key direction number (record { body = body; stamp = stamp }) x o y sent why is h
