-- A round in which nothing was committed leaves a quiet world.
use Rattle.std.proofs.Common.{◌≡◌, ℕ, zero, suc, ◌<◌, ◌≤◌, inl, inr, ⊎_elim, List, Option, Some, None, true, false, map, length, slice_get, refl, sym, ◌∙◌, ap, subst, arith}
use Rattle.std.specs.List.{AllByRecursion}
use Rattle.std.proofs.lemmas.Bool.{cases_lt, false_from_ne_true, leb-true}
use Rattle.std.proofs.lemmas.Option.{slice_get_within}
use Rattle.std.specs.Prelude.{nat_le}
use Rattle.std.proofs.lemmas.List.{length-map}
use Rattle.net_base.proofs.Lists.{all_get, get_below, get_beside, get_map}
use Rattle.session_wire.specs.Frames.{IsFrame, frame}
use Rattle.session_wire.specs.Sessions.{Sent, Session, session_of}
use Rattle.session_wire.specs.Rules.{direction_out}
use Rattle.session_table.specs.Tables.{item_of, unacked}
use Rattle.session_table.specs.declared.resent.Item.{Item}
use Rattle.session_frames.specs.Judging.{arrived}
use Rattle.session_frames.specs.Sending.{message_of}
use Rattle.net_model.specs.Environment.{Environment, party}
use Rattle.net_model.specs.State.{NodeState, replay}
use Rattle.node_tables.specs.Journals.{records_of, state_of}
use Rattle.node_core.specs.Seen.{picked_at}
use Rattle.network_core.specs.Worlds.{NodeWorld, World, Choice, states_of, came_at, Agrees, Coherent}
use Rattle.network_core.specs.Drains.{TurnAt, HasArrived, Quiet, DrainsByTurns, world_steps}
use Rattle.network_core.specs.Rounds.{InOrder, TurnsAt, PostsAt, DeliversAt, Round}
use Rattle.network_core.proofs.Agreeing.{does_coherent}
use Rattle.network_core.proofs.QuietingSides.{IsSided, sided, other_side}
use Rattle.network_core.proofs.QuietingFrames.{Has, Keeps, has_unacked, judged_next}
use Rattle.network_core.proofs.QuietingSteps.{order_all, order_split, Still, Stayed, stayed_same, stayed_then, Posted, posted_same, posted_then, posted_stayed, same_node, AreIdle, idle_on, post_grows, post_sends, IsNextFor}
use Rattle.network_core.proofs.QuietingRuns.{drained_run, stopped_run}
use Rattle.network_core.proofs.QuietingRounds.{delivers_stayed, delivers_none, before_keeps}

-- ---- lists

of_mapped : {X Y : Type 0} (f : X → Y) (xs : List X) (p : ℕ) (x : X) (y : Y) → slice_get xs p ≡ Some x → slice_get (map f xs) p ≡ Some y → y ≡ f x
of_mapped f xs p x y h k = let m = get_map f xs p x h in cc

not_both : (o : Option (List (List ℕ))) (l : List (List ℕ)) → o ≡ None → o ≡ Some l → ⊥
not_both o l none some = cc

module _ {F : Type 0} (e : Environment F) where
  -- ---- the turns of a round

  -- a coherent world in which no flow can go on at the first places
  record Turned (p count : ℕ) (v : World) : Type 0 where
    coherent : Coherent e v
    count_is : length v.nodes ≡ count
    idle : AreIdle e p v

  turned_on : (p n : ℕ) (w v : World) → n ≡ 0 → p < length w.nodes → Turned p (length w.nodes) w → TurnsAt (world_steps e) p n w v → Turned (suc p) (length w.nodes) v
  turned_on p zero w v nil lt before (u, o, moves, turn, last) =
      let here : TurnAt e p w (Some o) v = subst (λ (z : World). TurnAt e p z (Some o) v) moves turn in
      let next = idle_on e p w v o lt last here before.idle in
      record { coherent = does_coherent e p w v (Some o) before.coherent (inl here); count_is = next.0; idle = next.1 }
  turned_on p (suc n) w v nil lt before h = absurd (omega (arith, nil))

  turned_all : (p n : ℕ) (w v : World) → n ≡ 0 → p ≤ length w.nodes → Coherent e w → InOrder (TurnsAt (world_steps e)) p n w v → Turned p (length w.nodes) v
  turned_all zero n w v nil le coherent (is, same) = subst (Turned zero (length w.nodes)) (sym same) (record { coherent = coherent; count_is = refl; idle = λ q y lt at up. absurd (omega (arith, lt)) })
  turned_all (suc p) n w v nil le coherent (u, k, j, before, here, sum) =
      let first : k ≡ 0 = omega (arith, nil, sum) in
      let last : j ≡ 0 = omega (arith, nil, sum) in
      let t = turned_all p k w u first (omega (arith, le)) coherent before in
      let lt : p < length u.nodes = omega (arith, le, t.count_is) in
      let same : length u.nodes ≡ length w.nodes = t.count_is in
      let next = turned_on p j u v last lt (record { coherent = t.coherent; count_is = refl; idle = t.idle }) here in
      record { coherent = next.coherent; count_is = next.count_is ∙ same; idle = next.idle }

  -- ---- a coherent world in which two nodes are up

  module _ (u : World) (coherent : Coherent e u) where
    abbrev lists : List (List (List ℕ))
    lists = map (λ (x : NodeWorld). x.journal) u.nodes

    abbrev net : List (NodeState F)
    net = map replay (map (records_of e.frame_at) lists)

    chosen : Choice u lists
    chosen = record { count = length-map u.nodes (λ (x : NodeWorld). x.journal); each = λ p x l at there. inl (of_mapped (λ (a : NodeWorld). a.journal) u.nodes p x l at there) }

    agrees : Agrees e u lists
    agrees = coherent.agrees lists chosen

    list_at : (p : ℕ) (x : NodeWorld) → slice_get u.nodes p ≡ Some x → slice_get lists p ≡ Some x.journal
    list_at p x at = get_map (λ (a : NodeWorld). a.journal) u.nodes p x at

    state_at : (p : ℕ) (x : NodeWorld) → slice_get u.nodes p ≡ Some x → slice_get net p ≡ Some (state_of e.frame_at x.journal)
    unfolding state_of
    state_at p x at = get_map replay (map (records_of e.frame_at) lists) p (records_of e.frame_at x.journal) (get_map (records_of e.frame_at) lists p x.journal (list_at p x at))

    sides_at : (p : ℕ) (x : NodeWorld) → slice_get u.nodes p ≡ Some x → AllByRecursion (IsSided net p) (state_of e.frame_at x.journal).sessions
    unfolding state_of
    sides_at p x at =
        sided net p e (records_of e.frame_at x.journal) ((coherent.each p x at).every x.journal (inl refl)).local
        (agrees.matched p (records_of e.frame_at x.journal) (get_map (records_of e.frame_at) lists p x.journal (list_at p x at)))

    -- how many items arrived at a node
    came_is : (p : ℕ) (x : NodeWorld) (session : Session) → slice_get u.nodes p ≡ Some x → came_at (states_of e lists) p session.key ≡ arrived (session_of session.key (state_of e.frame_at x.journal).sessions)
    came_is p x session at = let there = get_map (state_of e.frame_at) lists p x.journal (list_at p x at) in rw there refl

    module _ (p q i : ℕ) (x y : NodeWorld) (session : Session) (at : slice_get u.nodes p ≡ Some x) (up : x.up ≡ true) (there : slice_get (state_of e.frame_at x.journal).sessions i ≡ Some session) (peer : session.peer.0 ≡ q) (to : slice_get u.nodes q ≡ Some y) where
      abbrev came : ℕ
      came = arrived (session_of session.key (state_of e.frame_at y.journal).sessions)

      -- no more is acknowledged than arrived
      acked_by : (n : ℕ) → slice_get x.acked i ≡ Some n → n ≤ came
      acked_by n is =
          let le = agrees.arrived p x at up i session n there is in
          let count : came_at (states_of e lists) session.peer.0 session.key ≡ came = ap (λ (r : ℕ). came_at (states_of e lists) r session.key) peer ∙ came_is q y session to in
          omega (arith, le, count)

      acked_there : (n : ℕ) × (slice_get x.acked i ≡ Some n)
      acked_there = get_beside (state_of e.frame_at x.journal).sessions x.acked i session (sym (coherent.numbers p x at up)) there

      -- the next item of the session, if there is one, isn't acknowledged
      pub next_unacked : (item : Sent) → slice_get session.sent came ≡ Some item → Has (item_of (party p) session came item) (unacked (party p) (state_of e.frame_at x.journal).sessions x.acked)
      next_unacked item is = has_unacked (party p) (state_of e.frame_at x.journal).sessions x.acked i session acked_there.0 came item there acked_there.1 is (acked_by acked_there.0 acked_there.1)

      within : nat_le e.nodes p ≡ false
      within = false_from_ne_true (nat_le e.nodes p) (λ is.
          let past = leb-true e.nodes p is in
          let below = slice_get_within u.nodes p x at in
          omega (arith, past, below, coherent.count))

      mine : IsSided net p session
      mine = all_get (IsSided net p) (state_of e.frame_at x.journal).sessions i session (sides_at p x at) there

      -- its message is that of the item that comes next where it goes
      pub next_there : (item : Sent) → IsFrame (message_of (party p) (item_of (party p) session came item)) → IsNextFor e q y.journal (frame (message_of (party p) (item_of (party p) session came item)))
      next_there item lawful = record {
        carried = message_of (party p) (item_of (party p) session came item);
        lawful = lawful;
        whole = refl;
        from = party p;
        key = session.key;
        direction = direction_out (party p) session.key;
        number = came;
        stamp = item.stamp;
        body = item.body;
        says = judged_next e p q session came item (state_of e.frame_at y.journal).sessions peer within (other_side net p q session mine peer (state_of e.frame_at y.journal) (state_at q y to) (sides_at q y to)) refl;
      }

  -- ---- a round

  module _ (w u t v : World) (coherent : Coherent e w) (turns : InOrder (TurnsAt (world_steps e)) (length w.nodes) 0 w u) (posts : InOrder (PostsAt (world_steps e)) (length w.nodes) 0 u t) (delivers : InOrder (DeliversAt (world_steps e)) (length w.nodes) 0 t v) where
    turned : Turned (length w.nodes) (length w.nodes) u
    turned = turned_all (length w.nodes) 0 w u refl (omega arith) coherent turns

    post_step : (p : ℕ) (a b c : World) → p < length w.nodes → Posted a b → PostsAt (world_steps e) p 0 b c → Posted a c
    post_step p a b c lt before (o, post, is) = posted_then a b c before (post_grows e p b c (Some o) post)

    deliver_step : (p : ℕ) (a b c : World) → p < length w.nodes → Stayed a b → DeliversAt (world_steps e) p 0 b c → Stayed a c
    deliver_step p a b c lt before here = stayed_then a b c before (delivers_stayed e p 0 b c refl here)

    posted : Posted u t
    posted = order_all (PostsAt (world_steps e)) Posted (length w.nodes) posted_same post_step (length w.nodes) 0 u t refl (omega arith) posts

    delivered : Stayed t v
    delivered = order_all (DeliversAt (world_steps e)) Stayed (length w.nodes) stayed_same deliver_step (length w.nodes) 0 t v refl (omega arith) delivers

    stayed : Stayed u v
    stayed = stayed_then u t v (posted_stayed u t posted) delivered

    within_all : (p : ℕ) (x : NodeWorld) → slice_get u.nodes p ≡ Some x → p < length w.nodes
    within_all p x at = let k = slice_get_within u.nodes p x at in omega (arith, k, turned.count_is)

    idle : (p : ℕ) (y : NodeWorld) → slice_get v.nodes p ≡ Some y → y.up ≡ true → picked_at e v.now None y.journal ≡ None
    idle p y at up =
        let x = stayed.back p y at up in
        let picked = turned.idle p x.0 (within_all p x.0 x.1) x.1 x.2.up in
        rw (stayed.now, x.2.journal) picked

    -- an item that a node has for another waits there once all have posted
    waits_posted : (p q : ℕ) (x : NodeWorld) (item : Item) → slice_get u.nodes p ≡ Some x → x.up ≡ true → item.peer.0 ≡ q → Has item (unacked (party p) (state_of e.frame_at x.journal).sessions x.acked)
        → (IsFrame (message_of (party p) item)) × ((z : NodeWorld) → slice_get t.nodes q ≡ Some z → Has (frame (message_of (party p) item)) z.waiting)
    waits_posted p q x item at up to has =
        let lt = within_all p x at in
        let s = order_split (PostsAt (world_steps e)) Posted (length w.nodes) posted_same post_step p (length w.nodes) 0 u t refl (omega arith) lt posts in
        let first = order_all (PostsAt (world_steps e)) Posted (length w.nodes) posted_same post_step p 0 u s.0 refl (omega (arith, lt)) s.2 in
        let there = get_beside u.nodes s.0.nodes p x (sym first.grown.count) at in
        let old = first.grown.back p there.0 there.1 in
        let keeps : Keeps x there.0 = subst (λ (z : NodeWorld). Keeps z there.0) {x = old.0} (same_node u.nodes p old.0 x old.1 at) old.2 in
        let left : Has item (unacked (party p) (state_of e.frame_at there.0.journal).sessions there.0.acked) = rw (keeps.journal, keeps.acked) has in
        let sends = post_sends e p s.0 s.1 there.0 s.3.0 item s.3.1 there.1 (keeps.up ∙ up) left in (
          sends.0,
          λ z at.
              let y = s.4.grown.back q z at in
              y.2.waits (frame (message_of (party p) item)) (sends.1 y.0 (ap (slice_get s.1.nodes) to ∙ y.1)),
        )

    -- the one journal of a node that is up
    came_chosen : (q : ℕ) (x y : NodeWorld) (session : Session) (lists : List (List (List ℕ))) → Choice v lists → slice_get u.nodes q ≡ Some x → Still x y → slice_get v.nodes q ≡ Some y → came_at (states_of e lists) q session.key ≡ arrived (session_of session.key (state_of e.frame_at x.journal).sessions)
    came_chosen q x y session lists choice at still to =
        let l = get_beside v.nodes lists q y (sym choice.count) to in
        let alone : x.other ≡ None = (turned.coherent.each q x at).one still.up in
        let is : l.0 ≡ x.journal = ⊎_elim (λ k. k ∙ still.journal) (λ k. absurd (not_both y.other l.0 (still.other ∙ alone) k)) (choice.each q y l.0 to l.1) in
        let there = get_map (state_of e.frame_at) lists q l.0 l.1 in
        rw (there, is) refl

    -- a frame that waits once all have posted, and is to be committed where it is handed over
    never_left : (q : ℕ) (x y : NodeWorld) (b : List ℕ) → slice_get u.nodes q ≡ Some x → Still x y → slice_get v.nodes q ≡ Some y → y.up ≡ true → IsNextFor e q x.journal b → ((z : NodeWorld) → slice_get t.nodes q ≡ Some z → Has b z.waiting) → ⊥
    never_left q x y b at still to lit next has =
        let s = order_split (DeliversAt (world_steps e)) Stayed (length w.nodes) stayed_same deliver_step q (length w.nodes) 0 t v refl (omega arith) (within_all q x at) delivers in
        let here = s.4.back q y to lit in
        let kept : x.journal ≡ here.0.journal = sym still.journal ∙ here.2.journal in
        delivers_none e q 0 s.0 s.1 b here.0 refl s.3 (subst (λ (l : List (List ℕ)). IsNextFor e q l b) kept next) (λ z k. let old = before_keeps e q t s.0 s.2 z k in old.2.waits b (has old.0 old.1)) here.1 here.2.up

    arrived_all : (p : ℕ) (x : NodeWorld) → slice_get v.nodes p ≡ Some x → x.up ≡ true → HasArrived e v x
    arrived_all p x at up i q session y there peer to lit lists choice =
        let mine = stayed.back p x at up in
        let other = stayed.back q y to lit in
        let session_is : slice_get (state_of e.frame_at mine.0.journal).sessions i ≡ Some session = ap (λ (l : List (List ℕ)). slice_get (state_of e.frame_at l).sessions i) (sym mine.2.journal) ∙ there in
        let count = came_chosen q other.0 y session lists choice other.1 other.2 to in
        let came = arrived (session_of session.key (state_of e.frame_at other.0.journal).sessions) in
        elim (cases_lt came (length session.sent)) [
          | inr le ↦ omega (arith, le, count)
          | inl lt ↦
              let next = get_below session.sent came lt in
              let item = item_of (party p) session came next.0 in
              let left = next_unacked u turned.coherent p q i mine.0 other.0 session mine.1 mine.2.up session_is peer other.1 next.0 next.1 in
              let waits = waits_posted p q mine.0 item mine.1 mine.2.up peer left in
              let to_commit = next_there u turned.coherent p q i mine.0 other.0 session mine.1 mine.2.up session_is peer other.1 next.0 waits.0 in
              absurd (never_left q other.0 y (frame (message_of (party p) item)) other.1 other.2 to lit to_commit waits.1)
        ]

  pub quiet : (w v : World) → Coherent e w → Round (world_steps e) 0 w v → Quiet e v
  quiet w v coherent (u, t, k, j, turns, posts, delivers, sum) =
      let first : k ≡ 0 = omega (arith, sum) in
      let last : j ≡ 0 = omega (arith, sum) in
      let all = subst (λ (n : ℕ). InOrder (TurnsAt (world_steps e)) (length w.nodes) n w u) first turns in
      let end = subst (λ (n : ℕ). InOrder (DeliversAt (world_steps e)) (length w.nodes) n t v) last delivers in
      record { idle = idle w u t v coherent all posts end; arrived = arrived_all w u t v coherent all posts end }

-- a drain makes turns, posts and deliveries and nothing else
pub drains_by_turns : {F : Type 0} → DrainsByTurns F
drains_by_turns e w v = record { drained = drained_run e w v; stopped = λ o h. stopped_run e w v o h }
