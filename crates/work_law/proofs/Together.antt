-- What the nodes did together keeps a world coherent.
use Rattle.std.proofs.Common.{Bool, ◌≡◌, inl, inr, ⊎_elim, ℕ, zero, suc, ◌<◌, ◌≤◌, List, [], ◌∷◌, ◌++◌, Option, Some, None, true, map, length, option_and_then, slice_get, slice_set, refl, sym, ap, subst, ◌∙◌, arith, length-append}
use Rattle.std.specs.Option.{option_map_or}
use Rattle.std.specs.List.{AllByRecursion}
use Rattle.std.proofs.lemmas.List.{length-map}
use Rattle.net_base.specs.declared.names.Identity.{Identity}
use Rattle.net_base.specs.declared.names.Key.{Key}
use Rattle.net_base.specs.declared.causes.Event.{Event}
use Rattle.net_base.specs.declared.causes.Event.TheVariants as event
use Rattle.net_base.proofs.Lists.{get_below, get_beside, get_push, get_map, of_map, get_there, map_twice}
use Rattle.net_base.proofs.Options.{some_eq}
use Rattle.session_wire.specs.Sessions.{Session, Sent, session_of}
use Rattle.session_frames.specs.declared.sending.Outgoing.{Outgoing}
use Rattle.net_model.specs.Environment.{Environment, Meaning, environment}
use Rattle.net_model.specs.State.{NodeState, Record, apply_effect, fresh, replay}
use Rattle.net_model.specs.Runs.{IsMatched, IsMatchedFrom, item_for, item_from, sent_to}
use Rattle.node_tables.specs.Journals.{records_of, state_of}
use Rattle.node_core.specs.Seen.{NodeSeen}
use Rattle.wire_queue.specs.Wire.{Frame, IsIn}
use Rattle.wire_rows.specs.Exchanges.{SentTo}
use Rattle.work_law.specs.Works.{Grows, Log, Source, Works, NodeWorks, WorldWorks, WorksCoherently, Stays, fell}
use Rattle.network_core.specs.Worlds.{NodeWorld, World, MaySpell, NodeShows, Shows, Choice, states_of, came_at, WaitsAt, AreArrived, Agrees, Sound, Coherent}
use Rattle.network_core.proofs.AgreeingNets.{Wider, wider_all, wider_arrived}
use Rattle.network_core.proofs.Stands.{shows_same}
use Rattle.work_law.proofs.Trails
use Rattle.work_law.proofs.Histories

-- ---- lists

-- a list with what there is at each place
build : {X : Type 0} (n : ℕ) (P : ℕ → X → Type 0) → ((p : ℕ) → p < n → (x : X) × P p x) → (xs : List X) × (length xs ≡ n) × ((p : ℕ) (x : X) → slice_get xs p ≡ Some x → P p x)
build {X} zero P give = ([], refl, λ p x at. absurd (none p x at))
  where
    none : (p : ℕ) (x : X) → slice_get [] p ≡ Some x → ⊥
    none p x at = cc
build {X} (suc n) P give =
    let before = build n P (λ p below. give p (omega (arith, below))) in
    let this = give n (omega arith) in (
      before.0 ++ this.0 ∷ [],
      omega (arith, length-append before.0 (this.0 ∷ []), before.1),
      (λ p x at. ⊎_elim (λ old. before.2 p x old) (λ new. subst (λ (y : X). P p y) new.1 (subst (λ (q : ℕ). P q this.0) (sym before.1 ∙ new.0) this.1)) (get_push before.0 this.0 p x at)),
    )

same_lists : {X : Type 0} (xs ys : List X) → length xs ≡ length ys → ((i : ℕ) (x : X) → slice_get xs i ≡ Some x → slice_get ys i ≡ Some x) → xs ≡ ys
same_lists [] [] len same = refl
same_lists [] (y ∷ ys) len same = absurd (omega (arith, len))
same_lists (x ∷ xs) [] len same = absurd (omega (arith, len))
same_lists (x ∷ xs) (y ∷ ys) len same = let first : y ≡ x = some_eq (same 0 x refl) in ap (λ (z : _). z ∷ xs) (sym first) ∙ ap (λ (l : List _). y ∷ l) (same_lists xs ys (omega (arith, len)) (λ i. same (suc i)))

get_less : {X : Type 0} (xs : List X) (i : ℕ) (x : X) → slice_get xs i ≡ Some x → i < length xs
get_less [] i x at = absurd (no i at)
  where
    no : (i : ℕ) → slice_get [] i ≡ Some x → ⊥
    no i at = cc
get_less (y ∷ xs) zero x at = omega arith
get_less (y ∷ xs) (suc i) x at = omega (arith, get_less xs i x at)

all_of_in : (P : Frame → Type 0) (xs : List Frame) → ((x : Frame) → IsIn x xs → P x) → AllByRecursion P xs
all_of_in P [] h = tt
all_of_in P (x ∷ xs) h = (h x (inl refl), all_of_in P xs (λ y there. h y (inr there)))

in_of_all : (P : Frame → Type 0) (xs : List Frame) (x : Frame) → AllByRecursion P xs → IsIn x xs → P x
in_of_all P [] x all there = absurd there
in_of_all P (y ∷ xs) x all (inl same) = subst P (sym same) all.0
in_of_all P (y ∷ xs) x all (inr there) = in_of_all P xs x all.1 there

-- ---- networks place by place

module _ {F : Type 0} (a b : List (NodeState F)) (q : ℕ) (same : slice_get a q ≡ slice_get b q) where
  item_by_place : (me n : ℕ) (key : Key) → item_from a me q key n ≡ item_from b me q key n
  unfolding item_from
  item_by_place me n key = ap (λ (o : Option (NodeState F)). option_and_then (λ s. sent_to me n (session_of key s.sessions)) o) same

  came_by_place : (key : Key) → came_at a q key ≡ came_at b q key
  came_by_place key = ap (λ (o : Option (NodeState F)). option_map_or (λ (s : Session). length s.came) (option_and_then (λ (s : NodeState F). session_of key s.sessions) o) 0) same

-- what a place that isn't there has
no_item : {F : Type 0} (a : List (NodeState F)) (q me n : ℕ) (key : Key) (item : Sent) → slice_get a q ≡ None → item_from a me q key n ≡ Some item → ⊥
unfolding item_from
no_item a q me n key item none h = let no : None ≡ Some item = rw none at h in cc

pub no_came : {F : Type 0} (a : List (NodeState F)) (q : ℕ) (key : Key) → slice_get a q ≡ None → came_at a q key ≡ 0
no_came a q key none = rw none refl

pub by_option : {X : Type 0} (P : Type 0) (o : Option X) → (o ≡ None → P) → ((x : X) → o ≡ Some x → P) → P
by_option P None n s = n refl
by_option P (Some x) n s = s x refl

-- an accepted item stays its sender's
module _ {F : Type 0} (old new : List (NodeState F)) (wider : Wider old new) where
  item_wider : (p : ℕ) (s : NodeState F) (ev : Event) (item : Sent) → item_for old p s ev ≡ Some item → item_for new p s ev ≡ Some item
  item_wider p s (event.Answer key) item h = wider.items key.initiator.0 p 0 key item h
  item_wider p s (event.Arrive key direction number) item h = by (session_of key s.sessions) h
    where
      by : (o : Option Session) → option_and_then (λ (session : Session). item_from old p session.peer.0 key number) o ≡ Some item → option_and_then (λ (session : Session). item_from new p session.peer.0 key number) o ≡ Some item
      by None k = k
      by (Some session) k = wider.items session.peer.0 p number key item k
  item_wider p s (event.Start flow class args) item h = h
  item_wider p s (event.Move flow) item h = h
  item_wider p s (event.Lapse flow) item h = h

  matched_wider : (p : ℕ) (s : NodeState F) (rs : List (Record F)) → IsMatchedFrom old p s rs → IsMatchedFrom new p s rs
  matched_wider p s [] h = tt
  matched_wider p s (r ∷ rs) h =
      (λ a. let i = h.0 a in record { item = i.item; is_sent = item_wider p s r.cause.event i.item i.is_sent; is_body = i.is_body; in_turn = i.in_turn }, matched_wider p (apply_effect s r.cause r.effect) rs h.1)

sent_told : {F : Type 0} (e : Environment F) (r now : ℕ) (s : NodeState F) (net : List (NodeState F)) (sent : List Outgoing) (q : ℕ) (x : Frame) → slice_get net r ≡ Some s → AllByRecursion (Trails.Told e r now s) sent → SentTo q x sent → WaitsAt net q x
sent_told e r now s net [] q x is told to = absurd to
sent_told e r now s net (o ∷ os) q x is told (inl this) = subst (WaitsAt net q) this.1 (subst (λ (j : ℕ). WaitsAt net j o.bytes) this.0 (told.0 net is))
sent_told e r now s net (o ∷ os) q x is told (inr there) = sent_told e r now s net os q x is told.1 there

-- what a node shows doesn't tell which frames wait there
shows_waiting : {F : Type 0} (e : Environment F) (p : ℕ) (n : NodeSeen) (x : NodeWorld) (frames : List Frame) → NodeShows e p n x → NodeShows e p n (record x { waiting = frames })
shows_waiting e p n x frames shows = record {
  identity_is = shows.identity_is;
  tells = shows.tells;
  images = shows.images;
  kept = shows.kept;
  journal = shows_same n.journal n.journal x (record x { waiting = frames }) shows.journal refl refl refl refl;
  counts = shows.counts;
  calm_is = shows.calm_is;
  file_is = shows.file_is;
  acked_is = shows.acked_is;
  opens = shows.opens;
}

-- ---- all nodes

module _ {F : Type 0} (m : Meaning F) (id : Identity) (now commits : ℕ) (came nodes : List NodeSeen) (waited waiting : List (List Frame)) (w : World)
    (shows : Shows (environment m id) (record { nodes = came; waiting = waited; now = now }) w) (coherent : Coherent (environment m id) w) (works : Works m now came waited nodes waiting commits) where
  abbrev e : Environment F
  e = environment m id

  -- what stands at a place
  record Placed (p : ℕ) (z : NodeWorld) : Type 0 where
    n : NodeSeen
    log : Log
    x : NodeWorld
    y : NodeWorld
    frames : List Frame
    n_at : slice_get nodes p ≡ Some n
    log_at : slice_get works.logs p ≡ Some log
    x_at : slice_get w.nodes p ≡ Some x
    frames_at : slice_get waiting p ≡ Some frames
    shown : NodeShows e p n y
    trail : Trails.Trail e p now x y log.took log.sent log.count
    is : z ≡ record y { waiting = frames }

  count_w : length w.nodes ≡ length nodes
  count_w = shows.count ∙ sym works.count

  count_waiting : length waiting ≡ length nodes
  count_waiting =
      let a = ap (λ (l : List (List Frame)). length l) shows.waiting in
      let b = length-map w.nodes (λ (x : NodeWorld). x.waiting) in
      omega (arith, works.lists, a, b, count_w)

  sound_at : (p : ℕ) (x : NodeWorld) → slice_get w.nodes p ≡ Some x → (l : List (List ℕ)) → MaySpell x l → Sound e p now l
  sound_at p x at l may = subst (λ (t : ℕ). Sound e p t l) shows.clock ((coherent.each p x at).every l may)

  place : (p : ℕ) → p < length nodes → (z : NodeWorld) × Placed p z
  place p below =
      let n = get_below nodes p below in
      let log = get_beside nodes works.logs p n.0 (sym works.logged) n.1 in
      let x = get_beside nodes w.nodes p n.0 (sym count_w) n.1 in
      let frames = get_beside nodes waiting p n.0 (sym count_waiting) n.1 in
      let did = works.each p n.0 log.0 n.1 log.1 in
      let shown = shows.each p did.0 x.0 did.1 x.1 in
      let end = Histories.trail_of m id p now x.0 did.0 shown (sound_at p x.0 x.1) (coherent.each p x.0 x.1).one (coherent.numbers p x.0 x.1) did.2 in (
        record end.0 { waiting = frames.0 },
        record { n = n.0; log = log.0; x = x.0; y = end.0; frames = frames.0; n_at = n.1; log_at = log.1; x_at = x.1; frames_at = frames.1; shown = end.1; trail = end.2; is = refl },
      )

  abbrev built : (zs : List NodeWorld) × (length zs ≡ length nodes) × ((p : ℕ) (z : NodeWorld) → slice_get zs p ≡ Some z → Placed p z)
  built = build (length nodes) Placed place

  abbrev v : World
  v = record { nodes = built.0; now = now }

  shows_v : Shows e (record { nodes = nodes; waiting = waiting; now = now }) v
  shows_v = record {
    count = built.1;
    each = λ p k z at be.
        let placed = built.2 p z be in
        let same : k ≡ placed.n = some_eq (sym at ∙ placed.n_at) in
        subst (λ (q : NodeSeen). NodeShows e p q z) (sym same) (subst (λ (q : NodeWorld). NodeShows e p placed.n q) (sym placed.is) (shows_waiting e p placed.n placed.y placed.frames placed.shown));
    waiting = same_lists (map (λ (x : NodeWorld). x.waiting) built.0) waiting (length-map built.0 (λ (x : NodeWorld). x.waiting) ∙ built.1 ∙ sym count_waiting) (λ i frames at.
        let found = of_map (λ (x : NodeWorld). x.waiting) built.0 i frames at in
        let placed = built.2 i found.0 found.1 in
        let same : placed.frames ≡ frames = sym (ap (λ (x : NodeWorld). x.waiting) placed.is) ∙ found.2 in
        placed.frames_at ∙ ap Some same);
    clock = refl;
  }

  spells : (p : ℕ) (z : NodeWorld) (placed : Placed p z) (l : List (List ℕ)) → MaySpell z l → MaySpell placed.y l
  spells p z placed l may = subst (λ (q : NodeWorld). MaySpell q l) placed.is may

  -- what stays, whatever waits at the node then
  stays_waiting : (x y : NodeWorld) (frames : List Frame) → Stays x y → Stays x (record y { waiting = frames })
  stays_waiting x y frames h = record {
    down = λ down. ap (λ (q : NodeWorld). record q { waiting = frames }) (h.down down);
    rose = h.rose;
    later = h.later;
    calm = h.calm;
    file = h.file;
    openable = h.openable;
  }

  node_works : (p : ℕ) (z : NodeWorld) (placed : Placed p z) → NodeWorks placed.log.count placed.x z
  node_works p z placed = record {
    lists = λ l may.
        let back = placed.trail.lists l (spells p z placed l may) in
        let up : placed.y.up ≡ z.up = sym (ap (λ (q : NodeWorld). q.up) placed.is) in
        (back.0, back.1, subst (λ (b : Bool). Grows placed.log.count (fell placed.x.up b) back.0 l) up back.2.grows);
    stays = subst (λ (q : NodeWorld). Stays placed.x q) (sym placed.is) (stays_waiting placed.x placed.y placed.frames placed.trail.stays);
  }

  world_works : WorldWorks commits w v
  world_works = record {
    now = sym shows.clock;
    nodes = built.1 ∙ sym count_w;
    counts = map (λ (log : Log). log.count) works.logs;
    counted = length-map works.logs (λ (log : Log). log.count) ∙ works.logged ∙ sym count_w;
    each = λ p n x z count there at.
        let placed = built.2 p z at in
        let same : placed.x ≡ x = some_eq (sym placed.x_at ∙ there) in
        let found = of_map (λ (log : Log). log.count) works.logs p n count in
        let log_is : placed.log ≡ found.0 = some_eq (sym placed.log_at ∙ found.1) in
        let n_is : placed.log.count ≡ n = ap (λ (log : Log). log.count) log_is ∙ found.2 in
        subst (λ (q : NodeWorld). NodeWorks n q z) same (subst (λ (j : ℕ). NodeWorks j placed.x z) n_is (node_works p z placed));
    sum = works.committed;
  }

  -- ---- one journal of each

  module _ (lists : List (List (List ℕ))) (choice : Choice v lists) where
    record Back (p : ℕ) (old : List (List ℕ)) : Type 0 where
      z : NodeWorld
      placed : Placed p z
      l : List (List ℕ)
      z_at : slice_get v.nodes p ≡ Some z
      l_at : slice_get lists p ≡ Some l
      may : MaySpell placed.x old
      grown : Trails.Grown e p now placed.log.took placed.log.count (fell placed.x.up placed.y.up) old l
      told : AllByRecursion (Trails.Told e p now (state_of e.frame_at l)) placed.log.sent

    back_at : (p : ℕ) → p < length nodes → (old : List (List ℕ)) × Back p old
    back_at p below =
        let z = get_below built.0 p (omega (arith, below, built.1)) in
        let l = get_beside built.0 lists p z.0 (sym choice.count) z.1 in
        let placed = built.2 p z.0 z.1 in
        let may = spells p z.0 placed l.0 (choice.each p z.0 l.0 z.1 l.1) in
        let back = placed.trail.lists l.0 may in
        (back.0, record { z = z.0; placed = placed; l = l.0; z_at = z.1; l_at = l.1; may = back.1; grown = back.2; told = placed.trail.told l.0 may })

    abbrev backs : (olds : List (List (List ℕ))) × (length olds ≡ length nodes) × ((p : ℕ) (old : List (List ℕ)) → slice_get olds p ≡ Some old → Back p old)
    backs = build (length nodes) Back back_at

    abbrev olds : List (List (List ℕ))
    olds = backs.0

    chosen : Choice w olds
    chosen = record {
      count = backs.1 ∙ sym count_w;
      each = λ p x old there at. let b = backs.2 p old at in subst (λ (q : NodeWorld). MaySpell q old) (some_eq (sym b.placed.x_at ∙ there)) b.may;
    }

    agreed : Agrees e w olds
    agreed = coherent.agrees olds chosen

    abbrev before : List (NodeState F)
    before = states_of e olds

    abbrev net : List (NodeState F)
    net = states_of e lists

    -- the states at a place, before and now
    state_before : (p : ℕ) (old : List (List ℕ)) → slice_get olds p ≡ Some old → slice_get before p ≡ Some (state_of e.frame_at old)
    state_before p old at = get_map (state_of e.frame_at) olds p old at

    state_now : (p : ℕ) (l : List (List ℕ)) → slice_get lists p ≡ Some l → slice_get net p ≡ Some (state_of e.frame_at l)
    state_now p l at = get_map (state_of e.frame_at) lists p l at

    -- what one node's change made wider
    at_place : (p : ℕ) (old : List (List ℕ)) (at : slice_get olds p ≡ Some old) → Wider before (slice_set before p (state_of e.frame_at (backs.2 p old at).l)) × (slice_get (slice_set before p (state_of e.frame_at (backs.2 p old at).l)) p ≡ slice_get net p)
    at_place p old at =
        let b = backs.2 p old at in
        (b.grown.later before (state_before p old at), get_there before p (state_of e.frame_at old) (state_of e.frame_at b.l) (state_before p old at) ∙ sym (state_now p b.l b.l_at))

    found_old : (p : ℕ) (s : NodeState F) → slice_get before p ≡ Some s → (old : List (List ℕ)) × (slice_get olds p ≡ Some old)
    found_old p s at = let found = of_map (state_of e.frame_at) olds p s at in (found.0, found.1)

    wider : Wider before net
    wider = record {
      items = λ q me n key item h. by_option (item_from net me q key n ≡ Some item) (slice_get before q)
          (λ none. absurd (no_item before q me n key item none h))
          (λ s is. let old = found_old q s is in let here = at_place q old.0 old.1 in sym (item_by_place (slice_set before q (state_of e.frame_at (backs.2 q old.0 old.1).l)) net q here.1 me n key) ∙ here.0.items q me n key item h);
      came = λ q key. by_option (came_at before q key ≤ came_at net q key) (slice_get before q)
          (λ none. omega (arith, no_came before q key none))
          (λ s is. let old = found_old q s is in let here = at_place q old.0 old.1 in omega (arith, here.0.came q key, came_by_place (slice_set before q (state_of e.frame_at (backs.2 q old.0 old.1).l)) net q here.1 key));
    }

    -- what waited, and what was sent, tells what is
    source_true : (q : ℕ) (x : Frame) → Source waited works.logs q x → WaitsAt net q x
    source_true q x (inl (frames, at, there)) =
        let found = of_map (λ (z : NodeWorld). z.waiting) w.nodes q frames (ap (λ (l : List (List Frame)). slice_get l q) shows.waiting ∙ at) in
        let known = wider_all before net wider q found.0.waiting (agreed.waits q found.0 found.1) in
        in_of_all (WaitsAt net q) frames x (subst (λ (l : List Frame). AllByRecursion (WaitsAt net q) l) found.2 known) there
    source_true q x (inr (r, log, at, to)) =
        let b = back_at r (omega (arith, get_less works.logs r log at, works.logged)) in
        let same : b.1.placed.log ≡ log = some_eq (sym b.1.placed.log_at ∙ at) in
        sent_told e r now (state_of e.frame_at b.1.l) net b.1.placed.log.sent q x (state_now r b.1.l b.1.l_at) b.1.told (subst (λ (g : Log). SentTo q x g.sent) (sym same) to)

    taken_true : (p : ℕ) (log : Log) → slice_get works.logs p ≡ Some log → Trails.TrueAt e p now net log.took
    taken_true p log at x there = source_true p x (works.took p log at x there)

    replayed : (ls : List (List (List ℕ))) → map replay (map (records_of e.frame_at) ls) ≡ states_of e ls
    unfolding state_of
    replayed ls = map_twice replay (records_of e.frame_at) (state_of e.frame_at) ls (λ l. refl)

    matched : IsMatched (map (records_of e.frame_at) lists)
    matched p records at =
        let found = of_map (records_of e.frame_at) lists p records at in
        let old = back_at p (omega (arith, get_less lists p found.0 found.1, choice.count, built.1)) in
        let b = old.1 in
        let same : b.l ≡ found.0 = some_eq (sym b.l_at ∙ found.1) in
        let old_there = get_beside lists olds p found.0 (choice.count ∙ built.1 ∙ sym backs.1) found.1 in
        let c = backs.2 p old_there.0 old_there.1 in
        let c_same : c.l ≡ found.0 = some_eq (sym c.l_at ∙ found.1) in
        let was : IsMatchedFrom (map replay (map (records_of e.frame_at) olds)) p fresh (records_of e.frame_at old_there.0) = agreed.matched p (records_of e.frame_at old_there.0) (get_map (records_of e.frame_at) olds p old_there.0 old_there.1) in
        let was_here : IsMatchedFrom before p fresh (records_of e.frame_at old_there.0) = subst (λ (g : List (NodeState F)). IsMatchedFrom g p fresh (records_of e.frame_at old_there.0)) (replayed olds) was in
        let now_old = matched_wider before net wider p fresh (records_of e.frame_at old_there.0) was_here in
        let all = c.grown.matched net (taken_true p c.placed.log c.placed.log_at) now_old in
        let here : IsMatchedFrom net p fresh records = subst (λ (rs : List (Record F)). IsMatchedFrom net p fresh rs) (ap (records_of e.frame_at) c_same ∙ found.2) all in
        subst (λ (g : List (NodeState F)). IsMatchedFrom g p fresh records) (sym (replayed lists)) here

    agrees : Agrees e v lists
    agrees = record {
      matched = matched;
      waits = λ q z at.
          let placed = built.2 q z at in
          let frames_are : placed.frames ≡ z.waiting = sym (ap (λ (y : NodeWorld). y.waiting) placed.is) in
          subst (λ (l : List Frame). AllByRecursion (WaitsAt net q) l) frames_are (all_of_in (WaitsAt net q) placed.frames (λ x there. source_true q x (works.left q placed.frames placed.frames_at x there)));
      arrived = λ p z at up.
          let placed = built.2 p z at in
          let up_y : placed.y.up ≡ true = sym (ap (λ (y : NodeWorld). y.up) placed.is) ∙ up in
          let all = placed.trail.acks up_y net (taken_true p placed.log placed.log_at) (λ was. wider_arrived before net wider (state_of e.frame_at placed.x.journal).sessions placed.x.acked (agreed.arrived p placed.x placed.x_at was)) in
          subst (λ (y : NodeWorld). AreArrived net (state_of e.frame_at y.journal).sessions y.acked) (sym placed.is) all;
    }

  coherent_v : Coherent e v
  coherent_v = record {
    count = built.1 ∙ sym count_w ∙ coherent.count;
    each = λ p z at.
        let placed = built.2 p z at in
        record {
          every = λ l may. let back = placed.trail.lists l (spells p z placed l may) in back.2.sound (sound_at p placed.x placed.x_at back.0 back.1);
          one = λ up. ap (λ (y : NodeWorld). y.other) placed.is ∙ placed.trail.one (sym (ap (λ (y : NodeWorld). y.up) placed.is) ∙ up);
        };
    numbers = λ p z at up.
        let placed = built.2 p z at in
        subst (λ (y : NodeWorld). length y.acked ≡ length (state_of e.frame_at y.journal).sessions) (sym placed.is) (placed.trail.numbers (sym (ap (λ (y : NodeWorld). y.up) placed.is) ∙ up));
    agrees = agrees;
  }

pub works_coherently : {F : Type 0} → WorksCoherently F
works_coherently m now commits came nodes waited waiting works id w shows coherent = (
  v m id now commits came nodes waited waiting w shows coherent works,
  shows_v m id now commits came nodes waited waiting w shows coherent works,
  coherent_v m id now commits came nodes waited waiting w shows coherent works,
  world_works m id now commits came nodes waited waiting w shows coherent works,
)
