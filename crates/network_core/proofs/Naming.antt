-- What the disks of a network are attached as, which no step changes.
use Rattle.std.proofs.Common.{◌≡◌, ◌⊎◌, inl, inr, ⊎_elim, ℕ, suc, ◌<◌, ◌≤◌, Bool, true, false, List, [], ◌∷◌, length, map, Option, Some, None, Result, Ok, Err, slice_set, refl, sym, ◌∙◌, ap, subst, arith}
use Rattle.std.specs.List.{slice_get}
use Rattle.std.proofs.lemmas.Bool.{cases_lt}
use Rattle.std.proofs.lemmas.Option.{same_Some, slice_get_within, MatchOption-at_none, MatchOption-at_some}
use Rattle.std.proofs.lemmas.List.{length-map}
use Rattle.outside.specs.Disk.{AttachedAs, DiskSeen}
use Rattle.net_base.specs.declared.names.Key.{Key}
use Rattle.net_base.specs.declared.values.Party.{Party}
use Rattle.net_base.specs.declared.causes.Event.{Event}
use Rattle.net_base.proofs.Lists.{get_map, of_map, map_set, set_own}
use Rattle.session_wire.specs.Sessions.{Sent}
use Rattle.session_frames.specs.declared.judged.Judged.{Judged}
use Rattle.session_frames.specs.declared.judged.Judged.TheVariants as judged
use Rattle.net_model.specs.Environment.{Environment, environment, Meaning}
use Rattle.node_core.specs.declared.faults.StartFault.{StartFault}
use Rattle.node_core.specs.declared.faults.StartFault.TheVariants as start_fault
use Rattle.node_core.specs.declared.faults.TurnFault.{TurnFault}
use Rattle.node_core.specs.declared.faults.TurnFault.TheVariants as turn_fault
use Rattle.node_core.specs.declared.faults.Turned.{Turned}
use Rattle.node_core.specs.declared.faults.Turned.TheVariants as turned
use Rattle.node_core.specs.declared.faults.CutFault.{CutFault}
use Rattle.node_core.specs.declared.faults.CutFault.TheVariants as cut_fault
use Rattle.node_core.specs.declared.faults.BootFault.{BootFault}
use Rattle.node_core.specs.declared.faults.BootFault.TheVariants as boot_fault
use Rattle.node_core.specs.declared.faults.Taken.{Taken}
use Rattle.node_core.specs.declared.faults.Taken.TheVariants as taken
use Rattle.node_core.specs.declared.faults.TakeFault.{TakeFault}
use Rattle.node_core.specs.declared.faults.TakeFault.TheVariants as take_fault
use Rattle.node_tables.specs.Journals.{Reads}
use Rattle.node_core.specs.Disks.{attached_as}
use Rattle.node_core.specs.Seen.{NodeSeen, Commits, Faults, StartsAs, StartAnswers, TurnsAs, TurnAnswers, CutsAs, CutAnswers, BootsAs}
use Rattle.node_core.specs.Takes.{AcceptsAs, Responds, TakesAs, TakeAnswers}
use Rattle.network_core.specs.declared.steps.Outcome.{Outcome}
use Rattle.network_core.specs.declared.steps.Step.{Step}
use Rattle.network_core.specs.declared.steps.Step.TheVariants as step
use Rattle.network_core.specs.Worlds.{NetSeen}
use Rattle.network_core.specs.Answers.{Restored, AtPlace, StartServes, TurnServes, CutServes, BootServes, ClockServes, LoseServes, PostServes, Handing, HandServes, NetEnds, Answered, answer_of, said, net_steps}
use Rattle.network_core.specs.Begins.{node_over, nodes_over, no_boot, came_up, BootsUpTo, IsRefused}
use Rattle.network_core.specs.Rounds.{DoesAt}
use Rattle.network_core.proofs.Beginning.{over_length, first_at}
use Rattle.network_core.proofs.Driving.{post_keeps}
use Rattle.network_core.proofs.Mapping.{drains_go}

-- what the disk of a node is attached as
abbrev pub name_of : NodeSeen → AttachedAs
name_of n = n.disk.attached

-- and those of all nodes
abbrev pub names_of : List NodeSeen → List AttachedAs
names_of ns = map name_of ns

-- ---- one node

module _ {F : Type 0} (m : Meaning F) (now : ℕ) (n k : NodeSeen) where
  abbrev Same : Type 0
  Same = name_of k ≡ name_of n

  same : k ≡ n → Same
  same is = ap name_of is

  abbrev w : Environment F
  w = environment m n.identity

  commits : (bodies : List (List ℕ)) (ev : Event) (item : Option Sent) → Commits w now bodies ev item n k → Same
  commits bodies ev item c = c.appended.moves.attached

  faults : (bodies : List (List ℕ)) (ev : Event) (item : Option Sent) → Faults w now bodies ev item n k → Same
  faults bodies ev item c = c.failing.moves.attached

  start_up : (class : ℕ) (args : List ℕ) (bodies : List (List ℕ)) (answer : Result ℕ StartFault) → StartsAs w now class args bodies n answer k → Same
  start_up class args bodies (Ok g) s = commits bodies _ None s.1
  start_up class args bodies (Err start_fault.NodeDown) s = absurd s
  start_up class args bodies (Err start_fault.UnknownClass) s = same s.1
  start_up class args bodies (Err start_fault.BadArgs) s = same s.1
  start_up class args bodies (Err start_fault.Full) s = same s.2
  start_up class args bodies (Err start_fault.Memory) s = same s
  start_up class args bodies (Err start_fault.Fault) s = faults bodies _ None s

  turn_up : (pick : Option ℕ) (bodies : List (List ℕ)) (answer : Result Turned TurnFault) → TurnsAs w now pick bodies n answer k → Same
  turn_up pick bodies (Ok turned.Idle) s = same s.1
  turn_up pick bodies (Ok (turned.Moved g)) s = commits bodies s.0 None s.3
  turn_up pick bodies (Err turn_fault.NodeDown) s = absurd s
  turn_up pick bodies (Err turn_fault.Full) s = same s.3
  turn_up pick bodies (Err turn_fault.Memory) s = same s.3
  turn_up pick bodies (Err turn_fault.Fault) s = faults bodies s.0 None s.2

  cut_up : {T : Type 0} (calls kind : ℕ) (bodies : List (List ℕ)) (answer : Result T CutFault) → CutsAs calls kind bodies n answer k → Same
  cut_up calls kind bodies (Ok u) s = s.3.moves.attached
  cut_up calls kind bodies (Err cut_fault.NodeDown) s = absurd s
  cut_up calls kind bodies (Err cut_fault.NoFuse) s = same s.1

  accepts_as : (bodies : List (List ℕ)) (from : Party) (key : Key) (direction number : ℕ) (item : Sent) (answer : Result Taken TakeFault) → AcceptsAs w now bodies from key direction number item n answer k → Same
  accepts_as bodies from key direction number item (Ok (taken.Took upto ack)) s = commits bodies _ (Some item) s.2
  accepts_as bodies from key direction number item (Ok taken.Acked) s = absurd s
  accepts_as bodies from key direction number item (Ok (taken.Again expected ack)) s = absurd s
  accepts_as bodies from key direction number item (Ok (taken.Early expected)) s = absurd s
  accepts_as bodies from key direction number item (Ok taken.NoSession) s = absurd s
  accepts_as bodies from key direction number item (Err take_fault.NodeDown) s = absurd s
  accepts_as bodies from key direction number item (Err take_fault.Garbled) s = absurd s
  accepts_as bodies from key direction number item (Err (take_fault.NotMine to)) s = absurd s
  accepts_as bodies from key direction number item (Err take_fault.Full) s = same s.1
  accepts_as bodies from key direction number item (Err take_fault.Memory) s = absurd s
  accepts_as bodies from key direction number item (Err take_fault.Fault) s = faults bodies _ (Some item) s

  responds : (bodies : List (List ℕ)) (told : Judged) (answer : Result Taken TakeFault) → Responds w now bodies told n answer k → Same
  responds bodies judged.Garbled answer s = same s.1
  responds bodies (judged.NotMine to) answer s = same s.1
  responds bodies judged.NoSession answer s = same s.1
  responds bodies (judged.Early expected) answer s = same s.1
  responds bodies (judged.Acked key direction upto) answer s = ap name_of s.1
  responds bodies (judged.Again from key direction expected) answer s = same s.1
  responds bodies (judged.Next from key direction number stamp body) answer s = accepts_as bodies from key direction number (record { body = body; stamp = stamp }) answer s

  takes_as : (bytes : List ℕ) (bodies : List (List ℕ)) (answer : Result Taken TakeFault) → TakesAs w now bytes bodies n answer k → Same
  takes_as bytes bodies answer (inl (is, unchanged)) = same unchanged
  takes_as bytes bodies answer (inr (told, judges, further, s)) = responds bodies told answer s

  -- ---- up or down

  start_same : (class : ℕ) (args : List ℕ) (journal : Option (List (List ℕ))) (answer : Result ℕ StartFault) → n.journal ≡ journal → StartAnswers w now class args n answer k → Same
  start_same class args None answer here s =
      let q : (answer ≡ Err start_fault.NodeDown) × (k ≡ n) = MatchOption-at_none _ _ here s in same q.1
  start_same class args (Some bodies) answer here s = start_up class args bodies answer (MatchOption-at_some _ _ bodies here s)

  turn_same : (pick : Option ℕ) (journal : Option (List (List ℕ))) (answer : Result Turned TurnFault) → n.journal ≡ journal → TurnAnswers w now pick n answer k → Same
  turn_same pick None answer here s =
      let q : (answer ≡ Err turn_fault.NodeDown) × (k ≡ n) = MatchOption-at_none _ _ here s in same q.1
  turn_same pick (Some bodies) answer here s = turn_up pick bodies answer (MatchOption-at_some _ _ bodies here s)

  cut_same : {T : Type 0} (calls kind : ℕ) (journal : Option (List (List ℕ))) (answer : Result T CutFault) → n.journal ≡ journal → CutAnswers calls kind n answer k → Same
  cut_same calls kind None answer here s =
      let q : (answer ≡ Err cut_fault.NodeDown) × (k ≡ n) = MatchOption-at_none _ _ here s in same q.1
  cut_same calls kind (Some bodies) answer here s = cut_up calls kind bodies answer (MatchOption-at_some _ _ bodies here s)

  take_same : (bytes : List ℕ) (journal : Option (List (List ℕ))) (answer : Result Taken TakeFault) → n.journal ≡ journal → TakeAnswers w now bytes n answer k → Same
  take_same bytes None answer here s =
      let q : (answer ≡ Err take_fault.NodeDown) × (k ≡ n) = MatchOption-at_none _ _ here s in same q.1
  take_same bytes (Some bodies) answer here s = takes_as bytes bodies answer (MatchOption-at_some _ _ bodies here s)

-- a boot, refused or not
boot_same : {F T : Type 0} (f : Reads F) (n k : NodeSeen) (answer : Result T BootFault) → BootsAs f n answer k → name_of k ≡ name_of n
boot_same f n k (Ok u) s = s.4.opens.moves.attached
boot_same f n k (Err why) s = s.3.moves.attached

restored_same : (n k : NodeSeen) → Restored n k → name_of k ≡ name_of n
restored_same n k r = ap (λ (v : DiskSeen). v.attached) r.disk

-- ---- a network

module _ {F : Type 0} (m : Meaning F) (old new : NetSeen) where
  abbrev Names : Type 0
  Names = names_of new.nodes ≡ names_of old.nodes

  same_nodes : new.nodes ≡ old.nodes → Names
  same_nodes is = ap names_of is

  same_net : new ≡ old → Names
  same_net is = ap (λ (z : NetSeen). names_of z.nodes) is

  -- one node was set
  set_names : (p : ℕ) (n k : NodeSeen) → slice_get old.nodes p ≡ Some n → new.nodes ≡ slice_set old.nodes p k → name_of k ≡ name_of n → Names
  set_names p n k at nodes is =
      ap names_of nodes ∙ map_set name_of old.nodes p k ∙ ap (λ (a : AttachedAs). slice_set (names_of old.nodes) p a) is ∙ set_own (names_of old.nodes) p (name_of n) (get_map name_of old.nodes p n at)

  place_names : {E : Type 0} (p : ℕ) (r : Result Outcome E) (serves : NodeSeen → Result Outcome E → NodeSeen → Type 0) → ((n k : NodeSeen) → serves n r k → name_of k ≡ name_of n) → AtPlace p old r new serves → Names
  place_names p r serves one (inl (past, is, unchanged)) = same_net unchanged
  place_names p r serves one (inr (n, k, at, nodes, waiting, served)) = set_names p n k at nodes (one n k served)

  boot_names : {E : Type 0} (p : ℕ) (r : Result Outcome E) → AtPlace p old r new (λ n r k. BootServes m.frame_at n r k) → Names
  boot_names p r at = place_names p r (λ n r k. BootServes m.frame_at n r k) (λ n k s. by n k s) at
    where
      by : (n k : NodeSeen) → BootServes m.frame_at n r k → name_of k ≡ name_of n
      by n k (inl (up, is, unchanged)) = ap name_of unchanged
      by n k (inr (down, (mid, answer, restored, boots, so))) = boot_same m.frame_at mid k answer boots ∙ restored_same n mid restored

  turn_names : {E : Type 0} (p : ℕ) (pick : Option ℕ) (r : Result Outcome E) → AtPlace p old r new (λ n r k. TurnServes m old.now pick n r k) → Names
  turn_names p pick r at = place_names p r (λ n r k. TurnServes m old.now pick n r k) (λ n k s. turn_same m old.now n k pick n.journal s.0 refl s.1) at

  handing_names : (repeated : Bool) (p i : ℕ) (n : NodeSeen) (frames : List (List ℕ)) (o : Option Outcome) → slice_get old.nodes p ≡ Some n → Handing m repeated p i n frames old o new → Names
  handing_names repeated p i n frames o at (inl (none, is, unchanged)) = same_net unchanged
  handing_names repeated p i n frames o at (inr (up, inl (none, is, unchanged))) = same_net unchanged
  handing_names repeated p i n frames o at (inr (up, inr h)) = set_names p n h.node at h.nodes (take_same m old.now n h.node h.bytes n.journal h.answer refl h.takes)

  hand_names : {E : Type 0} (repeated : Bool) (p i : ℕ) (r : Result Outcome E) → HandServes m repeated p i old r new → Names
  hand_names repeated p i r (inl (past, is, unchanged)) = same_net unchanged
  hand_names repeated p i r (inr (n, frames, at, waits, handing)) = handing_names repeated p i n frames (said r) at handing

  post_names : {E : Type 0} (p : ℕ) (r : Result Outcome E) → PostServes m.frame_at p old r new → Names
  post_names p r at = same_nodes (post_keeps m p old new r at).0

  clock_names : (to : ℕ) (o : Outcome) → ClockServes to old o new → Names
  clock_names to o (inl (past, is, unchanged)) = same_net unchanged
  clock_names to o (inr (later, is, moved)) = same_nodes (ap (λ (z : NetSeen). z.nodes) moved)

  lose_names : {E : Type 0} (p i : ℕ) (r : Result Outcome E) → LoseServes p i old r new → Names
  lose_names p i r (inl (past, is, unchanged)) = same_net unchanged
  lose_names p i r (inr (frames, at, inl (none, is, unchanged))) = same_net unchanged
  lose_names p i r (inr (frames, at, inr (bytes, there, is, lost))) = same_nodes (ap (λ (z : NetSeen). z.nodes) lost)

  does_names : (p : ℕ) (o : Option Outcome) → DoesAt (net_steps m) p old o new → Names
  does_names p o (inl turn) = turn_names p None (answer_of o) turn.0
  does_names p o (inr (inl post)) = post_names p (answer_of o) post
  does_names p o (inr (inr hand)) = hand_names false p 0 (answer_of o) hand

-- a drain's turns, posts and deliveries, and how the deliveries at a place end
module _ {F : Type 0} (m : Meaning F) where
  abbrev Keeps : NetSeen → NetSeen → Type 0
  Keeps a b = names_of b.nodes ≡ names_of a.nodes

  ends_names : (a old mid new : NetSeen) (p d : ℕ) → Keeps a mid → NetEnds m p d old mid new → Keeps a new
  ends_names a old mid new p d before (inl (o, hand, over)) = hand_names m mid new false p 0 (answer_of (Some o)) hand ∙ before
  ends_names a old mid new p d before (inr (waiting, is)) = same_net m mid new is ∙ before

  -- no step of a network changes what a disk is attached as
  pub step_names : {E : Type 0} (s : Step) (old new : NetSeen) (r : Result Outcome E) → Answered m s old r new → Keeps old new
  step_names (step.Clock to) old new r h = clock_names m old new to.0 h.0 h.2
  step_names (step.Start node class args) old new r h =
      place_names m old new node r (λ n r k. StartServes m old.now class args n r k) (λ n k s. start_same m old.now n k class args n.journal s.0 refl s.1) h.0
  step_names (step.Turn node pick) old new r h = turn_names m old new node pick r h.0
  step_names (step.Post node) old new r h = post_names m old new node r h
  step_names (step.Deliver node at) old new r h = hand_names m old new false node at r h
  step_names (step.Repeat node at) old new r h = hand_names m old new true node at r h
  step_names (step.Lose node at) old new r h = lose_names m old new node at r h
  step_names (step.Cut node calls kind) old new r (inl odd) = same_net m old new odd.2
  step_names (step.Cut node calls kind) old new r (inr known) =
      place_names m old new node r (λ n r k. CutServes calls kind n r k) (λ n k s. cut_same m old.now n k calls kind n.journal s.0 refl s.1) known.1
  step_names (step.Boot node) old new r h = boot_names m old new node r h.0
  step_names step.Drain old new r h =
      drains_go (net_steps m) Keeps (λ w v is. same_net m w v is) (λ w u v p o before does. does_names m u v p o does ∙ before) ends_names old (said r) new h.0

-- ---- the beginning of a network

-- lists with the same at each place
same_lists : {X : Type 0} (xs ys : List X) → length ys ≡ length xs → ((p : ℕ) (x y : X) → slice_get xs p ≡ Some x → slice_get ys p ≡ Some y → y ≡ x) → ys ≡ xs
same_lists [] [] count each = refl
same_lists [] (y ∷ ys) count each = absurd (omega (arith, count))
same_lists (x ∷ xs) [] count each = absurd (omega (arith, count))
same_lists (x ∷ xs) (y ∷ ys) count each = (λ i. each 0 x y refl refl i ∷ same_lists xs ys (omega (arith, count)) (λ p a b at there. each (suc p) a b at there) i)

module _ {F : Type 0} (f : Reads F) (nodes : ℕ) (notary : Party) (ds : List DiskSeen) where
  -- boots change none
  pub begun_names : (now : ℕ) (new : List NodeSeen) → length ds ≡ nodes → BootsUpTo f nodes now (nodes_over nodes notary 0 ds) new → names_of new ≡ attached_as ds
  begun_names now new count r =
      same_lists (attached_as ds) (names_of new) (length-map new name_of ∙ r.count ∙ over_length nodes notary 0 ds ∙ sym (length-map ds (λ (d : DiskSeen). d.attached)))
      (λ p x y at there.
      let d = of_map (λ (d : DiskSeen). d.attached) ds p x at in
      let k = of_map name_of new p y there in
      let within = slice_get_within ds p d.0 d.1 in
      let booted = r.done p (node_over nodes notary p d.0) k.0 (omega (arith, within, count)) (first_at nodes notary ds p d.0 d.1) k.1 in
      sym k.2 ∙ boot_same f (node_over nodes notary p d.0) k.0 came_up booted ∙ d.2)

module _ {F : Type 0} (m : Meaning F) (nodes : ℕ) (notary : Party) (ds : List DiskSeen) (node : ℕ) (why : BootFault) (bs : List DiskSeen) (r : IsRefused m nodes notary ds node why bs) where
  refused_name : (p : ℕ) (d b : DiskSeen) → slice_get ds p ≡ Some d → slice_get bs p ≡ Some b → b.attached ≡ d.attached
  refused_name p d b at there = ⊎_elim
      (λ (before : p < node).
      let up = r.earlier p d b before at there in
      ap (λ (v : DiskSeen). v.attached) up.2 ∙ boot_same m.frame_at (node_over nodes notary p d) up.0 came_up up.1)
      (λ (behind : node ≤ p).
      ⊎_elim (λ (above : node < p). ap (λ (v : DiskSeen). v.attached) (r.later p d b above at there))
      (λ (below : p ≤ node).
      let here : p ≡ node = omega (arith, behind, below) in
      own (subst (λ (q : ℕ). slice_get ds q ≡ Some d) here at) (subst (λ (q : ℕ). slice_get bs q ≡ Some b) here there) r.refused)
      (cases_lt node p))
      (cases_lt p node)
    where
      own : slice_get ds node ≡ Some d → slice_get bs node ≡ Some b
          → ((why ≡ boot_fault.Memory) × (node ≡ 0) × (bs ≡ ds)) ⊎ ((x : DiskSeen) × (y : DiskSeen) × (slice_get ds node ≡ Some x) × (slice_get bs node ≡ Some y) × BootsAs m.frame_at (node_over nodes notary node x) (no_boot why) (node_over nodes notary node y))
          → b.attached ≡ d.attached
      own old new (inl (short, first, same)) = ap (λ (v : DiskSeen). v.attached) (same_Some _ _ (sym new ∙ ap (λ (l : List DiskSeen). slice_get l node) same ∙ old))
      own old new (inr (x, y, was, is, boots)) =
          ap (λ (v : DiskSeen). v.attached) (same_Some _ _ (sym new ∙ is)) ∙ boot_same m.frame_at (node_over nodes notary node x) (node_over nodes notary node y) (no_boot why) boots ∙ ap (λ (v : DiskSeen). v.attached) (same_Some _ _ (sym was ∙ old))

  -- nor does a boot that is refused
  pub refused_names : attached_as bs ≡ attached_as ds
  refused_names =
      same_lists (attached_as ds) (attached_as bs) (length-map bs (λ (d : DiskSeen). d.attached) ∙ r.count ∙ sym (length-map ds (λ (d : DiskSeen). d.attached)))
      (λ p x y at there.
      let d = of_map (λ (d : DiskSeen). d.attached) ds p x at in
      let b = of_map (λ (d : DiskSeen). d.attached) bs p y there in
      sym b.2 ∙ refused_name p d.0 b.0 d.1 b.1 ∙ d.2)
