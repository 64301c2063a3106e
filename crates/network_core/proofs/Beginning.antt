-- From disks to a network.
use Rattle.std.proofs.Common.{◌≡◌, ◌⊎◌, inl, inr, ⊎_elim, ℕ, zero, suc, ◌+◌, ◌<◌, ◌≤◌, true, false, List, [], ◌∷◌, length, map, Option, Some, None, refl, sym, ◌∙◌, ap, subst, arith}
use Rattle.std.specs.List.{slice_get, AllByRecursion}
use Rattle.std.proofs.lemmas.Bool.{cases_lt, true≢false}
use Rattle.std.proofs.lemmas.Option.{same_Some, none-some, slice_get_within}
use Rattle.std.proofs.lemmas.List.{length-map}
use Rattle.outside.specs.Disk.{DiskSeen, IsImage}
use Rattle.net_base.specs.declared.names.Identity.{Identity}
use Rattle.net_base.specs.declared.values.Party.{Party}
use Rattle.net_base.proofs.Lists.{get_below, all_from_get, get_beside, get_map}
use Rattle.disk_journal.specs.Journal.{journal_of}
use Rattle.net_model.specs.Environment.{Environment, environment, Meaning}
use Rattle.node_core.specs.declared.faults.BootFault.{BootFault}
use Rattle.node_core.specs.declared.faults.BootFault.TheVariants as boot_fault
use Rattle.node_tables.specs.Journals.{Reads, state_of}
use Rattle.node_core.specs.Disks.{roomless}
use Rattle.node_core.specs.Seen.{NodeSeen, BootsAs, GaveUp, IsBy, acks_over}
use Rattle.network_core.proofs.Agreeing.{begun_coherent, stay_down_coherent}
use Rattle.network_core.proofs.Mailing.{waits_in}
use Rattle.network_core.specs.Worlds.{NodeWorld, World, NetSeen, MaySpell, ShowsJournal, NodeShows, Shows, AreOpenable, Coherent}
use Rattle.network_core.specs.Begins.{Begun, BeginsUp, LeavesDisk, member, came_up, no_boot, IsLast, BootsUpTo, BootStops, node_over, nodes_over, net_over, BeginsWorld, StayDown, IsRefused}
use Rattle.network_core.proofs.Booting.{down_world, same_kept, booted_world, gives_up, coherent_fits}
use Rattle.network_core.proofs.Stands.{AreYoung}

-- ---- lists

-- what belongs to each place of two lists, xs a list
pub record Chosen {A B C : Type 0} (Q : ℕ → A → B → C → Type 0) (xs : List A) (bs : List B) : Type 0 where
  pub cs : List C
  pub count : length cs ≡ length bs
  pub each : (p : ℕ) (a : A) (b : B) (c : C) → slice_get xs p ≡ Some a → slice_get bs p ≡ Some b → slice_get cs p ≡ Some c → Q p a b c

chosen_at : {A B C : Type 0} (Q : ℕ → A → B → C → Type 0) (a : A) (xs : List A) (b : B) (bs : List B) (c : C) (cs : List C) → Q zero a b c → ((p : ℕ) (x : A) (y : B) (z : C) → slice_get xs p ≡ Some x → slice_get bs p ≡ Some y → slice_get cs p ≡ Some z → Q (suc p) x y z)
    → (p : ℕ) (x : A) (y : B) (z : C) → slice_get (a ∷ xs) p ≡ Some x → slice_get (b ∷ bs) p ≡ Some y → slice_get (c ∷ cs) p ≡ Some z → Q p x y z
chosen_at Q a xs b bs c cs first rest zero x y z i j k =
    let one : x ≡ a = cc in
    let two : y ≡ b = cc in
    let three : z ≡ c = cc in
    rw (one, two, three) first
chosen_at Q a xs b bs c cs first rest (suc p) x y z i j k = rest p x y z i j k

choose : {A B C : Type 0} (Q : ℕ → A → B → C → Type 0) (xs : List A) (bs : List B) → length xs ≡ length bs → ((p : ℕ) (a : A) (b : B) → slice_get xs p ≡ Some a → slice_get bs p ≡ Some b → (c : C) × Q p a b c) → Chosen Q xs bs
choose Q [] [] same one = record { cs = []; count = refl; each = λ p a b c i j k. cc }
choose Q [] (b ∷ bs) same one = cc
choose Q (a ∷ xs) [] same one = cc
choose Q (a ∷ xs) (b ∷ bs) same one =
    let first = one zero a b refl refl in
    let rest = choose (λ p. Q (suc p)) xs bs (omega (arith, same)) (λ p x y i j. one (suc p) x y i j) in
    record { cs = first.0 ∷ rest.cs; count = ap suc rest.count; each = chosen_at Q a xs b bs first.0 rest.cs first.1 rest.each }

-- ---- nodes over disks

pub over_length : (nodes : ℕ) (notary : Party) (p : ℕ) (ds : List DiskSeen) → length (nodes_over nodes notary p ds) ≡ length ds
over_length nodes notary p [] = refl
over_length nodes notary p (d ∷ ds) = ap suc (over_length nodes notary (p + 1) ds)

-- the node at a place
over_get : (nodes : ℕ) (notary : Party) (from : ℕ) (ds : List DiskSeen) (p : ℕ) (n : NodeSeen) → slice_get (nodes_over nodes notary from ds) p ≡ Some n → (d : DiskSeen) × (slice_get ds p ≡ Some d) × (n ≡ node_over nodes notary (from + p) d)
over_get nodes notary from [] p n at = cc
over_get nodes notary from (d ∷ ds) zero n at = let same : n ≡ node_over nodes notary from d = cc in
    let place : from ≡ from + zero = omega arith in
    (d, refl, same ∙ ap (λ q. node_over nodes notary q d) place)
over_get nodes notary from (d ∷ ds) (suc p) n at =
    let found = over_get nodes notary (from + 1) ds p n at in
    let place : from + 1 + p ≡ from + suc p = omega arith in
    (found.0, found.1, found.2 ∙ ap (λ q. node_over nodes notary q found.0) place)

pub over_down : (nodes : ℕ) (notary : Party) (from : ℕ) (ds : List DiskSeen) (p : ℕ) (n : NodeSeen) → slice_get (nodes_over nodes notary from ds) p ≡ Some n → n.journal ≡ None
over_down nodes notary from ds p n at = ap (λ z. z.journal) (over_get nodes notary from ds p n at).2

pub over_at : (nodes : ℕ) (notary : Party) (from : ℕ) (ds : List DiskSeen) (p : ℕ) (d : DiskSeen) → slice_get ds p ≡ Some d → slice_get (nodes_over nodes notary from ds) p ≡ Some (node_over nodes notary (from + p) d)
over_at nodes notary from [] p d at = cc
over_at nodes notary from (x ∷ ds) zero d at = let same : x ≡ d = cc in
    let place : from ≡ from + zero = omega arith in
    ap (λ z. Some (node_over nodes notary from z)) same ∙ ap (λ q. Some (node_over nodes notary q d)) place
over_at nodes notary from (x ∷ ds) (suc p) d at =
    let place : from + 1 + p ≡ from + suc p = omega arith in
    over_at nodes notary (from + 1) ds p d at ∙ ap (λ q. Some (node_over nodes notary q d)) place

abbrev lain : Identity → DiskSeen → NodeSeen
lain i d = record { identity = i; disk = d; journal = None; acked = [] }

same_node : (i j : Identity) (d c : DiskSeen) → i ≡ j → d ≡ c → lain i d ≡ lain j c
same_node i j d c same disk = rw (same, disk) refl

closed : (k : NodeSeen) → k.journal ≡ None → k.acked ≡ [] → k ≡ lain k.identity k.disk
closed k none unsent = ap (λ j. record { identity = k.identity; disk = k.disk; journal = j; acked = k.acked }) none ∙ ap (λ (a : List ℕ). record { identity = k.identity; disk = k.disk; journal = None; acked = a }) unsent

-- from the first place on
pub first_get : (nodes : ℕ) (notary : Party) (ds : List DiskSeen) (p : ℕ) (n : NodeSeen) → slice_get (nodes_over nodes notary 0 ds) p ≡ Some n → (d : DiskSeen) × (slice_get ds p ≡ Some d) × (n ≡ node_over nodes notary p d)
first_get nodes notary ds p n at =
    let found = over_get nodes notary 0 ds p n at in
    let place : 0 + p ≡ p = omega arith in
    (found.0, found.1, found.2 ∙ ap (λ q. node_over nodes notary q found.0) place)

pub first_at : (nodes : ℕ) (notary : Party) (ds : List DiskSeen) (p : ℕ) (d : DiskSeen) → slice_get ds p ≡ Some d → slice_get (nodes_over nodes notary 0 ds) p ≡ Some (node_over nodes notary p d)
first_at nodes notary ds p d at =
    let place : 0 + p ≡ p = omega arith in
    over_at nodes notary 0 ds p d at ∙ ap (λ q. Some (node_over nodes notary q d)) place

-- ---- one node

module _ {F : Type 0} (e : Environment F) (p : ℕ) (n k : NodeSeen) (x : NodeWorld) (shows : NodeShows e p n x) (down : n.journal ≡ None) (empty : x.waiting ≡ []) where
  up_world : BootsAs e.frame_at n came_up k → (y : NodeWorld) × (NodeShows e p k y × BeginsUp e x y × (y.waiting ≡ []))
  up_world s =
      let up = booted_world e p n k x shows down s.0 s.1 s.2 s.3 s.4 in
      let y = up.0 in
      let after = up.3.0 ∙ ap (λ w. record { up = true; journal = x.journal; other = None; faults = y.faults; calm = y.calm; file = x.file; openable = true; acked = acks_over e [] x.journal; waiting = w }) empty in (
        y,
        (
          up.1,
          record { after = after; later = up.3.1; calm = λ calm. up.3.2 ∙ s.4.opens.calm (sym shows.calm_is ∙ calm) },
          up.2 ∙ empty,
        ),
      )

  abbrev Left : BootFault → Type 0
  Left why = (y : NodeWorld) × (NodeShows e p (lain k.identity k.disk) y × LeavesDisk why x y × (y.waiting ≡ []))

  -- the node was booted, and its disk is taken out again
  left_up : (why : BootFault) → BootsAs e.frame_at n came_up k → Left why
  left_up why s =
      let up = booted_world e p n k x shows down s.0 s.1 s.2 s.3 s.4 in
      let y = up.0 in
      let one : y.other ≡ None = ap (λ z. z.other) up.3.0 in
      let kept : y.journal ≡ x.journal = ap (λ z. z.journal) up.3.0 in
      let file : y.file ≡ x.file = ap (λ z. z.file) up.3.0 in (
        record y { up = false; openable = x.openable; acked = [] },
        (
          record { identity_is = up.1.identity_is; tells = up.1.tells; images = up.1.images; kept = up.1.kept; journal = refl; counts = up.1.counts; calm_is = up.1.calm_is; file_is = up.1.file_is; acked_is = refl; opens = λ on. up.1.opens (ap (λ z. z.openable) up.3.0) },
          record { down = refl; lists = λ l may. ⊎_elim (λ s. inl (s ∙ kept)) (λ s. absurd (none-some _ (sym one ∙ s))) may; kept = λ other. kept; later = up.3.1; file = file; openable = refl },
          up.2 ∙ empty,
        ),
      )

  -- the node's boot was refused
  left_down : (why : BootFault) → BootsAs e.frame_at n (no_boot why) k → Left why
  left_down why s =
      let to = down_world e p n k x shows down s.0 s.1 s.2 s.3.moves s.3.form in
      let y = to.0 in
      let u = to.3 in (
        y,
        (
          record { identity_is = to.1.identity_is; tells = to.1.tells; images = to.1.images; kept = to.1.kept; journal = u.down; counts = to.1.counts; calm_is = to.1.calm_is; file_is = to.1.file_is; acked_is = u.acked; opens = to.1.opens },
          record { down = u.down; lists = u.lists; kept = λ other. same_kept e p n k x shows down y u (s.3.same other shows.tells); later = u.later; file = u.file; openable = u.openable },
          to.2 ∙ empty,
        ),
      )

  -- the node was left
  left_same : (why : BootFault) → k ≡ n → Left why
  left_same why same =
      let was : x.up ≡ false = rw down at shows.journal in (
        record x { acked = [] },
        (
          record {
            identity_is = ap (λ z. z.identity) same ∙ shows.identity_is;
            tells = ap (λ z. z.disk.tells) same ∙ shows.tells;
            images = subst (λ (z : NodeSeen). (c : List ℕ) → IsImage z.disk.state.now c → MaySpell x (journal_of c)) (sym same) shows.images;
            kept = ap (λ z. journal_of z.disk.state.kept) same ∙ shows.kept;
            journal = was;
            counts = shows.counts ∙ sym (ap (λ z. z.disk.faults) same);
            calm_is = shows.calm_is ∙ sym (ap (λ z. z.disk.calm) same);
            file_is = shows.file_is ∙ sym (ap (λ z. z.disk.of_file) same);
            acked_is = refl;
            opens = subst (λ (z : NodeSeen). x.openable ≡ true → AreYoung z.identity z.disk) (sym same) shows.opens;
          },
          record { down = was; lists = λ l h. h; kept = λ other. refl; later = omega arith; file = refl; openable = refl },
          empty,
        ),
      )

-- what waits at a place of a world at none of whose places a frame waits
none_at : {C : Type 0} (ys : List NodeWorld) (cs : List C) (p : ℕ) (y : NodeWorld) → waits_in ys ≡ map (λ (c : C). []) cs → slice_get ys p ≡ Some y → y.waiting ≡ []
none_at [] cs p y is at = cc
none_at (z ∷ ys) [] p y is at = cc
none_at (z ∷ ys) (c ∷ cs) zero y is at = let same : z ≡ y = cc in ap (λ (a : NodeWorld). a.waiting) (sym same) ∙ cc
none_at {C} (z ∷ ys) (c ∷ cs) (suc p) y is at =
    let rest : waits_in ys ≡ map (λ (c : C). []) cs = cc in
    none_at ys cs p y rest at

-- ---- the network

module _ {F : Type 0} (m : Meaning F) (nodes : ℕ) (notary : Party) (disks : List DiskSeen) where
  abbrev e : Environment F
  e = environment m (member nodes notary 0)

  abbrev olds : List NodeSeen
  olds = nodes_over nodes notary 0 disks

  abbrev Ups : ℕ → NodeSeen → NodeWorld → NodeWorld → Type 0
  Ups p k x y = NodeShows e p k y × BeginsUp e x y × (y.waiting ≡ [])

  -- no frame waits at the nodes of a world over disks
  empty_at : (now : ℕ) (w : World) → Shows e (net_over nodes notary now disks) w → (p : ℕ) (x : NodeWorld) → slice_get w.nodes p ≡ Some x → x.waiting ≡ []
  empty_at now w shows p x at = none_at w.nodes disks p x shows.waiting at

  -- of a list of nodes at none of which a frame waits
  all_empty : {C : Type 0} (ys : List NodeWorld) (cs : List C) → length ys ≡ length cs → ((p : ℕ) (y : NodeWorld) → slice_get ys p ≡ Some y → y.waiting ≡ []) → waits_in ys ≡ map (λ (c : C). []) cs
  all_empty [] [] same each = refl
  all_empty [] (c ∷ cs) same each = cc
  all_empty (y ∷ ys) [] same each = cc
  all_empty (y ∷ ys) (c ∷ cs) same each = ap (λ a. a ∷ waits_in ys) (each zero y refl) ∙ ap (λ l. [] ∷ l) (all_empty ys cs (omega (arith, same)) (λ p z at. each (suc p) z at))

  latest_at : (journal : Option (List (List ℕ))) (y : NodeWorld) (to : ℕ) → ShowsJournal journal y → y.up ≡ true → IsBy m.frame_at journal to → (state_of m.frame_at y.journal).moment ≤ to
  latest_at None y to shown up by = absurd (true≢false (sym up ∙ shown))
  latest_at (Some b) y to shown up by = rw shown.1 by

  reached_by : (journal : Option (List (List ℕ))) (y : NodeWorld) (to : ℕ) → ShowsJournal journal y → IsLast m.frame_at journal to → (to ≡ 0) ⊎ (to ≡ (state_of m.frame_at y.journal).moment)
  reached_by None y to shown last = inl last
  reached_by (Some b) y to shown last = inr (last ∙ ap (λ l. (state_of m.frame_at l).moment) (sym shown.1))

  reached_at : (net : NetSeen) (v : World) → Shows e net v → (p : ℕ) (k : NodeSeen) → slice_get net.nodes p ≡ Some k → IsLast m.frame_at k.journal net.now → (net.now ≡ 0) ⊎ ((q : ℕ) × (y : NodeWorld) × (slice_get v.nodes q ≡ Some y) × (net.now ≡ (state_of m.frame_at y.journal).moment))
  reached_at net v shows p k i last =
      let there = get_beside net.nodes v.nodes p k (sym shows.count) i in
      ⊎_elim (λ none. inl none) (λ is. inr (p, there.0, there.1, is)) (reached_by k.journal there.0 net.now (shows.each p k there.0 i there.1).journal last)

  -- all nodes came up
  pub begins_world : (net : NetSeen) → BootsUpTo m.frame_at (length disks) net.now olds net.nodes → net.waiting ≡ map (λ (n : NodeSeen). []) net.nodes → BeginsWorld m nodes notary disks net
  begins_world net b silent now w shows coherent =
      let long : length olds ≡ length disks = over_length nodes notary 0 disks in
      let counts : length net.nodes ≡ length w.nodes = b.count ∙ sym shows.count in
      let one = λ (p : ℕ) (k : NodeSeen) (x : NodeWorld) (i : slice_get net.nodes p ≡ Some k) (j : slice_get w.nodes p ≡ Some x).
      let there = get_beside net.nodes olds p k b.count i in
      let n = there.0 in
      let below : p < length disks = omega (arith, slice_get_within olds p n there.1, long) in
      up_world e p n k x (shows.each p n x there.1 j) (over_down nodes notary 0 disks p n there.1) (empty_at now w shows p x j) (b.done p n k below there.1 i) in
      let all : Chosen Ups net.nodes w.nodes = choose Ups net.nodes w.nodes counts one in
      let v : World = record { nodes = all.cs; now = net.now } in
      let shows_now : Shows e net v = record {
        count = all.count ∙ sym counts;
        each = λ p n y i k. let x = get_beside net.nodes w.nodes p n counts i in (all.each p n x.0 y i x.1 k).0;
        waiting = all_empty all.cs net.nodes (all.count ∙ sym counts) (λ p y k.
            let x = get_beside all.cs w.nodes p y all.count k in
            let n = get_beside w.nodes net.nodes p x.0 (sym counts) x.1 in
            (all.each p n.0 x.0 y n.1 x.1 k).2) ∙ sym silent;
        clock = refl;
      } in
      let begun : Begun e w v = record {
        count = all.count;
        each = λ p x y j k. let n = get_beside w.nodes net.nodes p x (sym counts) j in (all.each p n.0 x y n.1 j k).1;
        latest = λ p y k.
            let x = get_beside all.cs w.nodes p y all.count k in
            let n = get_beside w.nodes net.nodes p x.0 (sym counts) x.1 in
            let shown = all.each p n.0 x.0 y n.1 x.1 k in
            latest_at n.0.journal y net.now shown.0.journal (ap (λ z. z.up) shown.1.after) (b.latest p (get_beside net.nodes olds p n.0 b.count n.1).0 n.0 (omega (arith, slice_get_within net.nodes p n.0 n.1, b.count, long)) (get_beside net.nodes olds p n.0 b.count n.1).1 n.1);
        reached = ⊎_elim (λ none. inl none) (λ (p, k, below, i, last). reached_at net v shows_now p k i last) b.reached;
      } in
      (v, shows_now, begun_coherent e w v coherent begun, begun)

  abbrev Lefts : BootFault → ℕ → NodeSeen → NodeWorld → NodeWorld → Type 0
  Lefts why p k x y = NodeShows e p (lain k.identity k.disk) y × LeavesDisk why x y × (y.waiting ≡ [])

  module _ (place : ℕ) (why : BootFault) (news : List NodeSeen) (stops : BootStops m.frame_at place why olds news) (back : List DiskSeen) (handed : map roomless back ≡ map (λ n. n.disk) news) where
    long : length back ≡ length news
    long = sym (length-map back roomless) ∙ ap length handed ∙ length-map news (λ (n : NodeSeen). n.disk)

    count : length back ≡ length disks
    count = long ∙ stops.count ∙ over_length nodes notary 0 disks

    -- the disk that comes back is that of the node
    disk_back : (p : ℕ) (b : DiskSeen) (k : NodeSeen) → slice_get back p ≡ Some b → slice_get news p ≡ Some k → roomless b ≡ k.disk
    disk_back p b k i j = same_Some _ _ (sym (get_map roomless back p b i) ∙ ap (λ l. slice_get l p) handed ∙ get_map (λ (n : NodeSeen). n.disk) news p k j)

    one_left : (now : ℕ) (w : World) → Shows e (net_over nodes notary now disks) w → (p : ℕ) (k : NodeSeen) (x : NodeWorld) → slice_get news p ≡ Some k → slice_get w.nodes p ≡ Some x → (y : NodeWorld) × Lefts why p k x y
    one_left now w shows p k x i j =
        let there = get_beside news olds p k stops.count i in
        let n = there.0 in
        let shown = shows.each p n x there.1 j in
        let empty = empty_at now w shows p x j in
        let none = over_down nodes notary 0 disks p n there.1 in
        ⊎_elim
        (λ below. left_up e p n k x shown none empty why (stops.done p n k below there.1 i))
        (λ above. ⊎_elim
        (λ past. left_same e p n k x shown none empty why (stops.rest p n k past there.1 i))
        (λ le. let here : p ≡ place = omega (arith, above, le) in
        left_down e p n k x shown none empty why (stops.refused n k (subst (λ (q : ℕ). slice_get olds q ≡ Some n) here there.1) (subst (λ (q : ℕ). slice_get news q ≡ Some k) here i)))
        (cases_lt place p))
        (cases_lt p place)

    stopped_so : (now : ℕ) (w : World) → Shows e (net_over nodes notary now disks) w → Coherent e w → AreOpenable w → GaveUp why
    stopped_so now w shows coherent on =
        let n = get_below olds place stops.within in
        let k = get_beside olds news place n.0 (sym stops.count) n.1 in
        let x = get_beside olds w.nodes place n.0 (sym shows.count) n.1 in
        let s = stops.refused n.0 k.0 n.1 k.1 in
        gives_up e place n.0 k.0 x.0 (shows.each place n.0 x.0 n.1 x.1) (over_down nodes notary 0 disks place n.0 n.1) (coherent_fits m (member nodes notary 0) place w.now x.0 (coherent.each place x.0 x.1)) why s.3 (on place x.0 x.1)

    left_world : (now : ℕ) (w : World) → Shows e (net_over nodes notary now disks) w → Coherent e w → (v : World) × Shows e (net_over nodes notary now back) v × Coherent e v × StayDown why w v
    left_world now w shows coherent =
        let counts : length news ≡ length w.nodes = stops.count ∙ sym shows.count in
        let all : Chosen (Lefts why) news w.nodes = choose (Lefts why) news w.nodes counts (one_left now w shows) in
        let v : World = record { nodes = all.cs; now = w.now } in
        let silent = λ (p : ℕ) (y : NodeWorld) (k : slice_get all.cs p ≡ Some y).
        let x = get_beside all.cs w.nodes p y all.count k in
        let n = get_beside w.nodes news p x.0 (sym counts) x.1 in
        (all.each p n.0 x.0 y n.1 x.1 k).2 in
        let down : StayDown why w v = record { count = all.count; each = λ p x y j k. let n = get_beside w.nodes news p x (sym counts) j in (all.each p n.0 x y n.1 j k).1; gave_up = stopped_so now w shows coherent } in (
          v,
          record {
            count = all.count ∙ sym counts ∙ sym long ∙ sym (over_length nodes notary 0 back);
            each = λ p n y i k.
                let found = first_get nodes notary back p n i in
                let node = get_beside back news p found.0 long found.1 in
                let x = get_beside news w.nodes p node.0 counts node.1 in
                let shown = (all.each p node.0 x.0 y node.1 x.1 k).0 in
                subst (λ (z : NodeSeen). NodeShows e p z y) (sym (found.2 ∙ same_node (member nodes notary p) node.0.identity (roomless found.0) node.0.disk (sym shown.identity_is) (disk_back p found.0 node.0 found.1 node.1))) shown;
            waiting = all_empty all.cs back (all.count ∙ sym counts ∙ sym long) silent;
            clock = shows.clock;
          },
          stay_down_coherent e why w v coherent down refl silent,
          down,
        )

    refused_boot : (d b : DiskSeen) → slice_get disks place ≡ Some d → slice_get back place ≡ Some b → BootsAs m.frame_at (node_over nodes notary place d) (no_boot why) (node_over nodes notary place b)
    refused_boot d b i j =
        let old = first_at nodes notary disks place d i in
        let node = get_beside back news place b long j in
        let k = node.0 in
        let s = stops.refused (node_over nodes notary place d) k old node.1 in
        let same : lain k.identity k.disk ≡ node_over nodes notary place b = sym (same_node (member nodes notary place) k.identity (roomless b) k.disk (sym s.2) (disk_back place b k j node.1)) in
        let whole : k ≡ lain k.identity k.disk = closed k s.0 s.1 in
        subst (λ (z : NodeSeen). BootsAs m.frame_at (node_over nodes notary place d) (no_boot why) z) (whole ∙ same) s

    up_there : (p : ℕ) (d b : DiskSeen) → p < place → slice_get disks p ≡ Some d → slice_get back p ≡ Some b → (k : NodeSeen) × BootsAs m.frame_at (node_over nodes notary p d) came_up k × (roomless b ≡ k.disk)
    up_there p d b before i j =
        let old = first_at nodes notary disks p d i in
        let node = get_beside back news p b long j in
        (node.0, stops.done p (node_over nodes notary p d) node.0 before old node.1, disk_back p b node.0 j node.1)

    left_there : (p : ℕ) (d b : DiskSeen) → place < p → slice_get disks p ≡ Some d → slice_get back p ≡ Some b → roomless b ≡ roomless d
    left_there p d b past i j =
        let old = first_at nodes notary disks p d i in
        let node = get_beside back news p b long j in
        let same = stops.rest p (node_over nodes notary p d) node.0 past old node.1 in
        disk_back p b node.0 j node.1 ∙ ap (λ z. z.disk) same

    pub refused_world : IsRefused m nodes notary disks place why back
    refused_world =
        let first = get_below disks place (omega (arith, stops.within, over_length nodes notary 0 disks)) in
        let last = get_below back place (omega (arith, stops.within, over_length nodes notary 0 disks, count)) in
        record {
          count = count;
          refused = inr (first.0, last.0, first.1, last.1, refused_boot first.0 last.0 first.1 last.1);
          earlier = up_there;
          later = left_there;
          world = left_world;
        }

  -- nothing was booted
  pub refused_early : IsRefused m nodes notary disks 0 boot_fault.Memory disks
  refused_early = record {
    count = refl;
    refused = inl (refl, refl, refl);
    earlier = λ p d b before i j. absurd (omega (arith, before));
    later = λ p d b past i j. ap roomless (same_Some _ _ (sym j ∙ i));
    world = λ now w shows coherent. (
      w,
      shows,
      coherent,
      record {
        count = refl;
        each = λ p x y j k.
            let n = get_beside w.nodes olds p x shows.count j in
            let none = over_down nodes notary 0 disks p n.0 n.1 in
            let shown = shows.each p n.0 x n.1 j in
            let was : x.up ≡ false = rw none at shown.journal in
            subst (λ (z : NodeWorld). LeavesDisk boot_fault.Memory x z) (same_Some _ _ (sym j ∙ k)) (record { down = was; lists = λ l h. h; kept = λ other. refl; later = omega arith; file = refl; openable = refl });
        gave_up = λ on. tt;
      },
    );
  }

-- no cause of the nodes that were booted is later than the moment
pub all_by_last : {F : Type 0} (f : Reads F) (olds news : List NodeSeen) (now : ℕ) → BootsUpTo f (length olds) now olds news → AllByRecursion (λ n. IsBy f n.journal now) news
all_by_last f olds news now b =
    all_from_get (λ n. IsBy f n.journal now) news (λ p k at.
    let there = get_beside news olds p k b.count at in
    b.latest p there.0 k (slice_get_within olds p there.0 there.1) there.1 at)
