-- How the disks of a network rest, and what a making ready changes of a world.
use Rattle.std.proofs.Common.{◌≡◌, ℕ, zero, suc, List, [], ◌∷◌, length, map, Some, true, false, refl, sym, ◌∙◌, ap, subst, arith}
use Rattle.std.specs.Prelude.{◌≤◌}
use Rattle.std.specs.List.{slice_get, AllByRecursion}
use Rattle.std.proofs.lemmas.List.{length-map}
use Rattle.outside.specs.Disk.{DiskSeen, IsImage}
use Rattle.net_base.specs.declared.names.Identity.{Identity}
use Rattle.net_base.specs.declared.values.Party.{Party}
use Rattle.net_base.proofs.Lists.{get_beside, map_twice, get_map, of_map}
use Rattle.disk_journal.specs.Journal.{IsYoung, journal_of}
use Rattle.net_model.specs.Environment.{Environment, environment, Meaning}
use Rattle.node_tables.specs.Journals.{state_of}
use Rattle.node_core.specs.Disks.{roomless}
use Rattle.node_core.specs.Seen.{NodeSeen}
use Rattle.node_core.specs.declared.faults.BootFault.{BootFault}
use Rattle.network_core.specs.Worlds.{World, NodeWorld, NetSeen, MaySpell, NodeShows, Shows, AreOpenable, Choice, states_of, WaitsAt, AreArrived, NodeCoherent, Coherent}
use Rattle.network_core.specs.Begins.{member, node_over, nodes_over, net_over, Begun, StayDown}
use Rattle.network_core.proofs.Beginning.{over_length, first_get, first_at}
use Rattle.network_core.proofs.Faithful.{coherent_is_faithful}
use Rattle.ledger_laws.proofs.Placed.{one_each_world}
use Rattle.node_shell.specs.Runs.{over, all_down, Rests, LeavesFewer, KeepsJournals, MadeReady, AllStay}

-- ---- mapped lists

-- the same for each item of two lists of one length
same_for_each : {X Y Z : Type 0} (z : Z) (xs : List X) (ys : List Y) → length xs ≡ length ys → map (λ (x : X). z) xs ≡ map (λ (y : Y). z) ys
same_for_each z [] [] n = refl
same_for_each z [] (y ∷ ys) n = absurd (omega (arith, n))
same_for_each z (x ∷ xs) [] n = absurd (omega (arith, n))
same_for_each z (x ∷ xs) (y ∷ ys) n = ap (λ l. z ∷ l) (same_for_each z xs ys (omega (arith, n)))

-- ---- nodes over disks

-- ---- down

abbrev pub down : NodeWorld → NodeWorld
down x = record x { up = false; acked = []; waiting = [] }

never_up : (xs : List NodeWorld) (p : ℕ) (x : NodeWorld) → slice_get (map down xs) p ≡ Some x → x.up ≡ true → ⊥
never_up xs p x at up = let o = of_map down xs p x at in let no : false ≡ true = ap (λ (y : NodeWorld). y.up) o.2 ∙ up in cc

-- a choice of the journals of nodes that were taken down is one of the nodes' before
down_choice : (w : World) (lists : List (List (List ℕ))) → Choice (all_down w) lists → Choice w lists
down_choice w lists choice = record { count = choice.count ∙ length-map w.nodes down; each = λ p x l at here. choice.each p (down x) l (get_map down w.nodes p x at) here }

abbrev pub faulty : ℕ → NodeWorld → NodeWorld
faulty n x = record x { faults = n }

-- ---- counts of faults

-- nodes with these disks' counts of faults
abbrev pub with_counts : List DiskSeen → List NodeWorld → List NodeWorld
with_counts [] xs = xs
with_counts (d ∷ ds) [] = []
with_counts (d ∷ ds) (x ∷ xs) = faulty d.faults x ∷ with_counts ds xs

-- a world with these disks' counts of faults
abbrev pub counted : List DiskSeen → World → World
counted ds w = record w { nodes = with_counts ds w.nodes }

counted_count : (ds : List DiskSeen) (xs : List NodeWorld) → length (with_counts ds xs) ≡ length xs
counted_count [] xs = refl
counted_count (d ∷ ds) [] = refl
counted_count (d ∷ ds) (x ∷ xs) = ap suc (counted_count ds xs)

counted_at : (ds : List DiskSeen) (xs : List NodeWorld) (p : ℕ) (d : DiskSeen) (y : NodeWorld) → slice_get ds p ≡ Some d → slice_get (with_counts ds xs) p ≡ Some y → (x : NodeWorld) × (slice_get xs p ≡ Some x) × (faulty d.faults x ≡ y)
counted_at [] xs p d y at there = cc
counted_at (c ∷ ds) [] p d y at there = cc
counted_at (c ∷ ds) (x ∷ xs) zero d y at there =
    let disk : d ≡ c = cc in
    let node : faulty c.faults x ≡ y = cc in
    (x, refl, ap (λ (z : DiskSeen). faulty z.faults x) disk ∙ node)
counted_at (c ∷ ds) (x ∷ xs) (suc p) d y at there = counted_at ds xs p d y at there

counted_waiting : (ds : List DiskSeen) (xs : List NodeWorld) → map (λ (x : NodeWorld). x.waiting) (with_counts ds xs) ≡ map (λ (x : NodeWorld). x.waiting) xs
counted_waiting [] xs = refl
counted_waiting (d ∷ ds) [] = refl
counted_waiting (d ∷ ds) (x ∷ xs) = ap (λ l. x.waiting ∷ l) (counted_waiting ds xs)

-- ---- worlds made ready

pub made_same : (w : World) → MadeReady w w
made_same w = record { count = refl; each = λ p x y at there. let same : x ≡ y = cc in subst (λ (z : NodeWorld). (z ≡ record x { faults = z.faults }) × (x.faults ≤ z.faults)) same (refl, omega arith); clock = refl }

pub made_then : (u v w : World) → MadeReady u v → MadeReady v w → MadeReady u w
made_then u v w one two = record {
  count = two.count ∙ one.count;
  each = λ p x z at there.
      let mid = get_beside u.nodes v.nodes p x (sym one.count) at in
      let a = one.each p x mid.0 at mid.1 in
      let b = two.each p mid.0 z mid.1 there in
      (b.0 ∙ ap (λ (k : NodeWorld). record k { faults = z.faults }) a.0, omega (arith, a.1, b.1));
  clock = two.clock ∙ one.clock;
}

pub made_fewer : (w v u : World) → MadeReady w v → LeavesFewer v u → LeavesFewer w u
made_fewer w v u made fewer p x y l at there may =
    let mid = get_beside w.nodes v.nodes p x (sym made.count) at in
    subst (λ (k : NodeWorld). MaySpell k l) (made.each p x mid.0 at mid.1).0 (fewer p mid.0 y l mid.1 there may)

-- a choice of the journals of a world that was made ready is one of the world's before
made_choice : (w v : World) (lists : List (List (List ℕ))) → MadeReady w v → Choice v lists → Choice w lists
made_choice w v lists made choice = record {
  count = choice.count ∙ made.count;
  each = λ p x l at here.
      let y = get_beside w.nodes v.nodes p x (sym made.count) at in
      subst (λ (k : NodeWorld). MaySpell k l) (made.each p x y.0 at y.1).0 (choice.each p y.0 l y.1 here);
}

pub same_fewer : (w : World) → LeavesFewer w w
same_fewer w p x y l at there may = let same : y ≡ x = cc in subst (λ (k : NodeWorld). MaySpell k l) same may

pub made_journals : (w v u : World) → MadeReady w v → KeepsJournals v u → KeepsJournals w u
made_journals w v u made kept p x y at there =
    let mid = get_beside w.nodes v.nodes p x (sym made.count) at in
    kept p mid.0 y mid.1 there ∙ ap (λ (k : NodeWorld). k.journal) (made.each p x mid.0 at mid.1).0

-- no count of faults tells whether an image can be opened
pub made_openable : (w v : World) → MadeReady w v → AreOpenable w → AreOpenable v
made_openable w v made on p y at =
    let x = get_beside v.nodes w.nodes p y made.count at in
    ap (λ (k : NodeWorld). k.openable) (made.each p x.0 y x.1 at).0 ∙ on p x.0 x.1

-- nor whether the nodes are up
pub down_openable : (w : World) → AreOpenable w → AreOpenable (all_down w)
down_openable w on p y at = let x = of_map down w.nodes p y at in ap (λ (k : NodeWorld). k.openable) (sym x.2) ∙ on p x.0 x.1

-- in a world that a network began in every node can be opened
pub begun_openable : {F : Type 0} (e : Environment F) (w v : World) → Begun e w v → AreOpenable v
begun_openable e w v begun p y at =
    let x = get_beside v.nodes w.nodes p y begun.count at in
    ap (λ (k : NodeWorld). k.openable) (begun.each p x.0 y x.1 at).after

-- a boot that was refused leaves the disks no image that it refuses where there was none
pub stay_openable : (why : BootFault) (w v : World) → StayDown why w v → AreOpenable w → AreOpenable v
stay_openable why w v stay on p y at =
    let x = get_beside v.nodes w.nodes p y stay.count at in
    (stay.each p x.0 y x.1 at).openable ∙ on p x.0 x.1

pub same_journals : (w : World) → KeepsJournals w w
same_journals w p x y at there = let same : y ≡ x = cc in ap (λ (k : NodeWorld). k.journal) same

module _ {F : Type 0} (m : Meaning F) (nodes : ℕ) (notary : Party) where
  abbrev e : Environment F
  e = environment m (member nodes notary 0)

  node_rests : (p : ℕ) (n : NodeSeen) (x : NodeWorld) (d : DiskSeen) → n.disk ≡ roomless d → NodeShows e p n x → NodeShows e p (node_over nodes notary p d) (down x)
  node_rests p n x d same s = record {
    identity_is = refl;
    tells = ap (λ (v : DiskSeen). v.tells) (sym same) ∙ s.tells;
    images = λ c i. s.images c (subst (λ (v : DiskSeen). IsImage v.state.now c) (sym same) i);
    kept = ap (λ (v : DiskSeen). journal_of v.state.kept) (sym same) ∙ s.kept;
    journal = refl;
    counts = s.counts ∙ ap (λ (v : DiskSeen). v.faults) same;
    calm_is = s.calm_is ∙ ap (λ (v : DiskSeen). v.calm) same;
    file_is = s.file_is ∙ ap (λ (v : DiskSeen). v.of_file) same;
    acked_is = refl;
    opens = λ on c i. subst (λ (j : Identity). IsYoung j c) s.identity_is (s.opens on c (subst (λ (v : DiskSeen). IsImage v.state.now c) (sym same) i));
  }

  each_rests : (ns : List NodeSeen) (xs : List NodeWorld) (ds : List DiskSeen) → map (λ (n : NodeSeen). n.disk) ns ≡ map roomless ds
      → ((p : ℕ) (n : NodeSeen) (x : NodeWorld) → slice_get ns p ≡ Some n → slice_get xs p ≡ Some x → NodeShows e p n x)
      → (p : ℕ) (n : NodeSeen) (x : NodeWorld) → slice_get (nodes_over nodes notary 0 ds) p ≡ Some n → slice_get (map down xs) p ≡ Some x → NodeShows e p n x
  each_rests ns xs ds same each p n x at there =
      let under = first_get nodes notary ds p n at in
      let world = of_map down xs p x there in
      let node = of_map (λ (k : NodeSeen). k.disk) ns p (roomless under.0) (ap (λ (l : List DiskSeen). slice_get l p) same ∙ get_map roomless ds p under.0 under.1) in
      subst (NodeShows e p n) world.2 (subst (λ (z : NodeSeen). NodeShows e p z (down world.0)) (sym under.2) (node_rests p node.0 world.0 under.0 node.2 (each p node.0 world.0 node.1 world.1)))

  down_coherent : (w : World) → Coherent e w → Coherent e (all_down w)
  down_coherent w c = record {
    count = length-map w.nodes down ∙ c.count;
    each = λ p x at.
        let o = of_map down w.nodes p x at in
        let before = c.each p o.0 o.1 in
        subst (NodeCoherent e p w.now) o.2 (record { every = before.every; one = λ (up : false ≡ true). absurd cc });
    numbers = λ p x at up. absurd (never_up w.nodes p x at up);
    agrees = λ lists choice. record {
      matched = (c.agrees lists (down_choice w lists choice)).matched;
      waits = λ p x at. let o = of_map down w.nodes p x at in subst (λ (y : NodeWorld). AllByRecursion (WaitsAt (states_of e lists) p) y.waiting) o.2 tt;
      arrived = λ p x at up. absurd (never_up w.nodes p x at up);
    };
  }

  -- disks that show a coherent world rest in it
  pub stands : (w : World) (ds : List DiskSeen) → Shows e (over e w.now ds) w → Coherent e w → Rests e ds w
  stands w ds shows coherent = record {
    shows = shows;
    coherent = coherent;
    faithful = λ lists choice. coherent_is_faithful e w lists coherent choice;
    consumers = λ lists choice. one_each_world e w lists coherent choice;
  }

  -- the disks that come out of a network rest in the world that the network showed
  pub rests : (net : NetSeen) (w : World) (ds : List DiskSeen) → Shows e net w → Coherent e w → map (λ (n : NodeSeen). n.disk) net.nodes ≡ map roomless ds → Rests e ds (all_down w)
  rests net w ds shows coherent disks =
      let count : length w.nodes ≡ length ds = shows.count ∙ sym (length-map net.nodes (λ (n : NodeSeen). n.disk)) ∙ ap length disks ∙ length-map ds roomless in
      stands (all_down w) ds
      (record {
        count = length-map w.nodes down ∙ count ∙ sym (over_length nodes notary 0 ds);
        each = each_rests net.nodes w.nodes ds disks shows.each;
        waiting = map_twice (λ (x : NodeWorld). x.waiting) down (λ (x : NodeWorld). []) w.nodes (λ x. refl) ∙ same_for_each [] w.nodes ds count;
        clock = refl;
      })
      (down_coherent w coherent)

  -- the node at a place before the making ready, and that one which is up then was up
  made_from : (w v : World) → MadeReady w v → (p : ℕ) (y : NodeWorld) → slice_get v.nodes p ≡ Some y → (x : NodeWorld) × (slice_get w.nodes p ≡ Some x) × (y ≡ record x { faults = y.faults }) × (y.up ≡ true → x.up ≡ true)
  made_from w v made p y at =
      let x = get_beside v.nodes w.nodes p y made.count at in
      let same = (made.each p x.0 y x.1 at).0 in
      (x.0, x.1, same, λ up. sym (ap (λ (k : NodeWorld). k.up) same) ∙ up)

  pub made_coherent : (w v : World) → MadeReady w v → Coherent e w → Coherent e v
  made_coherent w v made c = record {
    count = made.count ∙ c.count;
    each = λ p y at.
        let o = made_from w v made p y at in
        let before = c.each p o.0 o.1 in
        subst (λ (t : ℕ). NodeCoherent e p t y) (sym made.clock) (subst (NodeCoherent e p w.now) (sym o.2) (record { every = before.every; one = before.one }));
    numbers = λ p y at up.
        let o = made_from w v made p y at in
        subst (λ (k : NodeWorld). length k.acked ≡ length (state_of e.frame_at k.journal).sessions) (sym o.2) (c.numbers p o.0 o.1 (o.3 up));
    agrees = λ lists choice.
        let before = c.agrees lists (made_choice w v lists made choice) in
        record {
          matched = before.matched;
          waits = λ p y at.
              let o = made_from w v made p y at in
              subst (λ (k : NodeWorld). AllByRecursion (WaitsAt (states_of e lists) p) k.waiting) (sym o.2) (before.waits p o.0 o.1);
          arrived = λ p y at up.
              let o = made_from w v made p y at in
              subst (λ (k : NodeWorld). AreArrived (states_of e lists) (state_of e.frame_at k.journal).sessions k.acked) (sym o.2) (before.arrived p o.0 o.1 (o.3 up));
        };
  }

  module _ (w : World) (ds es : List DiskSeen) (stay : AllStay ds es) (shows : Shows e (over e w.now ds) w) where
    -- a making ready gives the world the counts of faults of the disks as they are then
    pub made_counted : MadeReady w (counted es w)
    made_counted = record {
      count = counted_count es w.nodes;
      each = λ p x y at there.
          let short : length w.nodes ≡ length ds = shows.count ∙ over_length nodes notary 0 ds in
          let old = get_beside w.nodes ds p x short at in
          let new = get_beside w.nodes es p x (short ∙ sym stay.count) at in
          let found = counted_at es w.nodes p new.0 y new.1 there in
          let same : found.0 ≡ x = cc in
          let is : faulty new.0.faults x ≡ y = ap (faulty new.0.faults) (sym same) ∙ found.2 in
          let stays = stay.each p old.0 new.0 old.1 new.1 in
          let shown = shows.each p (node_over nodes notary p old.0) x (first_at nodes notary ds p old.0 old.1) at in
          subst (λ (z : NodeWorld). (z ≡ record x { faults = z.faults }) × (x.faults ≤ z.faults)) is (refl, omega (arith, shown.counts, stays.1));
      clock = refl;
    }

    each_counted : (p : ℕ) (k : NodeSeen) (x : NodeWorld) → slice_get (nodes_over nodes notary 0 es) p ≡ Some k → slice_get (with_counts es w.nodes) p ≡ Some x → NodeShows e p k x
    each_counted p k x at there =
        let under = first_get nodes notary es p k at in
        let found = counted_at es w.nodes p under.0 x under.1 there in
        let old = get_beside es ds p under.0 stay.count under.1 in
        let stays = stay.each p old.0 under.0 old.1 under.1 in
        let s = shows.each p (node_over nodes notary p old.0) found.0 (first_at nodes notary ds p old.0 old.1) found.1 in
        let t : NodeShows e p (node_over nodes notary p (record old.0 { faults = under.0.faults; attached = under.0.attached })) (faulty under.0.faults found.0) = record { identity_is = refl; tells = s.tells; images = s.images; kept = s.kept; journal = s.journal; counts = refl; calm_is = s.calm_is; file_is = s.file_is; acked_is = s.acked_is; opens = s.opens } in
        subst (NodeShows e p k) found.2
        (subst (λ (z : NodeSeen). NodeShows e p z (faulty under.0.faults found.0)) (sym under.2)
        (subst (λ (v : DiskSeen). NodeShows e p (node_over nodes notary p v) (faulty under.0.faults found.0)) (sym stays.0) t))

    -- the disks as they are then show that world
    pub counted_shows : Shows e (over e w.now es) (counted es w)
    counted_shows = record { count = counted_count es w.nodes ∙ shows.count ∙ over_length nodes notary 0 ds ∙ sym stay.count ∙ sym (over_length nodes notary 0 es); each = each_counted; waiting = counted_waiting es w.nodes ∙ shows.waiting ∙ same_for_each [] ds es (sym stay.count); clock = refl }

  -- a refused opening leaves disks that rest on journals that they may have left before
  pub refused_rests : (w v : World) (ds : List DiskSeen) → Shows e (net_over nodes notary w.now ds) v → Coherent e v → Rests e ds v
  refused_rests w v ds s c = stands v ds (subst (λ (n : ℕ). Shows e (over e n ds) v) (sym s.clock) s) c

pub down_fewer : (why : BootFault) (w v : World) → StayDown why w v → LeavesFewer w v
down_fewer why w v s p x y l at there may = (s.each p x y at there).lists l may
