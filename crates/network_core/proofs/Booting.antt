-- What a boot makes of the world.
use Rattle.std.proofs.Common.{◌≡◌, ◌⊎◌, inl, inr, ⊎_elim, ℕ, max, ◌≤◌, Bool, true, false, List, [], map, Option, Some, None, Result, Ok, Err, refl, sym, ◌∙◌, ap, subst, arith, slice_set}
use Rattle.std.specs.List.{slice_get, AllByRecursion}
use Rattle.std.specs.Option.{MatchOption, option_and_then}
use Rattle.std.proofs.lemmas.Bool.{false_from_ne_true}
use Rattle.std.proofs.lemmas.Option.{same_Some, none-some}
use Rattle.network_core.proofs.Loops.{by_later, by_last}
use Rattle.outside.specs.Disk.{DiskSeen, IsImage}
use Rattle.outside.specs.Faults.{Rose}
use Rattle.net_base.specs.declared.names.Identity.{Identity}
use Rattle.net_base.proofs.Lists.{get_there, all_weaken, get_beside, all_set}
use Rattle.disk_journal.specs.Journal.{journal_of, placed, WasSpelt}
use Rattle.disk_journal.specs.declared.fault.OpenFault.TheVariants as open_fault
use Rattle.net_model.specs.Environment.{Environment, environment, party, Meaning}
use Rattle.node_core.specs.declared.faults.BootFault.{BootFault}
use Rattle.node_core.specs.declared.faults.BootFault.TheVariants as boot_fault
use Rattle.node_tables.specs.Fits.{misfit}
use Rattle.node_tables.specs.Journals.{Reads, state_of}
use Rattle.node_tables.specs.Seen.{padded}
use Rattle.node_core.specs.Disks.{Moves, KeepsForm}
use Rattle.node_core.specs.Seen.{NodeSeen, BootsAs, Booted, Unbooted, Unopened, Unfit, GaveUp, IsBy, acks_over}
use Rattle.network_core.specs.declared.refusal.Refusal.TheVariants as refusal
use Rattle.network_core.specs.declared.steps.Outcome.{Outcome}
use Rattle.network_core.specs.declared.steps.Outcome.TheVariants as outcome
use Rattle.network_core.specs.Worlds.{NodeWorld, World, NetSeen, MaySpell, ShowsJournal, NodeShows, NodeCoherent, Shows, Coherent, KeepsWorld}
use Rattle.network_core.specs.Answers.{said, boot_outcome, Restored, BootServes, BootClock, AtPlace, booted_at, journal_at, last_moment}
use Rattle.network_core.specs.Begins.{IsLast}
use Rattle.network_core.specs.WorldSteps.{WorldPlace, WorldBoots, StaysDown}
use Rattle.network_core.proofs.Agreeing.{boot_coherent}
use Rattle.network_core.proofs.Stands.{Goes, AreYoung, shows_down, images_now, young_now}
use Rattle.network_core.proofs.Fitting.{local_fits}
use Rattle.network_core.proofs.Places.{place_world_of}
use Rattle.network_core.proofs.Delivering.{up_of}

-- what a boot makes of a node that is down, whether or not its power came back
pub record Unmoved (x y : NodeWorld) (k : NodeSeen) : Type 0 where
  pub was_down : x.up ≡ false
  pub down : y.up ≡ false
  pub lists : (l : List (List ℕ)) → MaySpell y l → MaySpell x l
  pub later : x.faults ≤ y.faults
  pub faults_are : y.faults ≡ k.disk.faults
  pub calm_is : y.calm ≡ k.disk.calm
  pub file : y.file ≡ x.file
  pub openable : y.openable ≡ x.openable
  pub kept : journal_of k.disk.state.kept ≡ y.journal
  pub acked : y.acked ≡ []

module _ {F : Type 0} (e : Environment F) (p : ℕ) (n k : NodeSeen) (x : NodeWorld) (shows : NodeShows e p n x) (none : n.journal ≡ None) where
  was_down : x.up ≡ false
  was_down = rw none at shows.journal

  -- where each image spells what one spelt before
  may : (c : List ℕ) → WasSpelt n.disk.state c → MaySpell x (journal_of c)
  may c (b, image, same) = subst (λ (l : List (List ℕ)). MaySpell x l) (sym same) (shows.images b image)

  -- the node's world, by the journal that is kept
  record Kept (y : NodeWorld) (kept : List (List ℕ)) : Type 0 where
    down : y.up ≡ false
    is : kept ≡ y.journal
    back : (l : List (List ℕ)) → MaySpell y l → MaySpell x l
    on : (l : List (List ℕ)) → MaySpell x l → MaySpell y l
    faults_are : y.faults ≡ k.disk.faults
    calm_is : y.calm ≡ k.disk.calm
    file_is : y.file ≡ x.file
    openable_is : y.openable ≡ x.openable
    acked_none : y.acked ≡ []
    waiting_is : y.waiting ≡ x.waiting

  world_of : (kept : List (List ℕ)) → MaySpell x kept → (y : NodeWorld) × Kept y kept
  world_of kept (inl is) = (record { up = false; journal = x.journal; other = x.other; faults = k.disk.faults; calm = k.disk.calm; file = x.file; openable = x.openable; acked = []; waiting = x.waiting }, record { down = refl; is = is; back = λ l h. h; on = λ l h. h; faults_are = refl; calm_is = refl; file_is = refl; openable_is = refl; acked_none = refl; waiting_is = refl })
  world_of kept (inr is) = (
    record { up = false; journal = kept; other = Some x.journal; faults = k.disk.faults; calm = k.disk.calm; file = x.file; openable = x.openable; acked = []; waiting = x.waiting },
    record {
      down = refl;
      is = refl;
      back = λ l h. ⊎_elim (λ s. inr (is ∙ ap Some (sym s))) (λ s. inl (sym (same_Some _ _ s))) h;
      on = λ l h. ⊎_elim (λ s. inr (ap Some (sym s))) (λ s. inl (sym (same_Some _ _ (sym is ∙ s)))) h;
      faults_are = refl;
      calm_is = refl;
      file_is = refl;
      openable_is = refl;
      acked_none = refl;
      waiting_is = refl;
    },
  )

  pub down_world : k.journal ≡ None → k.acked ≡ [] → k.identity ≡ n.identity → Moves n.disk k.disk WasSpelt → KeepsForm n.identity n.disk k.disk → Goes e p x k (λ y. Unmoved x y k)
  down_world gone acked same moves form =
      let found = world_of (journal_of k.disk.state.kept) (may k.disk.state.kept (moves.kept shows.tells)) in
      let y = found.0 in
      let w = found.1 in (
        y,
        record {
          identity_is = same ∙ shows.identity_is;
          tells = moves.tells ∙ shows.tells;
          images = λ c image. w.on (journal_of c) (may c (images_now n.disk k.disk WasSpelt moves shows.tells c image));
          kept = w.is;
          journal = shows_down k.journal y gone w.down;
          counts = w.faults_are;
          calm_is = w.calm_is;
          file_is = w.file_is ∙ shows.file_is ∙ sym moves.file;
          acked_is = w.acked_none ∙ sym acked;
          opens = λ on. young_now n.identity k.identity n.disk k.disk same form shows.tells (shows.opens (sym w.openable_is ∙ on));
        },
        w.waiting_is,
        record { was_down = was_down; down = w.down; lists = w.back; later = omega (arith, moves.later, shows.counts, w.faults_are); faults_are = w.faults_are; calm_is = w.calm_is; file = w.file_is; openable = w.openable_is; kept = w.is; acked = w.acked_none },
      )

  -- what is kept spells the same journal where it did so at the node
  pub same_kept : (y : NodeWorld) → Unmoved x y k → journal_of k.disk.state.kept ≡ journal_of n.disk.state.kept → y.journal ≡ x.journal
  same_kept y u same = sym u.kept ∙ same ∙ shows.kept

  -- where its records fit, an opening over images none of which it refuses gave up
  module _ (fit : misfit e.frame_at e.notary e.nodes (party p) (placed 16 x.journal) ≡ None) where
    no_misfit : (at : ℕ) → Unfit e.frame_at n.identity n.disk (boot_fault.Damaged at) k.disk → ⊥
    no_misfit at (list, opens, bad) =
        let told : list ≡ placed 16 x.journal = opens.told shows.tells ∙ ap (placed 16) shows.kept in
        let same : misfit e.frame_at n.identity.notary n.identity.nodes n.identity.party list ≡ misfit e.frame_at e.notary e.nodes (party p) (placed 16 x.journal) =
        ap (λ (l : List (ℕ × List ℕ)). misfit e.frame_at n.identity.notary n.identity.nodes n.identity.party l) told ∙ ap (λ (i : Identity). misfit e.frame_at i.notary i.nodes i.party (placed 16 x.journal)) shows.identity_is in
        none-some at (sym fit ∙ sym same ∙ bad)

    unfit_up : (why : BootFault) → Unfit e.frame_at n.identity n.disk why k.disk → GaveUp why
    unfit_up boot_fault.Fault h = tt
    unfit_up boot_fault.Memory h = tt
    unfit_up boot_fault.NotAJournal h = absurd h
    unfit_up (boot_fault.WrongNode found) h = absurd h
    unfit_up (boot_fault.Damaged at) h = absurd (no_misfit at h)

    pub gives_up : (why : BootFault) → Unbooted e.frame_at n.identity n.disk why k.disk → x.openable ≡ true → GaveUp why
    gives_up why u on = ⊎_elim (λ g. g) (λ h. unfit_up why h) (u.begun shows.tells (shows.opens on))

  pub booted_world : (list : List (ℕ × List ℕ)) → k.journal ≡ Some (map (λ z. z.1) list) → k.acked ≡ padded [] (state_of e.frame_at (map (λ z. z.1) list)).sessions → k.identity ≡ n.identity → Booted e.frame_at n.identity n.disk k.disk list
      → Goes e p x k (λ y. (y ≡ record { up = true; journal = x.journal; other = None; faults = y.faults; calm = y.calm; file = x.file; openable = true; acked = acks_over e [] x.journal; waiting = x.waiting }) × (x.faults ≤ y.faults) × (y.calm ≡ k.disk.calm))
  booted_world list here acked id b =
      let o = b.opens in
      let bodies = map (λ z. z.1) list in
      let tells : k.disk.tells ≡ true = o.moves.tells ∙ shows.tells in
      let same : bodies ≡ x.journal = sym (o.holds.kept tells) ∙ o.same shows.tells ∙ shows.kept in
      let y : NodeWorld = record { up = true; journal = x.journal; other = None; faults = k.disk.faults; calm = k.disk.calm; file = x.file; openable = true; acked = acks_over e [] x.journal; waiting = x.waiting } in (
        y,
        record {
          identity_is = id ∙ shows.identity_is;
          tells = tells;
          images = λ c image. inl (o.holds.images tells c image ∙ same);
          kept = o.holds.kept tells ∙ same;
          journal = subst (λ (j : Option (List (List ℕ))). ShowsJournal j y) (sym here) (refl, sym same, refl);
          counts = refl;
          calm_is = refl;
          file_is = shows.file_is ∙ sym o.moves.file;
          acked_is = ap (λ b. padded [] (state_of e.frame_at b).sessions) (sym same) ∙ sym acked;
          opens = λ on. subst (λ (i : Identity). AreYoung i k.disk) (sym id) (λ c image. inr (inr (o.holds.sound tells c image)));
        },
        refl,
        (refl, rw shows.counts o.moves.later, refl),
      )

module _ {F : Type 0} (e : Environment F) (p : ℕ) (n mid k : NodeSeen) (x : NodeWorld) (shows : NodeShows e p n x) (fit : misfit e.frame_at e.notary e.nodes (party p) (placed 16 x.journal) ≡ None) (down : n.journal ≡ None) (restored : Restored n mid) where
  abbrev z : NodeWorld
  z = record x { calm = mid.disk.calm; acked = mid.acked }

  lit : mid.disk ≡ record n.disk { power = true; fuse = None; calm = mid.disk.calm }
  lit = restored.disk

  shows_mid : NodeShows e p mid z
  shows_mid = record {
    identity_is = restored.identity ∙ shows.identity_is;
    tells = ap (λ v. v.tells) lit ∙ shows.tells;
    images = λ c image. shows.images c (subst (λ (v : DiskSeen). IsImage v.state.now c) lit image);
    kept = ap (λ v. journal_of v.state.kept) lit ∙ shows.kept;
    journal = shows_down mid.journal z restored.journal (rw down at shows.journal);
    counts = shows.counts ∙ sym (ap (λ v. v.faults) lit);
    calm_is = refl;
    file_is = shows.file_is ∙ sym (ap (λ v. v.of_file) lit);
    acked_is = refl;
    opens = λ on. subst (λ (i : Identity). AreYoung i mid.disk) (sym restored.identity) (λ c image. shows.opens on c (subst (λ (v : DiskSeen). IsImage v.state.now c) lit image));
  }

  calm_mid : x.file ≡ false → mid.disk.calm ≡ true
  calm_mid memory = restored.calm (sym shows.file_is ∙ memory)

  calm_stays : x.calm ≡ true → mid.disk.calm ≡ true
  calm_stays calm = restored.stays_calm (sym shows.calm_is ∙ calm)

  stays_down : (y : NodeWorld) → y.waiting ≡ x.waiting → Unmoved z y k → (mid.disk.calm ≡ true → k.disk.calm ≡ true) → StaysDown x y
  stays_down y waits u calm = record { was_down = u.was_down; down = u.down; lists = u.lists; later = u.later; calm = λ memory. u.calm_is ∙ calm (calm_mid memory); stays_calm = λ on. u.calm_is ∙ calm (calm_stays on); file = u.file; openable = u.openable; acked = u.acked; waiting = waits }

  -- what a fault of the opening says
  fault_of : Unopened mid.identity mid.disk boot_fault.Fault k.disk ⊎ Unfit e.frame_at mid.identity mid.disk boot_fault.Fault k.disk → Rose mid.disk.faults k.disk.faults × (mid.disk.calm ≡ true → ⊥)
  fault_of (inl (open_fault.Fault, is, r)) = r
  fault_of (inl (open_fault.Memory, is, r)) = cc
  fault_of (inl (open_fault.NotAJournal, is, r)) = cc
  fault_of (inl (open_fault.WrongNode found, is, r)) = cc
  fault_of (inl (open_fault.Damaged at, is, r)) = cc
  fault_of (inr u) = absurd u

  -- only a file's disk fails at a boot
  is_file : (b : Bool) → x.file ≡ b → (mid.disk.calm ≡ true → ⊥) → b ≡ true
  is_file true here wild = refl
  is_file false here wild = absurd (wild (calm_mid here))

  kept_as : (why : BootFault) → Unbooted e.frame_at mid.identity mid.disk why k.disk → (why ≡ boot_fault.Fault → ⊥) → (y : NodeWorld) → Unmoved z y k → y.journal ≡ x.journal
  kept_as why u other y un = same_kept e p mid k z shows_mid restored.journal y un (u.same other shows_mid.tells)

  unbooted : (why : BootFault) → k.journal ≡ None → k.acked ≡ [] → k.identity ≡ mid.identity → Unbooted e.frame_at mid.identity mid.disk why k.disk → Goes e p x k (λ y. Unmoved z y k)
  unbooted why none acked id u = down_world e p mid k z shows_mid restored.journal none acked id u.moves u.form

  refused : (why : BootFault) → (why ≡ boot_fault.Fault → ⊥) → k.journal ≡ None → k.acked ≡ [] → k.identity ≡ mid.identity → Unbooted e.frame_at mid.identity mid.disk why k.disk → Goes e p x k (λ y. StaysDown x y × (y.journal ≡ x.journal))
  refused why other none acked id u =
      let to = unbooted why none acked id u in
      (to.0, to.1, to.2, (stays_down to.0 to.2 to.3 u.calm, kept_as why u other to.0 to.3))

  foreign : (why : BootFault) → (GaveUp why → ⊥) → (why ≡ boot_fault.Fault → ⊥) → k.journal ≡ None → k.acked ≡ [] → k.identity ≡ mid.identity → Unbooted e.frame_at mid.identity mid.disk why k.disk → Goes e p x k (λ y. WorldBoots e x (Some (outcome.Refused refusal.Journal)) y)
  foreign why never other none acked id u =
      let to = refused why other none acked id u in
      (to.0, to.1, to.2, inr (refl, false_from_ne_true x.openable (λ on. never (gives_up e p mid k z shows_mid restored.journal fit why u on)), to.3.0, to.3.1))

  boots : (answer : Result (Unit {0}) BootFault) → BootsAs e.frame_at mid answer k → Goes e p x k (λ y. WorldBoots e x (boot_outcome answer) y)
  boots (Ok u) s =
      let to = booted_world e p mid k z shows_mid restored.journal s.0 s.1 s.2 s.3 s.4 in
      (to.0, to.1, to.2, record { was_down = rw down at shows.journal; after = to.3.0; later = to.3.1; calm = λ memory. to.3.2 ∙ s.4.opens.calm (calm_mid memory); stays_calm = λ on. to.3.2 ∙ s.4.opens.calm (calm_stays on) })
  boots (Err boot_fault.Fault) s =
      let to = unbooted boot_fault.Fault s.0 s.1 s.2 s.3 in
      let c = fault_of s.3.cause in
      let rose : Rose x.faults to.0.faults = subst (λ (i : ℕ). Rose i to.0.faults) (sym shows_mid.counts) (subst (λ (i : ℕ). Rose mid.disk.faults i) (sym to.3.faults_are) c.0) in
      (to.0, to.1, to.2, (stays_down to.0 to.2 to.3 s.3.calm, rose, is_file x.file refl c.1, false_from_ne_true x.calm (λ on. c.1 (calm_stays on))))
  boots (Err boot_fault.Memory) s = refused boot_fault.Memory (λ is. cc) s.0 s.1 s.2 s.3
  boots (Err boot_fault.NotAJournal) s = foreign boot_fault.NotAJournal (λ g. g) (λ is. cc) s.0 s.1 s.2 s.3
  boots (Err (boot_fault.WrongNode found)) s = foreign (boot_fault.WrongNode found) (λ g. g) (λ is. cc) s.0 s.1 s.2 s.3
  boots (Err (boot_fault.Damaged at)) s = foreign (boot_fault.Damaged at) (λ g. g) (λ is. cc) s.0 s.1 s.2 s.3

-- a boot of any node
boot_any : {F E : Type 0} (e : Environment F) (p : ℕ) (n k : NodeSeen) (x : NodeWorld) (result : Result Outcome E) → NodeShows e p n x → misfit e.frame_at e.notary e.nodes (party p) (placed 16 x.journal) ≡ None → BootServes e.frame_at n result k → Goes e p x k (λ y. WorldBoots e x (said result) y)
boot_any e p n k x result shows fit (inl (up, is, same)) = rw is (x, subst (λ (z : NodeSeen). NodeShows e p z x) (sym same) shows, refl, inl (refl, up_of n.journal x up shows.journal, refl))
boot_any e p n k x result shows fit (inr (down, (mid, answer, restored, s, so))) = rw so (boots e p n mid k x shows fit down restored answer s)

-- the records of a node's journal fit in a coherent world
pub coherent_fits : {F : Type 0} (m : Meaning F) (id : Identity) (p now : ℕ) (x : NodeWorld) → NodeCoherent (environment m id) p now x → misfit m.frame_at id.notary id.nodes (party p) (placed 16 x.journal) ≡ None
coherent_fits m id p now x coherent = let sound = coherent.every x.journal (inl refl) in local_fits (environment m id) p 16 x.journal sound.local sound.whole

-- no journal of a coherent world is later than its moment
by_of : {F : Type 0} (e : Environment F) (p now : ℕ) (n : NodeSeen) (x : NodeWorld) (bodies : List (List ℕ)) → NodeShows e p n x → NodeCoherent e p now x → n.journal ≡ Some bodies → (state_of e.frame_at bodies).moment ≤ now
by_of e p now n x bodies shows coherent here =
    let stands : ShowsJournal (Some bodies) x = rw here at shows.journal in
    (coherent.every bodies (inl (sym stands.1))).by

-- the place of a boot, at the old moment
at_mid : {E : Type 0} (p : ℕ) (old new : NetSeen) (result : Result Outcome E) (serves : NodeSeen → Result Outcome E → NodeSeen → Type 0) → AtPlace p old result new serves → AtPlace p old result (record { nodes = new.nodes; waiting = new.waiting; now = old.now }) serves
at_mid p old new result serves (inl (past, is, same)) = inl (past, is, ap (λ (z : NetSeen). record { nodes = z.nodes; waiting = z.waiting; now = old.now }) same)
at_mid p old new result serves (inr r) = inr r

-- no journal of a coherent world's network is later than its moment
module _ {F : Type 0} (e : Environment F) (p : ℕ) (net : NetSeen) (v : World) (shows : Shows e net v) (coherent : Coherent e v) where
  last_by : (k : NodeSeen) → slice_get net.nodes p ≡ Some k → (journal : Option (List (List ℕ))) → k.journal ≡ journal → last_moment e.frame_at journal ≤ net.now
  last_by k at None here = omega arith
  last_by k at (Some b) here =
      let found = get_beside net.nodes v.nodes p k (sym shows.count) at in
      let by = by_of e p v.now k found.0 b (shows.each p k found.0 at found.1) (coherent.each p found.0 found.1) here in
      omega (arith, by, shows.clock)

  last_at : (found : Option NodeSeen) → slice_get net.nodes p ≡ found → last_moment e.frame_at (option_and_then (λ k. k.journal) found) ≤ net.now
  last_at None at = omega arith
  last_at (Some k) at = last_by k at k.journal refl

-- a boot leaves a moment that no journal is later than
clock_stays : {F : Type 0} (f : Reads F) (now : ℕ) (o : Option Outcome) (journal : Option (List (List ℕ))) → last_moment f journal ≤ now → booted_at f now o journal ≡ now
clock_stays f now (Some outcome.Booted) journal le = omega (arith, le)
clock_stays f now other journal le = refl

pub boot_world : {F E : Type 0} (m : Meaning F) (p : ℕ) (old new : NetSeen) (result : Result Outcome E) → BootClock m.frame_at p old result new → AtPlace p old result new (λ n r k. BootServes m.frame_at n r k) → KeepsWorld m old new (λ e w v. WorldPlace p w (said result) v (λ x o y. WorldBoots e x o y))
boot_world m p old new result clock at id w shows coherent =
    let e = environment m id in
    let mid : NetSeen = record { nodes = new.nodes; waiting = new.waiting; now = old.now } in
    let there =
    place_world_of m p old mid result (λ n r k. BootServes m.frame_at n r k) (λ e t x o y. WorldBoots e x o y)
    (λ id t n k x s c b. boot_any (environment m id) p n k x result s (coherent_fits m id p t x c) b)
    (λ id w v c h. boot_coherent (environment m id) p w v (said result) c h)
    refl (at_mid p old new result (λ n r k. BootServes m.frame_at n r k) at) id w shows coherent in
    let last = last_at e p mid there.0 there.1 there.2 (slice_get new.nodes p) refl in
    let stays : new.now ≡ old.now = clock ∙ clock_stays m.frame_at old.now (said result) (journal_at p new) last in
    let same : new ≡ mid = ap (λ t. record { nodes = new.nodes; waiting = new.waiting; now = t }) stays in
    (there.0, subst (λ (z : NetSeen). Shows e z there.0) (sym same) there.1, there.2, there.3)

-- ---- the moments of the nodes after a boot

pub all_later : {F : Type 0} (f : Reads F) (ns : List NodeSeen) (now later : ℕ) → now ≤ later → AllByRecursion (λ n. IsBy f n.journal now) ns → AllByRecursion (λ n. IsBy f n.journal later) ns
all_later f ns now later le all = all_weaken (λ n. IsBy f n.journal now) (λ n. IsBy f n.journal later) ns (λ n by. by_later f n.journal now later le by) all

pub all_by : {F : Type 0} (f : Reads F) (ns : List NodeSeen) (i : ℕ) (k : NodeSeen) (now last later : ℕ) → AllByRecursion (λ n. IsBy f n.journal now) ns → MatchOption k.journal (last ≡ 0) (λ b. last ≡ (state_of f b).moment) → later ≡ max now last
    → AllByRecursion (λ n. IsBy f n.journal later) (slice_set ns i k)
all_by f ns i k now last later all is same =
    all_set (λ n. IsBy f n.journal later) ns i k (all_weaken (λ n. IsBy f n.journal now) (λ n. IsBy f n.journal later) ns (λ n by. by_later f n.journal now later (omega (arith, same)) by) all) (by_last f k.journal last later is (omega (arith, same)))

-- the moment that a node tells is that of its journal's last cause
last_is : {F : Type 0} (f : Reads F) (journal : Option (List (List ℕ))) (last : ℕ) → IsLast f journal last → last ≡ last_moment f journal
last_is f None last is = is
last_is f (Some b) last is = is

-- no cause of a node is later than a moment
by_is : {F : Type 0} (f : Reads F) (journal : Option (List (List ℕ))) (now : ℕ) → IsBy f journal now → last_moment f journal ≤ now
by_is f None now by = omega arith
by_is f (Some b) now by = by

module _ {F : Type 0} (f : Reads F) (now last : ℕ) (k : NodeSeen) (is : last ≡ last_moment f k.journal) where
  -- where the node is down the moment stays
  none_stays : k.journal ≡ None → max now last ≡ now
  none_stays none = omega (arith, is, ap (last_moment f) none)

  -- by what the boot answers
  booted_as : (mid : NodeSeen) (answer : Result (Unit {0}) BootFault) → BootsAs f mid answer k → max now last ≡ booted_at f now (boot_outcome answer) k.journal
  booted_as mid (Ok u) s = ap (λ t. max now t) is
  booted_as mid (Err boot_fault.Fault) s = none_stays s.0
  booted_as mid (Err boot_fault.Memory) s = none_stays s.0
  booted_as mid (Err boot_fault.NotAJournal) s = none_stays s.0
  booted_as mid (Err (boot_fault.WrongNode found)) s = none_stays s.0
  booted_as mid (Err (boot_fault.Damaged at)) s = none_stays s.0

  -- a boot of any node none of whose causes is later than the moment
  served_as : {E : Type 0} (n : NodeSeen) (result : Result Outcome E) → IsBy f n.journal now → BootServes f n result k → max now last ≡ booted_at f now (said result) k.journal
  served_as n result by (inl (up, four, same)) = rw four (omega (arith, is, ap (λ (x : NodeSeen). last_moment f x.journal) same, by_is f n.journal now by))
  served_as n result by (inr (down, (mid, answer, restored, boots, so))) = rw so (booted_as mid answer boots)

-- the moment is the greater of the one that stood and that of the last cause of the node that came up
pub clock_boot : {F E : Type 0} (f : Reads F) (place : ℕ) (old new : NetSeen) (n k : NodeSeen) (last : ℕ) (result : Result Outcome E) → slice_get old.nodes place ≡ Some n → new.nodes ≡ slice_set old.nodes place k → IsBy f n.journal old.now → BootServes f n result k
    → IsLast f k.journal last → new.now ≡ max old.now last → BootClock f place old result new
clock_boot f place old new n k last result at nodes by serves is same =
    let there : slice_get new.nodes place ≡ Some k = rw nodes (get_there old.nodes place n k at) in
    rw there (same ∙ served_as f old.now last k (last_is f k.journal last is) n result by serves)
