-- Over new disks a network shows a coherent world.
use Rattle.std.proofs.Common.{◌≡◌, inl, inr, ℕ, false, true, List, [], length, map, Some, None, refl, sym, ◌∙◌, ap, subst, arith}
use Rattle.std.specs.List.{slice_get, AllByRecursion}
use Rattle.std.proofs.lemmas.Bool.{true≢false}
use Rattle.std.proofs.lemmas.List.{length-map}
use Rattle.outside.specs.Disk.{DiskSeen, IsImage}
use Rattle.outside.proofs.Moments.{clean_image}
use Rattle.net_base.specs.declared.values.Party.{Party}
use Rattle.net_base.proofs.Lists.{all_get, get_beside, map_twice, of_map}
use Rattle.disk_journal.specs.Journal.{found, journal_of}
use Rattle.net_model.specs.Environment.{Environment, environment, Meaning}
use Rattle.net_model.specs.State.{Record, fresh, replay}
use Rattle.net_model.specs.Runs.{IsMatchedFrom}
use Rattle.node_tables.specs.Journals.{Reads, records_of, state_of}
use Rattle.node_core.specs.Seen.{NodeSeen}
use Rattle.network_core.specs.Worlds.{NodeWorld, World, MaySpell, NodeShows, Choice, WaitsAt, states_of, Agrees, Sound, NodeCoherent}
use Rattle.network_core.specs.Begins.{member, node_over, nodes_over, IsNew, NewDisksAreCoherent}
use Rattle.network_core.proofs.Beginning.{over_length, first_get}

-- a node over a new disk
abbrev unused : DiskSeen → NodeWorld
unused d = record { up = false; journal = []; other = None; faults = d.faults; calm = d.calm; file = d.of_file; openable = true; acked = []; waiting = [] }

none_spelt : journal_of [] ≡ []
unfolding journal_of found
none_spelt = refl

no_moment : {F : Type 0} (f : Reads F) → (state_of f []).moment ≡ 0
unfolding state_of replay
no_moment f = refl

-- a disk on which nothing was written may spell no record
spells_none : (d : DiskSeen) (l : List (List ℕ)) → MaySpell (unused d) l → l ≡ []
spells_none d l (inl same) = same
spells_none d l (inr other) = cc

waits_none : (ds : List DiskSeen) (nodes : ℕ) → map (λ (x : NodeWorld). x.waiting) (map unused ds) ≡ map (λ d. []) ds
waits_none ds nodes = map_twice (λ (x : NodeWorld). x.waiting) unused (λ d. []) ds (λ d. refl)

module _ {F : Type 0} (m : Meaning F) (nodes : ℕ) (notary : Party) (now : ℕ) (disks : List DiskSeen) (many : length disks ≡ nodes) (new : AllByRecursion IsNew disks) where
  abbrev e : Environment F
  e = environment m (member nodes notary 0)

  abbrev w : World
  w = record { nodes = map unused disks; now = now }

  shown : (p : ℕ) (d : DiskSeen) → IsNew d → NodeShows e p (node_over nodes notary p d) (unused d)
  shown p d h = record {
    identity_is = refl;
    tells = h.tells;
    images = λ c image. inl (ap journal_of (clean_image [] c (subst (λ s. IsImage s c) h.settled image)) ∙ none_spelt);
    kept = ap journal_of h.kept ∙ none_spelt;
    journal = refl;
    counts = refl;
    calm_is = refl;
    file_is = refl;
    acked_is = refl;
    opens = λ on c image. let none : c ≡ [] = clean_image [] c (subst (λ s. IsImage s c) h.settled image) in inl (omega (arith, ap length none));
  }

  shown_at : (p : ℕ) (n : NodeSeen) (x : NodeWorld) → slice_get (nodes_over nodes notary 0 disks) p ≡ Some n → slice_get (map unused disks) p ≡ Some x → NodeShows e p n x
  shown_at p n x i j =
      let place = first_get nodes notary disks p n i in
      let there = of_map unused disks p x j in
      let one : there.0 ≡ place.0 = cc in
      subst (λ (z : NodeSeen). NodeShows e p z x) (sym place.2)
      (subst (λ (z : NodeWorld). NodeShows e p (node_over nodes notary p place.0) z) (ap unused (sym one) ∙ there.2) (shown p place.0 (all_get IsNew disks p place.0 new place.1)))

  spelt_at : (p : ℕ) (x : NodeWorld) (l : List (List ℕ)) → slice_get (map unused disks) p ≡ Some x → MaySpell x l → l ≡ []
  spelt_at p x l j may =
      let there = of_map unused disks p x j in
      spells_none there.0 l (subst (λ (z : NodeWorld). MaySpell z l) (sym there.2) may)

  down_at : (p : ℕ) (x : NodeWorld) → slice_get (map unused disks) p ≡ Some x → x.up ≡ false
  down_at p x j = let there = of_map unused disks p x j in ap (λ (z : NodeWorld). z.up) (sym there.2)

  silent_at : (p : ℕ) (x : NodeWorld) → slice_get (map unused disks) p ≡ Some x → x.waiting ≡ []
  silent_at p x j = let there = of_map unused disks p x j in ap (λ (z : NodeWorld). z.waiting) (sym there.2)

  none_sound : (p : ℕ) → Sound e p now []
  none_sound p = record { local = tt; whole = refl; by = let zero_is = no_moment m.frame_at in omega (arith, zero_is) }

  agrees : (lists : List (List (List ℕ))) → Choice w lists → Agrees e w lists
  agrees lists choice = record {
    matched = λ p records at.
        let spelt = of_map (records_of m.frame_at) lists p records at in
        let there = get_beside lists (map unused disks) p spelt.0 choice.count spelt.1 in
        let empty : spelt.0 ≡ [] = spelt_at p there.0 spelt.0 there.1 (choice.each p there.0 spelt.0 there.1 spelt.1) in
        let none : records ≡ [] = sym spelt.2 ∙ ap (records_of m.frame_at) empty in
        subst (λ (rs : List (Record F)). IsMatchedFrom (map replay (map (records_of m.frame_at) lists)) p fresh rs) (sym none) tt;
    waits = λ p x at. subst (λ (frames : List (List ℕ)). AllByRecursion (WaitsAt (states_of e lists) p) frames) (sym (silent_at p x at)) tt;
    arrived = λ p x at up. absurd (true≢false (sym up ∙ down_at p x at));
  }

  openable_at : (p : ℕ) (x : NodeWorld) → slice_get (map unused disks) p ≡ Some x → x.openable ≡ true
  openable_at p x j = let there = of_map unused disks p x j in ap (λ (z : NodeWorld). z.openable) (sym there.2)

  node_coherent : (p : ℕ) (x : NodeWorld) → slice_get (map unused disks) p ≡ Some x → NodeCoherent e p now x
  node_coherent p x at = record {
    every = λ l may. subst (Sound e p now) (sym (spelt_at p x l at may)) (none_sound p);
    one = λ up. absurd (true≢false (sym up ∙ down_at p x at));
  }

pub new_disks_are_coherent : {F : Type 0} → NewDisksAreCoherent F
new_disks_are_coherent m nodes notary now disks many new = (
  w m nodes notary now disks many new,
  record {
    count = length-map disks unused ∙ sym (over_length nodes notary 0 disks);
    each = shown_at m nodes notary now disks many new;
    waiting = waits_none disks nodes;
    clock = refl;
  },
  record {
    count = length-map disks unused ∙ many;
    each = node_coherent m nodes notary now disks many new;
    numbers = λ p x at up. absurd (true≢false (sym up ∙ down_at m nodes notary now disks many new p x at));
    agrees = agrees m nodes notary now disks many new;
  },
  openable_at m nodes notary now disks many new,
)
