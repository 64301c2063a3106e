-- Over what power cuts left of all disks at a moment a network shows a coherent world.
use Rattle.std.proofs.Common.{◌≡◌, inl, inr, ℕ, zero, suc, Bool, false, true, List, [], ◌∷◌, length, map, Some, None, refl, sym, ◌∙◌, ap, subst}
use Rattle.std.specs.List.{slice_get, list_all, AllByRecursion}
use Rattle.std.proofs.lemmas.Bool.{and_from, and_parts, true≢false}
use Rattle.std.proofs.lemmas.List.{length-map}
use Rattle.std.proofs.lemmas.Option.{none-some, same_Some}
use Rattle.outside.specs.Disk.{DiskSeen, Durable, IsImage}
use Rattle.outside.proofs.Moments.{clean_image}
use Rattle.net_base.specs.declared.names.Identity.{Identity}
use Rattle.net_base.proofs.Lists.{get_beside, get_map, map_twice, of_map}
use Rattle.disk_journal.specs.Journal.{IsYoung, journal_of}
use Rattle.net_model.specs.Environment.{Environment, environment, Meaning}
use Rattle.node_core.specs.Disks.{Image, kept_journal}
use Rattle.node_core.specs.Seen.{NodeSeen}
use Rattle.network_core.specs.Worlds.{NodeWorld, World, MaySpell, NodeShows, AreOpenable, Choice, WaitsAt, states_of, Agrees, Sound, NodeCoherent}
use Rattle.network_core.specs.Begins.{member, node_over, nodes_over}
use Rattle.network_core.specs.Drains.{Pair}
use Rattle.network_core.specs.Moments.{Instant, IsChoice, MayBeSpelt, IsKept}
use Rattle.network_core.specs.Left.{HoldImages, LeftIsCoherent}
use Rattle.network_core.proofs.Beginning.{over_length, first_get}

-- no opening refuses an image of any of these nodes
abbrev all_open : List NodeWorld → Bool
all_open xs = list_all (λ x. x.openable) xs

each_open : (xs : List NodeWorld) → all_open xs ≡ true → (p : ℕ) (x : NodeWorld) → slice_get xs p ≡ Some x → x.openable ≡ true
each_open [] all p x at = cc
each_open (y ∷ xs) all zero x at = let is : y ≡ x = same_Some _ _ at in ap (λ (z : NodeWorld). z.openable) (sym is) ∙ (and_parts y.openable (all_open xs) all).0
each_open (y ∷ xs) all (suc p) x at = each_open xs (and_parts y.openable (all_open xs) all).1 p x at

open_each : (xs : List NodeWorld) → ((p : ℕ) (x : NodeWorld) → slice_get xs p ≡ Some x → x.openable ≡ true) → all_open xs ≡ true
open_each [] each = refl
open_each (y ∷ xs) each = and_from y.openable (all_open xs) (each 0 y refl) (open_each xs (λ p x at. each (suc p) x at))

-- a node over a disk that a power cut left
abbrev fallen : Bool → DiskSeen → NodeWorld
fallen opened d = record { up = false; journal = kept_journal d; other = None; faults = d.faults; calm = d.calm; file = d.of_file; openable = opened; acked = []; waiting = [] }

-- its disk may spell one journal
spells_one : (opened : Bool) (d : DiskSeen) (l : List (List ℕ)) → MaySpell (fallen opened d) l → l ≡ kept_journal d
spells_one opened d l (inl same) = same
spells_one opened d l (inr other) = absurd (none-some _ other)

none_waits : (opened : Bool) (ds : List DiskSeen) → map (λ (x : NodeWorld). x.waiting) (map (fallen opened) ds) ≡ map (λ d. []) ds
none_waits opened ds = map_twice (λ (x : NodeWorld). x.waiting) (fallen opened) (λ d. []) ds (λ d. refl)

module _ {F : Type 0} (m : Meaning F) (id : Identity) (a : Pair (environment m id)) (s : Instant) (images : List Image) (disks : List DiskSeen)
    (kept : IsKept (environment m id) a.net s) (choice : IsChoice s images) (hold : HoldImages disks images) where
  abbrev e : Environment F
  e = environment m id

  abbrev opened : Bool
  opened = all_open a.world.nodes

  may : MayBeSpelt e (map journal_of images)
  may = kept.world images choice

  abbrev w : World
  w = record { nodes = map (fallen opened) disks; now = may.world.now }

  many : length disks ≡ e.nodes
  many = hold.count ∙ choice.count ∙ kept.count ∙ sym a.shows.count ∙ a.coherent.count

  -- ---- one disk

  -- the image that it holds
  image_at : (p : ℕ) (d : DiskSeen) → slice_get disks p ≡ Some d → (c : Image) × (slice_get images p ≡ Some c)
  image_at p d at = get_beside disks images p d hold.count at

  -- no opening refuses it, where none refused one before
  young_at : AreOpenable a.world → (p : ℕ) (c : Image) → slice_get images p ≡ Some c → IsYoung (member e.nodes e.notary p) c
  young_at openable p c there =
      let d = get_beside images s p c choice.count there in
      let n = get_beside s a.net.nodes p d.0 kept.count d.1 in
      let x = get_beside a.net.nodes a.world.nodes p n.0 (sym a.shows.count) n.1 in
      let shown = a.shows.each p n.0 x.0 n.1 x.1 in
      subst (λ (i : Identity). IsYoung i c) shown.identity_is (kept.young p n.0 d.0 c n.1 (shown.opens (openable p x.0 x.1)) d.1 (choice.each p d.0 c d.1 there))

  -- and its journal is one that a coherent world may spell
  sound_at : (p : ℕ) (d : DiskSeen) → slice_get disks p ≡ Some d → Sound e p may.world.now (kept_journal d)
  sound_at p d at =
      let c = image_at p d at in
      let l : slice_get (map journal_of images) p ≡ Some (journal_of c.0) = get_map journal_of images p c.0 c.1 in
      let y = get_beside (map journal_of images) may.world.nodes p (journal_of c.0) may.choice.count l in
      subst (Sound e p may.world.now) (ap journal_of (sym (hold.kept p d c.0 at c.1))) ((may.coherent.each p y.0 y.1).every (journal_of c.0) (may.choice.each p y.0 (journal_of c.0) y.1 l))

  shown : (p : ℕ) (d : DiskSeen) → slice_get disks p ≡ Some d → NodeShows e p (node_over e.nodes e.notary p d) (fallen opened d)
  shown p d at =
      let c = image_at p d at in
      let only : (g : List ℕ) → IsImage d.state.now g → g ≡ c.0 = λ g image. clean_image c.0 g (subst (λ (z : Durable). IsImage z g) (hold.settled p d c.0 at c.1) image) in
      record {
        identity_is = refl;
        tells = hold.tells p d at;
        images = λ g image. inl (ap journal_of (only g image ∙ sym (hold.kept p d c.0 at c.1)));
        kept = refl;
        journal = refl;
        counts = refl;
        calm_is = refl;
        file_is = refl;
        acked_is = refl;
        opens = λ on g image. subst (IsYoung (member e.nodes e.notary p)) (sym (only g image)) (young_at (each_open a.world.nodes on) p c.0 c.1);
      }

  shown_at : (p : ℕ) (n : NodeSeen) (x : NodeWorld) → slice_get (nodes_over e.nodes e.notary 0 disks) p ≡ Some n → slice_get (map (fallen opened) disks) p ≡ Some x → NodeShows e p n x
  shown_at p n x i j =
      let place = first_get e.nodes e.notary disks p n i in
      let there = of_map (fallen opened) disks p x j in
      let one : there.0 ≡ place.0 = cc in
      subst (λ (z : NodeSeen). NodeShows e p z x) (sym place.2)
      (subst (λ (z : NodeWorld). NodeShows e p (node_over e.nodes e.notary p place.0) z) (ap (fallen opened) (sym one) ∙ there.2) (shown p place.0 place.1))

  down_at : (p : ℕ) (x : NodeWorld) → slice_get (map (fallen opened) disks) p ≡ Some x → x.up ≡ false
  down_at p x j = let there = of_map (fallen opened) disks p x j in ap (λ (z : NodeWorld). z.up) (sym there.2)

  silent_at : (p : ℕ) (x : NodeWorld) → slice_get (map (fallen opened) disks) p ≡ Some x → x.waiting ≡ []
  silent_at p x j = let there = of_map (fallen opened) disks p x j in ap (λ (z : NodeWorld). z.waiting) (sym there.2)

  openable_at : (p : ℕ) (x : NodeWorld) → slice_get (map (fallen opened) disks) p ≡ Some x → x.openable ≡ opened
  openable_at p x j = let there = of_map (fallen opened) disks p x j in ap (λ (z : NodeWorld). z.openable) (sym there.2)

  spelt_at : (p : ℕ) (x : NodeWorld) (l : List (List ℕ)) → slice_get (map (fallen opened) disks) p ≡ Some x → MaySpell x l → (d : DiskSeen) × (slice_get disks p ≡ Some d) × (l ≡ kept_journal d)
  spelt_at p x l j spelt =
      let there = of_map (fallen opened) disks p x j in
      (there.0, there.1, spells_one opened there.0 l (subst (λ (z : NodeWorld). MaySpell z l) (sym there.2) spelt))

  node_coherent : (p : ℕ) (x : NodeWorld) → slice_get (map (fallen opened) disks) p ≡ Some x → NodeCoherent e p may.world.now x
  node_coherent p x at = record {
    every = λ l spelt. let d = spelt_at p x l at spelt in subst (Sound e p may.world.now) (sym d.2) (sound_at p d.0 d.1);
    one = λ up. absurd (true≢false (sym up ∙ down_at p x at));
  }

  -- what these disks may spell, that world may
  over : (lists : List (List (List ℕ))) → Choice w lists → Choice may.world lists
  over lists chosen = record {
    count = chosen.count ∙ length-map disks (fallen opened) ∙ hold.count ∙ sym (length-map images journal_of) ∙ may.choice.count;
    each = λ p y l there has.
        let x = get_beside lists w.nodes p l chosen.count has in
        let d = spelt_at p x.0 l x.1 (chosen.each p x.0 l x.1 has) in
        let c = image_at p d.0 d.1 in
        let same : journal_of c.0 ≡ l = ap journal_of (sym (hold.kept p d.0 c.0 d.1 c.1)) ∙ sym d.2 in
        subst (MaySpell y) same (may.choice.each p y (journal_of c.0) there (get_map journal_of images p c.0 c.1));
  }

  agrees : (lists : List (List (List ℕ))) → Choice w lists → Agrees e w lists
  agrees lists chosen = record {
    matched = (may.coherent.agrees lists (over lists chosen)).matched;
    waits = λ p x at. subst (λ (frames : List (List ℕ)). AllByRecursion (WaitsAt (states_of e lists) p) frames) (sym (silent_at p x at)) tt;
    arrived = λ p x at up. absurd (true≢false (sym up ∙ down_at p x at));
  }

pub left_is_coherent : {F : Type 0} → LeftIsCoherent F
left_is_coherent m id a s images disks kept choice hold = (
  w m id a s images disks kept choice hold,
  record {
    count = length-map disks (fallen (all_open a.world.nodes)) ∙ sym (over_length id.nodes id.notary 0 disks);
    each = shown_at m id a s images disks kept choice hold;
    waiting = none_waits (all_open a.world.nodes) disks;
    clock = refl;
  },
  record {
    count = length-map disks (fallen (all_open a.world.nodes)) ∙ many m id a s images disks kept choice hold;
    each = node_coherent m id a s images disks kept choice hold;
    numbers = λ p x at up. absurd (true≢false (sym up ∙ down_at m id a s images disks kept choice hold p x at));
    agrees = agrees m id a s images disks kept choice hold;
  },
  λ openable p x at. openable_at m id a s images disks kept choice hold p x at ∙ open_each a.world.nodes openable,
)
