-- From one network to the next, of which one disk moved: what is said of each moment between them.
use Rattle.std.proofs.Common.{◌≡◌, inl, inr, ⊎_elim, ℕ, false, List, [], ◌∷◌, ◌++◌, length, map, drop, Option, Some, None, slice_set, refl, sym, ◌∙◌, ap, subst, append-nil, append_assoc}
use Rattle.std.specs.List.{slice_get, Contains}
use Rattle.std.proofs.lemmas.Bool.{cases_eq}
use Rattle.std.proofs.lemmas.Option.{same_Some, none-some}
use Rattle.std.proofs.lemmas.List.{length-map}
use Rattle.std.proofs.lemmas.List.Elements.{Contains-push}
use Rattle.std.proofs.lemmas.List.{drop_at}
use Rattle.std.proofs.lemmas.Bool.{true≢false}
use Rattle.outside.specs.Disk.{DiskState, Durable, IsImage, moment}
use Rattle.outside.proofs.Moments.{only}
use Rattle.net_base.proofs.Lists.{get_beside, get_map, of_map, set_length}
use Rattle.disk_journal.specs.Journal.{journal_of}
use Rattle.net_model.specs.Environment.{Environment}
use Rattle.node_tables.specs.Journals.{causes_of}
use Rattle.node_core.specs.Seen.{NodeSeen}
use Rattle.network_core.specs.Worlds.{NodeWorld, World, NetSeen, MaySpell, Shows, Choice, Coherent}
use Rattle.network_core.proofs.AgreeingPlace.{Adds}
use Rattle.network_core.proofs.AgreeingOnce.{goes_coherent}
use Rattle.network_core.proofs.Faithful.{coherent_is_faithful}
use Rattle.network_core.proofs.Placing.{set_apart, set_here}
use Rattle.network_core.proofs.Standing.{causes_append}
use Rattle.network_core.specs.Moments.{Instant, IsSince, now_of, IsBetween, IsChoice, MayBeSpelt, IsKept}
use Rattle.network_core.proofs.KeepingNodes.{Fine, DiskGoes, unchanged}

-- ---- moments of a disk

-- the moments since d are those after its past
pub since_of : (d e : DiskState) (tail : List Durable) → e.past ≡ d.past ++ tail → drop (moment d) (e.past ++ e.now ∷ []) ≡ tail ++ e.now ∷ []
since_of d e tail is =
    let all : e.past ++ e.now ∷ [] ≡ d.past ++ (tail ++ e.now ∷ []) = ap (λ l. l ++ e.now ∷ []) is ∙ append_assoc d.past tail (e.now ∷ []) in
    ap (λ l. drop (length d.past) l) all ∙ drop_at d.past (tail ++ e.now ∷ []) (length d.past) refl

-- ---- links

-- one node went on, and all others are as they were
pub record Link {F : Type 0} (e : Environment F) (w : World) (old new : NetSeen) : Type 0 where
  pub count : length new.nodes ≡ length old.nodes
  pub place : ℕ
  pub rest : (q : ℕ) (n k : NodeSeen) → slice_get old.nodes q ≡ Some n → slice_get new.nodes q ≡ Some k → (q ≡ place → ⊥) → k ≡ n
  pub goes : (n k : NodeSeen) → slice_get old.nodes place ≡ Some n → slice_get new.nodes place ≡ Some k → DiskGoes e w place n k

-- the journals at each place but one may be spelt in the world
module _ {F : Type 0} (e : Environment F) (w : World) (old new : NetSeen) (shows : Shows e old w) (coherent : Coherent e w) (link : Link e w old new) where
  abbrev p : ℕ
  p = link.place

  pub each_goes : (q : ℕ) (n k : NodeSeen) → slice_get old.nodes q ≡ Some n → slice_get new.nodes q ≡ Some k → DiskGoes e w q n k
  each_goes q n k at after = ⊎_elim
      (λ is. subst (λ (i : ℕ). DiskGoes e w i n k) (sym is) (link.goes n k (subst (λ (i : ℕ). slice_get old.nodes i ≡ Some n) is at) (subst (λ (i : ℕ). slice_get new.nodes i ≡ Some k) is after)))
      (λ other. unchanged e w q n k (link.rest q n k at after other))
      (cases_eq q p)

  -- the last moment
  pub now_between : IsBetween old new (now_of new)
  now_between = record {
    count = length-map new.nodes (λ (n : NodeSeen). n.disk.state.now) ∙ link.count;
    each = λ q n k d at after has.
        let goes = (each_goes q n k at after).images in
        let same : k.disk.state.now ≡ d = same_Some _ _ (sym (get_map (λ (z : NodeSeen). z.disk.state.now) new.nodes q k after) ∙ has) in
        let there : IsSince n.disk.state k.disk.state k.disk.state.now = subst (λ (l : List Durable). Contains l k.disk.state.now) (sym (since_of n.disk.state k.disk.state goes.since goes.past)) (Contains-push goes.since k.disk.state.now) in
        subst (λ (z : Durable). IsSince n.disk.state k.disk.state z) same there;
  }

  module _ (s : Instant) (between : IsBetween old new s) where
    -- the node after, and that the disk was at a moment since
    after_at : (q : ℕ) (n : NodeSeen) (d : Durable) → slice_get old.nodes q ≡ Some n → slice_get s q ≡ Some d → (k : NodeSeen) × (slice_get new.nodes q ≡ Some k) × IsSince n.disk.state k.disk.state d
    after_at q n d at has = let k = get_beside old.nodes new.nodes q n (sym link.count) at in (k.0, k.1, between.each q n k.0 d at k.1 has)

    fine : (q : ℕ) (n : NodeSeen) (d : Durable) (c : List ℕ) → slice_get old.nodes q ≡ Some n → slice_get s q ≡ Some d → IsImage d c → Fine e w q n c
    fine q n d c at has image = let k = after_at q n d at has in (each_goes q n k.0 at k.1).images.each c (d, k.2, image)

    -- a disk that rested
    rested : (q : ℕ) (n : NodeSeen) (d : Durable) (c : List ℕ) → (q ≡ p → ⊥) → slice_get old.nodes q ≡ Some n → slice_get s q ≡ Some d → IsImage d c → IsImage n.disk.state.now c
    rested q n d c other at has image =
        let k = after_at q n d at has in
        let same : k.0.disk.state ≡ n.disk.state = ap (λ (z : NodeSeen). z.disk.state) (link.rest q n k.0 at k.1 other) in
        let since : IsSince n.disk.state n.disk.state d = subst (λ (z : DiskState). IsSince n.disk.state z d) same k.2 in
        let one : n.disk.state.now ≡ d = only n.disk.state.now d (subst (λ (l : List Durable). Contains l d) (since_of n.disk.state n.disk.state [] (sym (append-nil n.disk.state.past))) since) in
        subst (λ (z : Durable). IsImage z c) (sym one) image

    module _ (images : List (List ℕ)) (choice : IsChoice s images) where
      abbrev lists : List (List (List ℕ))
      lists = map journal_of images

      count_s : length images ≡ length w.nodes
      count_s = choice.count ∙ between.count ∙ sym shows.count

      -- the node and the disk at a place of the images
      at_image : (q : ℕ) (c : List ℕ) → slice_get images q ≡ Some c → (n : NodeSeen) × (d : Durable) × (slice_get old.nodes q ≡ Some n) × (slice_get s q ≡ Some d) × IsImage d c
      at_image q c there =
          let d = get_beside images s q c choice.count there in
          let n = get_beside s old.nodes q d.0 between.count d.1 in
          (n.0, d.0, n.1, d.1, choice.each q d.0 c d.1 there)

      -- a world that differs at the one place at most, where it may spell what is chosen
      choice_of : (v : World) → length v.nodes ≡ length w.nodes → ((q : ℕ) (x : NodeWorld) → (q ≡ p → ⊥) → slice_get v.nodes q ≡ Some x → slice_get w.nodes q ≡ Some x)
          → ((x : NodeWorld) (c : List ℕ) → slice_get v.nodes p ≡ Some x → slice_get images p ≡ Some c → MaySpell x (journal_of c)) → Choice v lists
      choice_of v count apart here = record {
        count = length-map images journal_of ∙ count_s ∙ sym count;
        each = λ q x l there chosen.
            let c = of_map journal_of images q l chosen in
            subst (λ (j : List (List ℕ)). MaySpell x j) c.2
            (⊎_elim
            (λ is. here x c.0 (subst (λ (i : ℕ). slice_get v.nodes i ≡ Some x) is there) (subst (λ (i : ℕ). slice_get images i ≡ Some c.0) is c.1))
            (λ other.
            let a = at_image q c.0 c.1 in
            (shows.each q a.0 x a.2 (apart q x other there)).images c.0 (rested q a.0 a.1 c.0 other a.2 a.3 a.4))
            (cases_eq q p));
      }

      same_world : ((x : NodeWorld) (c : List ℕ) → slice_get w.nodes p ≡ Some x → slice_get images p ≡ Some c → MaySpell x (journal_of c)) → MayBeSpelt e lists
      same_world here = record { world = w; coherent = coherent; choice = choice_of w refl (λ q x other at. at) here }

      world_at : (c : List ℕ) → slice_get images p ≡ Some c → MayBeSpelt e lists
      world_at c there =
          let a = at_image p c there in
          let n = a.0 in
          let x = get_beside old.nodes w.nodes p n (sym shows.count) a.2 in
          let h = fine p n a.1 c a.2 a.3 a.4 in
          let may : MaySpell x.0 (journal_of h.0) = (shows.each p n x.0 a.2 x.1).images h.0 h.1 in
          ⊎_elim
          (λ same. same_world (λ z g at has.
          let is : x.0 ≡ z = same_Some _ _ (sym x.1 ∙ at) in
          let one : c ≡ g = same_Some _ _ (sym there ∙ has) in
          subst (λ (y : NodeWorld). MaySpell y (journal_of g)) is (subst (λ (b : List ℕ). MaySpell x.0 (journal_of b)) one (subst (λ (j : List (List ℕ)). MaySpell x.0 j) (sym same) may))))
          (λ adds.
          let y : NodeWorld = record { up = false; journal = journal_of c; other = None; faults = 0; calm = false; file = false; openable = false; acked = []; waiting = x.0.waiting } in
          let v : World = record { nodes = slice_set w.nodes p y; now = w.now } in
          let after : Coherent e v = goes_coherent e w p x.0 y coherent x.1 (record {
            one = λ up. absurd (true≢false (sym up));
            lists = λ l spelt. (journal_of h.0, may, inr (⊎_elim (λ is. subst (λ (j : List (List ℕ)). Adds e w p (journal_of h.0) j) (sym is) adds) (λ is. absurd (none-some _ is)) spelt));
            waits = λ was chosen all. all;
            numbers = λ up. absurd (true≢false (sym up));
            acks = λ up. absurd (true≢false (sym up));
          }) in
          record {
            world = v;
            coherent = after;
            choice = choice_of v (set_length w.nodes p y) (λ q z other at. set_apart w.nodes p q y z other at) (λ z g at has.
                let is : z ≡ y = set_here w.nodes p y z at in
                let one : c ≡ g = same_Some _ _ (sym there ∙ has) in
                subst (λ (b : NodeWorld). MaySpell b (journal_of g)) (sym is) (inl (ap journal_of (sym one))));
          })
          h.2

      world_by : (o : Option (List ℕ)) → slice_get images p ≡ o → MayBeSpelt e lists
      world_by None there = same_world (λ x c at has. absurd (none-some _ (sym there ∙ has)))
      world_by (Some c) there = world_at c there

    pub kept_between : IsKept e old s
    kept_between = record {
      count = between.count;
      faithful = λ images choice. let may = world_by images choice (slice_get images p) refl in (coherent_is_faithful e may.world (map journal_of images) may.coherent may.choice).0;
      world = λ images choice. world_by images choice (slice_get images p) refl;
      begins = λ q n d c at has image.
          let h = fine q n d c at has image in
          ⊎_elim
          (λ same. (h.0, h.1, [], ap (causes_of e.frame_at) same ∙ sym (append-nil (causes_of e.frame_at (journal_of h.0)))))
          (λ adds. (h.0, h.1, causes_of e.frame_at (adds.body ∷ []), ap (causes_of e.frame_at) adds.is ∙ causes_append e.frame_at (journal_of h.0) (adds.body ∷ [])))
          h.2;
      sound = λ q n d c at all has image.
          let k = after_at q n d at has in
          ((each_goes q n k.0 at k.1).sound all).each c (d, k.2, image);
      young = λ q n d c at all has image.
          let k = after_at q n d at has in
          ((each_goes q n k.0 at k.1).young all).each c (d, k.2, image);
    }
