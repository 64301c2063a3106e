-- What leads on where nodes are worked on side by side in between: coherent worlds, and what power cuts may leave at each moment.
use Rattle.std.proofs.Common.{◌≡◌, inl, inr, ℕ, suc, ◌+◌, List, [], ◌∷◌, ◌++◌, length, slice_get, Option, Some, None, refl, sym, ◌∙◌, ap, subst, arith, append-nil, append_assoc}
use Rattle.std.proofs.lemmas.List.{length-map}
use Rattle.outside.specs.Disk.{Durable, IsImage}
use Rattle.outside.proofs.Moments.{at_now}
use Rattle.net_base.specs.declared.causes.Cause.{Cause}
use Rattle.net_base.specs.declared.names.Identity.{Identity}
use Rattle.net_base.proofs.Lists.{get_beside, get_map, of_map}
use Rattle.net_base.proofs.Options.{some_eq}
use Rattle.wire_queue.specs.Wire.{Frame}
use Rattle.disk_journal.specs.Journal.{IsSound, IsYoung, journal_of}
use Rattle.net_model.specs.Environment.{Environment, environment, Meaning}
use Rattle.node_tables.specs.Journals.{causes_of}
use Rattle.node_core.specs.Disks.{IsOpenable}
use Rattle.node_core.specs.Seen.{NodeSeen}
use Rattle.network_core.specs.Worlds.{NodeWorld, World, MaySpell, AreOpenable, Choice, Coherent, NodeShows, ShowsJournal}
use Rattle.network_core.specs.Answers.{answer_of}
use Rattle.network_core.specs.Drains.{Pair}
use Rattle.network_core.specs.Moments.{Instant, now_of, AreSound, Begins, IsKept}
use Rattle.network_core.specs.Ways.{Way, stay, by_step, by_part, IsOn}
use Rattle.network_core.proofs.KeepingCauses.{stands_at}
use Rattle.network_core.proofs.KeepingLinks.{now_between}
use Rattle.network_core.proofs.KeepingNodes.{synced_image}
use Rattle.network_core.proofs.KeepingSteps.{part_link, step_link}
use Rattle.network_core.proofs.KeepingWays.{kept_on_ways}
use Rattle.network_core.proofs.Lengthening.{AllLengthen, all_then}
use Rattle.network_core.proofs.Naming.{name_of, names_of}
use Rattle.network_core.proofs.Reaching.{Leads, reaches_leads}
use Rattle.network_core.proofs.Standing.{Later, only_journal, causes_append, stands_later}
use Rattle.work_law.specs.Lasting.{HoldsJournal, Lasts}
use Rattle.work_law.specs.Passages.{Attains, by_steps, by_work, AttainedAreCoherent, AcknowledgedIsKept, PairWorks, Passage, goes, works, times_worked, UnworkedAreWays, IsPassed, KeptOnPassages, AcknowledgedOnPassages}
use Rattle.work_law.specs.Works.{Works, WorldWorks}
use Rattle.work_law.proofs.Lasting.{histories_last}

-- ---- worlds

module _ {F : Type 0} (e : Environment F) where
  -- each journal that may be left after work goes on from one that might be left before
  work_longer : (commits : ℕ) (w v : World) → WorldWorks commits w v → AllLengthen w.nodes v.nodes
  work_longer commits w v work q z at =
      let x = get_beside v.nodes w.nodes q z work.nodes at in
      let n = get_beside w.nodes work.counts q x.0 (sym work.counted) x.1 in
      let each = work.each q n.0 x.0 z n.1 x.1 at in
      (x.0, x.1, record { begins = λ l may. let b = each.lists l may in (b.0, b.1, b.2.more, b.2.front); openable = each.stays.openable })

  pub attains_leads : (w v : World) → Attains e w v → Leads e w v
  attains_leads w v (by_steps reaches) = reaches_leads e w v reaches
  attains_leads w v (by_work {u = u} {x = x} commits before work coherent reaches) =
      let first = attains_leads w u before in
      let last = reaches_leads e x v reaches in
      let to_work = all_then w.nodes u.nodes x.nodes first.longer (work_longer commits u x work) in
      record { coherent = λ was. last.coherent coherent; longer = all_then w.nodes x.nodes v.nodes to_work last.longer }

  -- where every node could be opened, every node still can
  pub attained_openable : (w v : World) → Attains e w v → AreOpenable w → AreOpenable v
  attained_openable w v attains on q y at = let x = (attains_leads w v attains).longer q y at in x.2.openable (on q x.0 x.1)

  -- the journal chosen for a node, and the one of before with which it begins
  pub later : (w v : World) (lists : List (List (List ℕ))) (p : ℕ) (x : NodeWorld) → Coherent e w → Leads e w v → Choice v lists → slice_get w.nodes p ≡ Some x → Later e x p v.now lists
  later w v lists p x coherent leads choice there =
      let after : Coherent e v = leads.coherent coherent in
      let y = get_beside w.nodes v.nodes p x (coherent.count ∙ sym after.count) there in
      let l = get_beside v.nodes lists p y.0 (sym choice.count) y.1 in
      let may = choice.each p y.0 l.0 y.1 l.1 in
      let back = leads.longer p y.0 y.1 in
      let mine : back.0 ≡ x = some_eq (sym back.1 ∙ there) in
      let old = back.2.begins l.0 may in
      record {
        journal = l.0;
        there = l.1;
        sound = (after.each p y.0 y.1).every l.0 may;
        old = old.0;
        spelt = subst (λ (z : NodeWorld). MaySpell z old.0) mine old.1;
        rest = old.2;
        begins = old.3;
      }

pub attained_are_coherent : {F : Type 0} → AttainedAreCoherent F
attained_are_coherent e w v coherent attains = (attains_leads e w v attains).coherent coherent

pub acknowledged_is_kept : {F : Type 0} → AcknowledgedIsKept F
acknowledged_is_kept e w v coherent attains lists choice p cause known =
    let k = later e w v lists p known.node coherent (attains_leads e w v attains) choice known.there in
    let was = known.each k.old k.spelt in
    stands_later e known.node p v.now lists k was.0 cause was.1

-- ---- nodes that were worked on

-- lists with the same at each place
same_lists : {X : Type 0} (xs ys : List X) → length ys ≡ length xs → ((p : ℕ) (x y : X) → slice_get xs p ≡ Some x → slice_get ys p ≡ Some y → y ≡ x) → ys ≡ xs
same_lists [] [] count each = refl
same_lists [] (y ∷ ys) count each = absurd (omega (arith, count))
same_lists (x ∷ xs) [] count each = absurd (omega (arith, count))
same_lists (x ∷ xs) (y ∷ ys) count each = (λ i. each 0 x y refl refl i ∷ same_lists xs ys (omega (arith, count)) (λ p a b at there. each (suc p) a b at there) i)

module _ {F : Type 0} (m : Meaning F) (now commits : ℕ) (came nodes : List NodeSeen) (waited waiting : List (List Frame)) (w : Works m now came waited nodes waiting commits) where
  -- each went on by its own history
  pub each_lasts : (p : ℕ) (n k : NodeSeen) → slice_get came p ≡ Some n → slice_get nodes p ≡ Some k → (count : ℕ) × Lasts count n k
  each_lasts p n k old new =
      let log = get_beside nodes w.logs p k (sym w.logged) new in
      let did = w.each p k log.0 new log.1 in
      let from_is : did.0 ≡ n = some_eq (sym did.1 ∙ old) in
      let lasts = (histories_last m now did.0 k log.0.took log.0.sent log.0.count did.2).0 in
      (log.0.count, subst (λ (z : NodeSeen). Lasts log.0.count z k) from_is lasts)

  -- and its disk is attached as it was
  pub names_stay : names_of nodes ≡ names_of came
  names_stay =
      same_lists (names_of came) (names_of nodes) (length-map nodes name_of ∙ w.count ∙ sym (length-map came name_of))
      (λ p x y at there.
      let n = of_map name_of came p x at in
      let k = of_map name_of nodes p y there in
      sym k.2 ∙ (each_lasts p n.0 k.0 n.1 k.1).1.attached ∙ n.2)

module _ {F : Type 0} (e : Environment F) (count p : ℕ) (n k : NodeSeen) (x : NodeWorld) (shows : NodeShows e p n x) (lasts : Lasts count n k) where
  -- each image of a node that is up spells its journal
  holds_shown : HoldsJournal n
  holds_shown bodies up tells c image =
      let stands : ShowsJournal (Some bodies) x = rw up at shows.journal in
      only_journal x (journal_of c) stands.2 (shows.images c image) ∙ stands.1

  begins_up : (bodies : List (List ℕ)) → n.journal ≡ Some bodies → (c : List ℕ) → IsImage k.disk.state.now c → Begins e n c
  begins_up bodies up c image =
      let b = n.disk.state.now.synced in
      let was = synced_image n.disk.state.now in
      let spelt : journal_of b ≡ bodies = holds_shown bodies up shows.tells b was in
      let s = at_now n.disk.state k.disk.state _ ((lasts.images holds_shown bodies up).images shows.tells) c image in
      let is : journal_of c ≡ journal_of b ++ s.more = s.on ∙ ap (λ (l : List (List ℕ)). l ++ s.more) (sym spelt) in
      (b, was, causes_of e.frame_at s.more, ap (causes_of e.frame_at) is ∙ causes_append e.frame_at (journal_of b) s.more)

  begins_down : n.journal ≡ None → (c : List ℕ) → IsImage k.disk.state.now c → Begins e n c
  begins_down down c image =
      let same = (lasts.down down).0 in
      (c, subst (λ (z : NodeSeen). IsImage z.disk.state.now c) same image, [], sym (append-nil (causes_of e.frame_at (journal_of c))))

  begins_by : (journal : Option (List (List ℕ))) → n.journal ≡ journal → (c : List ℕ) → IsImage k.disk.state.now c → Begins e n c
  begins_by None is c image = begins_down is c image
  begins_by (Some bodies) is c image = begins_up bodies is c image

  work_begins : (c : List ℕ) → IsImage k.disk.state.now c → Begins e n c
  work_begins c image = begins_by n.journal refl c image

  work_young : IsOpenable n.identity n.disk → (c : List ℕ) → IsImage k.disk.state.now c → IsYoung n.identity c
  work_young all c image = at_now n.disk.state k.disk.state (IsYoung n.identity) (lasts.form.young shows.tells all) c image

  work_sound : AreSound n → (c : List ℕ) → IsImage k.disk.state.now c → IsSound n.identity c
  work_sound all c image = at_now n.disk.state k.disk.state (IsSound n.identity) (lasts.form.sound shows.tells all) c image

-- ---- ways one after another

module _ {F : Type 0} (m : Meaning F) (id : Identity) where
  abbrev e : Environment F
  e = environment m id

  pub way_then : (a b c : Pair e) → Way m id a b → Way m id b c → Way m id a c
  way_then a b c one (stay is) = subst (Way m id a) (sym is) one
  way_then a b c one (by_part {b = d} p o way does) = by_part p o (way_then a b d one way) does
  way_then a b c one (by_step {b = d} s o way drain answered serve) = by_step s o (way_then a b d one way) drain answered serve

  -- a way more
  pub passage_on : (a b c : Pair e) → Passage m id a b → Way m id b c → Passage m id a c
  passage_on a b c (goes one) way = goes (way_then a b c one way)
  passage_on a b c (works {c = d} commits before work one) way = works commits before work (way_then d b c one way)

  pub passage_then : (a b c : Pair e) → Passage m id a b → Passage m id b c → Passage m id a c
  passage_then a b c one (goes way) = passage_on a b c one way
  passage_then a b c one (works {b = d} commits before work way) = works commits (passage_then a b d one before) work way

  -- ---- how many times the nodes were worked on

  times_on : (a b c : Pair e) (one : Passage m id a b) (way : Way m id b c) → times_worked (passage_on a b c one way) ≡ times_worked one
  unfolding passage_on
  times_on a b c (goes one) way = refl
  times_on a b c (works commits before work one) way = refl

  pub times_then : (a b c : Pair e) (one : Passage m id a b) (two : Passage m id b c) → times_worked (passage_then a b c one two) ≡ times_worked one + times_worked two
  unfolding passage_then
  times_then a b c one (goes way) = let is = times_on a b c one way in omega (arith, is)
  times_then a b c one (works {b = d} commits before work way) = let is = times_then a b d one before in omega (arith, is)

  none_worked : (a b : Pair e) (passage : Passage m id a b) → times_worked passage ≡ 0 → (way : Way m id a b) × (passage ≡ goes way)
  none_worked a b (goes way) is = (way, refl)
  none_worked a d (works commits before work way) is = absurd (omega (arith, is))

  -- ---- moments

  -- the last moment of a way is on it
  way_end : (a b : Pair e) (way : Way m id a b) → IsOn way (now_of b.net)
  way_end a b (stay is) = ap (λ (z : Pair e). now_of z.net) is
  way_end a c (by_part {b = b} p o way does) = inr (now_between e b.world b.net c.net b.shows b.coherent (part_link m id p o b c does))
  way_end a c (by_step {b = b} s o way drain answered serve) = inr (now_between e b.world b.net c.net b.shows b.coherent (step_link m id b.net c.net b.world b.shows b.coherent s (answer_of o) drain answered))

  passage_end : (a b : Pair e) (passage : Passage m id a b) → IsPassed passage (now_of b.net)
  passage_end a b (goes way) = way_end a b way
  passage_end a d (works {c = c} commits before work way) = inr (way_end c d way)

  -- both networks have all nodes, each with its identity
  same_count : (a b : Pair e) → length b.net.nodes ≡ length a.net.nodes
  same_count a b = sym b.shows.count ∙ b.coherent.count ∙ sym a.coherent.count ∙ a.shows.count

  same_identity : (a b : Pair e) (q : ℕ) (n k : NodeSeen) → slice_get a.net.nodes q ≡ Some n → slice_get b.net.nodes q ≡ Some k → k.identity ≡ n.identity
  same_identity a b q n k at after =
      let x = get_beside a.net.nodes a.world.nodes q n (sym a.shows.count) at in
      let z = get_beside b.net.nodes b.world.nodes q k (sym b.shows.count) after in
      (b.shows.each q k z.0 after z.1).identity_is ∙ sym (a.shows.each q n x.0 at x.1).identity_is

  now_there : (b : Pair e) (q : ℕ) (k : NodeSeen) → slice_get b.net.nodes q ≡ Some k → slice_get (now_of b.net) q ≡ Some k.disk.state.now
  now_there b q k at = get_map (λ (z : NodeSeen). z.disk.state.now) b.net.nodes q k at

  -- what is kept of what is kept
  then_kept : (a b : Pair e) (s : Instant) → IsKept e a.net (now_of b.net) → IsKept e b.net s → IsKept e a.net s
  then_kept a b s first second = record {
    count = second.count ∙ same_count a b;
    faithful = second.faithful;
    world = second.world;
    begins = λ q n d c at has image.
        let k = get_beside a.net.nodes b.net.nodes q n (sym (same_count a b)) at in
        let late = second.begins q k.0 d c k.1 has image in
        let early = first.begins q n k.0.disk.state.now late.0 at (now_there b q k.0 k.1) late.1 in
        (early.0, early.1, early.2 ++ late.2, late.3 ∙ ap (λ (l : List Cause). l ++ late.2) early.3 ∙ append_assoc (causes_of e.frame_at (journal_of early.0)) early.2 late.2);
    sound = λ q n d c at all has image.
        let k = get_beside a.net.nodes b.net.nodes q n (sym (same_count a b)) at in
        let id_is : k.0.identity ≡ n.identity = same_identity a b q n k.0 at k.1 in
        let now : AreSound k.0 = λ g on. subst (λ (i : Identity). IsSound i g) (sym id_is) (first.sound q n k.0.disk.state.now g at all (now_there b q k.0 k.1) on) in
        subst (λ (i : Identity). IsSound i c) id_is (second.sound q k.0 d c k.1 now has image);
    young = λ q n d c at all has image.
        let k = get_beside a.net.nodes b.net.nodes q n (sym (same_count a b)) at in
        let id_is : k.0.identity ≡ n.identity = same_identity a b q n k.0 at k.1 in
        let now : IsOpenable k.0.identity k.0.disk = λ g on. subst (λ (i : Identity). IsYoung i g) (sym id_is) (first.young q n k.0.disk.state.now g at all (now_there b q k.0 k.1) on) in
        subst (λ (i : Identity). IsYoung i c) id_is (second.young q k.0 d c k.1 now has image);
  }

  -- a node before the work, and its disk after it
  record AfterWork (q : ℕ) (n : NodeSeen) (d : Durable) : Type 0 where
    count : ℕ
    last : NodeSeen
    lasts : Lasts count n last
    now : last.disk.state.now ≡ d
    world : NodeWorld
    shows : NodeShows e q n world

  worked : (commits : ℕ) (a b : Pair e) → PairWorks m id commits a b → (q : ℕ) (n : NodeSeen) (d : Durable) → slice_get a.net.nodes q ≡ Some n → slice_get (now_of b.net) q ≡ Some d → AfterWork q n d
  worked commits a b work q n d at has =
      let k = of_map (λ (z : NodeSeen). z.disk.state.now) b.net.nodes q d has in
      let on = each_lasts m a.net.now commits a.net.nodes b.net.nodes a.net.waiting b.net.waiting work.works q n k.0 at k.1 in
      let x = get_beside a.net.nodes a.world.nodes q n (sym a.shows.count) at in
      record { count = on.0; last = k.0; lasts = on.1; now = k.2; world = x.0; shows = a.shows.each q n x.0 at x.1 }

  -- what the disks may leave once the work is done
  works_kept : (commits : ℕ) (a b : Pair e) → PairWorks m id commits a b → IsKept e a.net (now_of b.net)
  works_kept commits a b work = record {
    count = length-map b.net.nodes (λ (z : NodeSeen). z.disk.state.now) ∙ same_count a b;
    faithful = (kept_on_ways m id b b (stay refl) (now_of b.net) refl).faithful;
    world = (kept_on_ways m id b b (stay refl) (now_of b.net) refl).world;
    begins = λ q n d c at has image.
        let k = worked commits a b work q n d at has in
        work_begins e k.count q n k.last k.world k.shows k.lasts c (subst (λ (z : Durable). IsImage z c) (sym k.now) image);
    sound = λ q n d c at all has image.
        let k = worked commits a b work q n d at has in
        work_sound e k.count q n k.last k.world k.shows k.lasts all c (subst (λ (z : Durable). IsImage z c) (sym k.now) image);
    young = λ q n d c at all has image.
        let k = worked commits a b work q n d at has in
        work_young e k.count q n k.last k.world k.shows k.lasts all c (subst (λ (z : Durable). IsImage z c) (sym k.now) image);
  }

  kept : (a b : Pair e) (passage : Passage m id a b) (s : Instant) → IsPassed passage s → IsKept e a.net s
  kept a b (goes way) s on = kept_on_ways m id a b way s on
  kept a d (works {b = b} {c = c} commits before work way) s (inl on) = kept a b before s on
  kept a d (works {b = b} {c = c} commits before work way) s (inr on) =
      let over = then_kept a b (now_of c.net) (kept a b before (now_of b.net) (passage_end a b before)) (works_kept commits b c work) in
      then_kept a c s over (kept_on_ways m id c d way s on)

-- ---- the laws

pub unworked_are_ways : {F : Type 0} → UnworkedAreWays F
unworked_are_ways m id a b passage is = none_worked m id a b passage is

pub kept_on_passages : {F : Type 0} → KeptOnPassages F
kept_on_passages m id a b passage s on = kept m id a b passage s on

pub acknowledged_on_passages : {F : Type 0} → AcknowledgedOnPassages F
acknowledged_on_passages m id a b passage s on images choice p cause known =
    stands_at (environment m id) a.net a.world a.shows a.coherent s (kept_on_passages m id a b passage s on) images choice p cause known
