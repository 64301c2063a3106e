-- Whatever power cuts leave at any moment on a way.
use Rattle.std.proofs.Common.{◌≡◌, ⊎_elim, ℕ, List, ◌++◌, length, Some, refl, sym, ◌∙◌, ap, subst, append_assoc}
use Rattle.std.specs.List.{slice_get}
use Rattle.std.proofs.lemmas.Option.{same_Some}
use Rattle.net_base.specs.declared.names.Identity.{Identity}
use Rattle.net_base.specs.declared.causes.Cause.{Cause}
use Rattle.net_base.proofs.Lists.{get_beside, get_map}
use Rattle.disk_journal.specs.Journal.{IsSound, IsYoung, journal_of}
use Rattle.net_model.specs.Environment.{Environment, environment, Meaning}
use Rattle.node_tables.specs.Journals.{causes_of}
use Rattle.node_core.specs.Disks.{IsOpenable}
use Rattle.node_core.specs.Seen.{NodeSeen}
use Rattle.network_core.specs.Worlds.{World, NetSeen, Shows, Coherent}
use Rattle.network_core.specs.Answers.{answer_of}
use Rattle.network_core.specs.Moments.{Instant, now_of, OneMoves, AreSound, IsKept}
use Rattle.network_core.specs.Drains.{Pair}
use Rattle.network_core.specs.Ways.{Way, stay, by_part, by_step, IsOn, KeptOnWays, WaysMoveOneByOne}
use Rattle.network_core.proofs.KeepingLinks.{Link, each_goes, now_between, kept_between}
use Rattle.network_core.proofs.KeepingSteps.{still, step_link, part_link}

-- a network leads to one in which each node has its identity, and what its disks may leave now is kept
pub record Along {F : Type 0} (e : Environment F) (old new : NetSeen) : Type 0 where
  pub count : length new.nodes ≡ length old.nodes
  pub same : (q : ℕ) (n k : NodeSeen) → slice_get old.nodes q ≡ Some n → slice_get new.nodes q ≡ Some k → k.identity ≡ n.identity
  pub now : IsKept e old (now_of new)

module _ {F : Type 0} (e : Environment F) where
  -- what is kept of what is kept
  then_kept : (a b : NetSeen) (s : Instant) → Along e a b → IsKept e b s → IsKept e a s
  then_kept a b s along kept = record {
    count = kept.count ∙ along.count;
    faithful = kept.faithful;
    world = kept.world;
    begins = λ q n d c at has image.
        let k = get_beside a.nodes b.nodes q n (sym along.count) at in
        let second = kept.begins q k.0 d c k.1 has image in
        let first = along.now.begins q n k.0.disk.state.now second.0 at (get_map (λ (z : NodeSeen). z.disk.state.now) b.nodes q k.0 k.1) second.1 in
        (first.0, first.1, first.2 ++ second.2, second.3 ∙ ap (λ (l : List Cause). l ++ second.2) first.3 ∙ append_assoc (causes_of e.frame_at (journal_of first.0)) first.2 second.2);
    sound = λ q n d c at all has image.
        let k = get_beside a.nodes b.nodes q n (sym along.count) at in
        let id : k.0.identity ≡ n.identity = along.same q n k.0 at k.1 in
        let now : AreSound k.0 = λ g on. subst (λ (i : Identity). IsSound i g) (sym id) (along.now.sound q n k.0.disk.state.now g at all (get_map (λ (z : NodeSeen). z.disk.state.now) b.nodes q k.0 k.1) on) in
        subst (λ (i : Identity). IsSound i c) id (kept.sound q k.0 d c k.1 now has image);
    young = λ q n d c at all has image.
        let k = get_beside a.nodes b.nodes q n (sym along.count) at in
        let id : k.0.identity ≡ n.identity = along.same q n k.0 at k.1 in
        let now : IsOpenable k.0.identity k.0.disk = λ g on. subst (λ (i : Identity). IsYoung i g) (sym id) (along.now.young q n k.0.disk.state.now g at all (get_map (λ (z : NodeSeen). z.disk.state.now) b.nodes q k.0 k.1) on) in
        subst (λ (i : Identity). IsYoung i c) id (kept.young q k.0 d c k.1 now has image);
  }

  begin_along : (a : NetSeen) (w : World) → Shows e a w → Coherent e w → Along e a a
  begin_along a w shows coherent =
      let link = still e w a a refl in
      record {
        count = refl;
        same = λ q n k at after. ap (λ (z : NodeSeen). z.identity) (same_Some _ _ (sym after ∙ at));
        now = kept_between e w a a shows coherent link (now_of a) (now_between e w a a shows coherent link);
      }

  then_along : (a b c : NetSeen) (w : World) → Shows e b w → Coherent e w → Along e a b → Link e w b c → Along e a c
  then_along a b c w shows coherent along link = record {
    count = link.count ∙ along.count;
    same = λ q n k at after.
        let mid = get_beside a.nodes b.nodes q n (sym along.count) at in
        (each_goes e w b c shows coherent link q mid.0 k mid.1 after).identity_is ∙ along.same q n mid.0 at mid.1;
    now = then_kept a b (now_of c) along (kept_between e w b c shows coherent link (now_of c) (now_between e w b c shows coherent link));
  }

module _ {F : Type 0} (m : Meaning F) (id : Identity) where
  abbrev e : Environment F
  e = environment m id

  along : (a b : Pair e) → Way m id a b → Along e a.net b.net
  along a b (stay is) = subst (λ (z : Pair e). Along e a.net z.net) (sym is) (begin_along e a.net a.world a.shows a.coherent)
  along a c (by_part {b = b} p o way does) = then_along e a.net b.net c.net b.world b.shows b.coherent (along a b way) (part_link m id p o b c does)
  along a c (by_step {b = b} s o way drain answered serve) = then_along e a.net b.net c.net b.world b.shows b.coherent (along a b way) (step_link m id b.net c.net b.world b.shows b.coherent s (answer_of o) drain answered)

  kept : (a b : Pair e) (way : Way m id a b) (s : Instant) → IsOn way s → IsKept e a.net s
  kept a b (stay is) s on = subst (IsKept e a.net) (sym on) (begin_along e a.net a.world a.shows a.coherent).now
  kept a c (by_part {b = b} p o way does) s on =
      ⊎_elim (λ before. kept a b way s before) (λ between. then_kept e a.net b.net s (along a b way) (kept_between e b.world b.net c.net b.shows b.coherent (part_link m id p o b c does) s between)) on
  kept a c (by_step {b = b} st o way drain answered serve) s on =
      ⊎_elim (λ before. kept a b way s before) (λ between. then_kept e a.net b.net s (along a b way) (kept_between e b.world b.net c.net b.shows b.coherent (step_link m id b.net c.net b.world b.shows b.coherent st (answer_of o) drain answered) s between)) on

pub kept_on_ways : {F : Type 0} → KeptOnWays F
kept_on_ways m id a b way s on = kept m id a b way s on

-- ---- one disk at a time

one_moves : {F : Type 0} (e : Environment F) (w : World) (old new : NetSeen) → Link e w old new → OneMoves old new
one_moves e w old new link = record {
  count = link.count;
  place = link.place;
  rest = λ q n k at after other. ap (λ (z : NodeSeen). z.disk.state) (link.rest q n k at after other);
  goes = λ n k at after. let g = (link.goes n k at after).images in (g.since, g.past);
}

pub ways_move_one_by_one : {F : Type 0} → WaysMoveOneByOne F
ways_move_one_by_one m id a b (stay is) = tt
ways_move_one_by_one m id a c (by_part {b = b} p o way does) = (ways_move_one_by_one m id a b way, one_moves (environment m id) b.world b.net c.net (part_link m id p o b c does))
ways_move_one_by_one m id a c (by_step {b = b} s o way drain answered serve) =
    (ways_move_one_by_one m id a b way, one_moves (environment m id) b.world b.net c.net (step_link m id b.net c.net b.world b.shows b.coherent s (answer_of o) drain answered))
