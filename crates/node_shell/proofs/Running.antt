-- All disks of a run, by those of its nodes.
use Rattle.std.proofs.Common.{◌≡◌, inl, ℕ, ◌+◌, ◌++◌, List, length, map, take, drop, Some, sym, ◌∙◌, ap, subst}
use Rattle.std.specs.List.{slice_get}
use Rattle.std.proofs.lemmas.Option.{same_Some}
use Rattle.std.proofs.lemmas.List.{length-append, map-append}
use Rattle.outside.specs.Disk.{AttachedAs, DiskSeen}
use Rattle.net_base.proofs.Lists.{get_map, map_both}
use Rattle.node_core.specs.Disks.{attached_as}
use Rattle.node_shell.specs.Runs.{OneFails, SomeFails, AllStay, StaysBeside}
use Rattle.node_shell.proofs.Fronts.{first_at, front, behind}
use Rattle.node_shell.proofs.Readying.{stay_same, beside_same}

-- the disks of the nodes were taken out, and others, as many, were put back
pub record Handed {X : Type 0} (n : ℕ) (ready own rest back ends : List X) : Type 0 where
  pub all : length ready ≡ 16
  pub taken : own ++ rest ≡ ready
  pub count : length own ≡ n
  pub same : length back ≡ length own
  pub put : ends ≡ back ++ rest

module _ {X : Type 0} (seen : X → DiskSeen) (n : ℕ) (ready own rest back ends : List X) (h : Handed n ready own rest back ends) where
  both : length own + length rest ≡ 16
  both = sym (length-append own rest) ∙ ap length h.taken ∙ h.all

  mid : take n (map seen ready) ≡ map seen own
  mid = front seen own rest ready n h.taken h.count

  pub last : take n (map seen ends) ≡ map seen back
  last = front seen back rest ends n (sym h.put) (h.same ∙ h.count)

  pub last_count : length ends ≡ 16
  last_count = ap length h.put ∙ length-append back rest ∙ ap (λ k. k + length rest) h.same ∙ both

  pub last_behind : drop n ends ≡ drop n ready
  last_behind = behind seen back rest ends n (sym h.put) (h.same ∙ h.count) ∙ sym (behind seen own rest ready n h.taken h.count)

  abbrev name : X → AttachedAs
  name x = (seen x).attached

  -- each disk is attached as it was when all were made ready, and the one beside it is as it was, where this is so of those that were put back
  pub last_attached : attached_as (map seen back) ≡ attached_as (map seen own) → attached_as (map seen ends) ≡ attached_as (map seen ready)
  last_attached kept =
      let all = λ (l : List X). map_both (λ (d : DiskSeen). d.attached) seen l in
      let firsts_same : map name back ≡ map name own = sym (all back) ∙ kept ∙ all own in
      let whole : map name ends ≡ map name ready =
      ap (map name) h.put ∙ map-append name back rest ∙ ap (λ l. l ++ map name rest) firsts_same ∙ sym (map-append name own rest) ∙ ap (map name) h.taken in
      all ends ∙ whole ∙ sym (all ready)

  pub last_second : attached_as (map seen back) ≡ attached_as (map seen own) → (p : ℕ) (d e : DiskSeen) → slice_get (map seen ready) p ≡ Some d → slice_get (map seen ends) p ≡ Some e → StaysBeside d.attached.beside e.attached.beside
  last_second kept p d e at there =
      let named = λ (l : List DiskSeen) (x : DiskSeen) (is : slice_get l p ≡ Some x). get_map (λ (k : DiskSeen). k.attached) l p x is in
      let same : e.attached ≡ d.attached = same_Some _ _ (sym (named (map seen ends) e there) ∙ ap (λ l. slice_get l p) (last_attached kept) ∙ named (map seen ready) d at) in
      beside_same d.attached.beside e.attached.beside (ap (λ (a : AttachedAs). a.beside) same)

  -- the disks of the nodes are those that were made ready
  pub own_stay : AllStay (take n (map seen ready)) (map seen own)
  own_stay = subst (AllStay (take n (map seen ready))) mid (stay_same (take n (map seen ready)))

  pub one_failed : OneFails n (map seen own) (map seen back) → SomeFails n (map seen ready) (map seen ends)
  one_failed fails =
      let old = first_at n (map seen ready) fails.place fails.before (ap (λ l. slice_get l fails.place) mid ∙ fails.at) in
      let new = first_at n (map seen ends) fails.place fails.after (ap (λ l. slice_get l fails.place) last ∙ fails.now) in
      record { place = fails.place; own = fails.own; before = fails.before; after = fails.after; at = old.1; now = new.1; is = inl fails.is }
