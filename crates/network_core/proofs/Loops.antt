-- The loops by which a network begins, and gives its disks back.
use Rattle.std.proofs.Common.{◌≡◌, inl, inr, ⊎_elim, ℕ, ◌+◌, max, ◌<◌, ◌≤◌, List, [], ◌∷◌, ◌++◌, length, map, Option, Some, None, Result, Ok, Err, refl, sym, ◌∙◌, ap, subst, arith, slice_set}
use Rattle.std.specs.List.{slice_get, AllByRecursion}
use Rattle.std.proofs.lemmas.Bool.{cases_lt}
use Rattle.network_core.proofs.Placing.{set_here, set_apart}
use Rattle.outside.specs.Disk.{DiskSeen}
use Rattle.net_base.specs.declared.values.Party.{Party}
use Rattle.net_base.specs.declared.values.Moment.{Moment}
use Rattle.net_base.proofs.Lists.{set_length, get_there, get_other}
use Rattle.node_core.specs.declared.faults.BootFault.{BootFault}
use Rattle.node_tables.specs.Journals.{Reads}
use Rattle.node_core.specs.Disks.{roomless}
use Rattle.node_core.specs.Seen.{NodeSeen, BootsAs, IsBy}
use Rattle.network_core.specs.Begins.{came_up, no_boot, IsLast, BootsUpTo, BootStops, nodes_over}

-- ---- the nodes over disks

-- the nodes made so far, and those over the disks that are left, are all
pub record Making {D : Type 0} (seen : D → DiskSeen) (nodes : ℕ) (notary : Party) (all : List D) (made : List NodeSeen) (place : ℕ) (left : List D) : Type 0 where
  pub all_of : made ++ nodes_over nodes notary place (map seen left) ≡ nodes_over nodes notary 0 (map seen all)
  pub count : length made ≡ place
  pub rest : place + length left ≡ length all

-- ---- the disks of nodes

-- the disks so far, and those of the nodes that are left, are all
pub record Handing {D : Type 0} (seen : D → DiskSeen) (all : List NodeSeen) (disks : List D) (left : List NodeSeen) : Type 0 where
  pub all_of : map (λ d. roomless (seen d)) disks ++ map (λ n. n.disk) left ≡ map (λ n. n.disk) all
  pub rest : length disks + length left ≡ length all

-- ---- moments

pub by_later : {F : Type 0} (f : Reads F) (journal : Option (List (List ℕ))) (now later : ℕ) → now ≤ later → IsBy f journal now → IsBy f journal later
by_later f None now later le by = tt
by_later f (Some b) now later le by = omega (arith, le, by)

pub by_last : {F : Type 0} (f : Reads F) (journal : Option (List (List ℕ))) (last later : ℕ) → IsLast f journal last → last ≤ later → IsBy f journal later
by_last f None last later is le = tt
by_last f (Some b) last later is le = omega (arith, is, le)

-- ---- boots in order

module _ {F : Type 0} (f : Reads F) (old : List NodeSeen) where
  pub boots_more : (place now last later : ℕ) (cur : List NodeSeen) (n k : NodeSeen) (answer : Result Moment BootFault) (m : Moment) → BootsUpTo f place now old cur → slice_get cur place ≡ Some n → BootsAs f n answer k → answer ≡ Ok m → IsLast f k.journal last → later ≡ max now last
      → BootsUpTo f (place + 1) later old (slice_set cur place k)
  boots_more place now last later cur n k answer m b at boots is known raised =
      let up : BootsAs f n came_up k = subst (λ (r : Result Moment BootFault). BootsAs f n r k) is boots in
      record {
        count = set_length cur place k ∙ b.count;
        done = λ p a c lt i j. ⊎_elim
            (λ below. b.done p a c below i (set_apart cur place p k c (λ s. absurd (omega (arith, s, below))) j))
            (λ above. let here : p ≡ place = omega (arith, above, lt) in
            let mine : c ≡ k = set_here cur place k c (subst (λ (q : ℕ). slice_get (slice_set cur place k) q ≡ Some c) here j) in
            let first : n ≡ a = b.rest place a n (omega arith) (subst (λ (q : ℕ). slice_get old q ≡ Some a) here i) at in
            rw (mine, ← first) up)
            (cases_lt p place);
        rest = λ p a c le i j. b.rest p a c (omega (arith, le)) i (set_apart cur place p k c (λ s. absurd (omega (arith, s, le))) j);
        latest = λ p a c lt i j. ⊎_elim
            (λ below. by_later f c.journal now later (omega (arith, raised)) (b.latest p a c below i (set_apart cur place p k c (λ s. absurd (omega (arith, s, below))) j)))
            (λ above. let here : p ≡ place = omega (arith, above, lt) in
            let mine : c ≡ k = set_here cur place k c (subst (λ (q : ℕ). slice_get (slice_set cur place k) q ≡ Some c) here j) in
            rw mine (by_last f k.journal last later known (omega (arith, raised))))
            (cases_lt p place);
        reached = ⊎_elim
            (λ less. inr (place, k, omega arith, get_there cur place n k at, subst (λ (t : ℕ). IsLast f k.journal t) (omega (arith, raised, less)) known))
            (λ le. let same : now ≡ later = omega (arith, raised, le) in
            ⊎_elim
            (λ none. inl (sym same ∙ none))
            (λ (p, c, below, i, was). inr (p, c, omega (arith, below), get_other cur place k p (λ s. absurd (omega (arith, s, below))) ∙ i, subst (λ (t : ℕ). IsLast f c.journal t) same was))
            b.reached)
            (cases_lt now last);
      }

  pub boots_stop : (place now : ℕ) (cur : List NodeSeen) (n k : NodeSeen) (answer : Result Moment BootFault) (why : BootFault) → BootsUpTo f place now old cur → slice_get cur place ≡ Some n → BootsAs f n answer k → answer ≡ Err why → place < length old
      → BootStops f place why old (slice_set cur place k)
  boots_stop place now cur n k answer why b at boots is within =
      let no : BootsAs f n (no_boot why) k = subst (λ (r : Result Moment BootFault). BootsAs f n r k) is boots in
      record {
        count = set_length cur place k ∙ b.count;
        within = within;
        done = λ p a c lt i j. b.done p a c lt i (set_apart cur place p k c (λ s. absurd (omega (arith, s, lt))) j);
        refused = λ a c i j.
            let mine : c ≡ k = set_here cur place k c j in
            let first : n ≡ a = b.rest place a n (omega arith) i at in
            rw (mine, ← first) no;
        rest = λ p a c lt i j. b.rest p a c (omega (arith, lt)) i (set_apart cur place p k c (λ s. absurd (omega (arith, s, lt))) j);
      }

-- ---- frames that wait

-- lists without frames are as those of as many others
pub none_wait : {X Y : Type 0} (g : X → List (List ℕ)) (xs : List X) (ys : List Y) → length xs ≡ length ys → AllByRecursion (λ x. g x ≡ []) xs → map g xs ≡ map (λ (y : Y). []) ys
none_wait g [] [] same all = refl
none_wait g [] (y ∷ ys) same all = cc
none_wait g (x ∷ xs) [] same all = cc
none_wait g (x ∷ xs) (y ∷ ys) same all = ap (λ a. a ∷ map g xs) all.0 ∙ ap (λ l. [] ∷ l) (none_wait g xs ys (omega (arith, same)) all.1)
