-- Nodes' disks that are made ready, one node after the other.
use Rattle.std.proofs.Common.{◌≡◌, ◌⊎◌, inl, inr, ⊎_elim, ℕ, ◌+◌, false, List, length, map, take, Option, Some, None, refl, sym, ◌∙◌, ap, subst, arith, slice_set}
use Rattle.std.specs.Prelude.{◌<◌, ◌≤◌, option_and_then}
use Rattle.std.specs.Option.{option_map_or}
use Rattle.std.specs.List.{slice_get}
use Rattle.std.proofs.lemmas.Bool.{cases_lt}
use Rattle.std.proofs.lemmas.Option.{same_Some}
use Rattle.std.proofs.lemmas.List.{length-map}
use Rattle.net_base.proofs.Lists.{get_there, get_other, map_set, set_length, get_beside, get_map, get_set, of_map}
use Rattle.outside.specs.Disk.{AttachedAs, DiskAlone, DiskSeen}
use Rattle.outside.specs.Faults.{Rose}
use Rattle.node_core.specs.Disks.{attached_as}
use Rattle.node_shell.specs.Names.{faults_beside}
use Rattle.node_shell.specs.Runs.{Fails, FailsBeside, One, SomeFails, SomeRises, StaysBut, StaysBeside, AllStay, SecondsStay, NoneFalls, StayIn, HasNames, HasFirstName, KeepsNames, AreNamed, StopsNaming}
use Rattle.node_shell.proofs.Fronts.{first_at, first_count}

-- ---- counts of faults

-- a count that rose since it was raised rose
rose_since : (a b c : ℕ) → a ≤ b → Rose b c → Rose a c
rose_since a b c first then = omega (arith, first, then)

pub fails_since : (d k b : DiskSeen) → StaysBut d k → Fails k b → Fails d b
fails_since d k b stays f = record { rose = rose_since d.faults k.faults b.faults stays.1 f.rose; uneasy = λ calm. f.uneasy (ap (λ (x : DiskSeen). x.calm) stays.0 ∙ calm) }

-- ---- the disk beside

pub beside_same : (a b : Option DiskAlone) → b ≡ a → StaysBeside a b
beside_same None b same = same
beside_same (Some d) None same = absurd cc
beside_same (Some d) (Some e) same = let is : e ≡ d = same_Some _ _ same in subst (λ (x : DiskAlone). StaysBeside (Some d) (Some x)) (sym is) (refl, omega arith)

pub beside_then : (a b c : Option DiskAlone) → StaysBeside a b → StaysBeside b c → StaysBeside a c
beside_then None None c one two = two
beside_then None (Some e) c one two = absurd cc
beside_then (Some d) None c one two = absurd one
beside_then (Some d) (Some e) None one two = absurd two
beside_then (Some d) (Some e) (Some f) one two = (two.0 ∙ ap (λ (x : DiskAlone). record x { faults = f.faults; attached = f.attached }) one.0, omega (arith, one.1, two.1))

-- what no making ready changes of it but that its count may rise
beside_later : (a b : Option DiskAlone) → StaysBeside a b → option_map_or (λ (s : DiskAlone). s.faults) a 0 ≤ option_map_or (λ (s : DiskAlone). s.faults) b 0
beside_later None b stays = omega arith
beside_later (Some d) None stays = absurd stays
beside_later (Some d) (Some e) stays = stays.1

beside_calm : (a b : Option DiskAlone) → StaysBeside a b → option_map_or (λ (s : DiskAlone). s.calm) b false ≡ option_map_or (λ (s : DiskAlone). s.calm) a false
beside_calm None b stays = ap (λ o. option_map_or (λ (s : DiskAlone). s.calm) o false) stays
beside_calm (Some d) None stays = absurd stays
beside_calm (Some d) (Some e) stays = ap (λ (s : DiskAlone). s.calm) stays.0

fails_beside_since : (d k b : DiskSeen) → StaysBeside d.attached.beside k.attached.beside → FailsBeside k b → FailsBeside d b
fails_beside_since d k b stays f = record { rose = rose_since (faults_beside d) (faults_beside k) (faults_beside b) (beside_later d.attached.beside k.attached.beside stays) f.rose; uneasy = λ calm. f.uneasy (beside_calm d.attached.beside k.attached.beside stays ∙ calm) }

-- ---- all nodes' disks

pub stay_same : (ds : List DiskSeen) → AllStay ds ds
stay_same ds = record { count = refl; each = λ p d e at there. let same : d ≡ e = cc in subst (StaysBut d) same (refl, omega arith) }

pub seconds_same : (ds : List DiskSeen) → SecondsStay ds ds
seconds_same ds p d e at there = let same : d ≡ e = cc in beside_same d.attached.beside e.attached.beside (ap (λ (x : DiskSeen). x.attached.beside) (sym same))

pub stays_then : (a b c : DiskSeen) → StaysBut a b → StaysBut b c → StaysBut a c
stays_then a b c one two = (two.0 ∙ ap (λ (x : DiskSeen). record x { faults = c.faults; attached = c.attached }) one.0, omega (arith, one.1, two.1))

pub stay_then : (ds ks es : List DiskSeen) → AllStay ds ks → AllStay ks es → AllStay ds es
stay_then ds ks es one two = record {
  count = two.count ∙ one.count;
  each = λ p d e at there.
      let k = get_beside ds ks p d (sym one.count) at in
      stays_then d k.0 e (one.each p d k.0 at k.1) (two.each p k.0 e k.1 there);
}

-- how many there are does not change
pub kept_count : {X : Type 0} (f : X → DiskSeen) (all cur : List X) → NoneFalls (map f all) (map f cur) → length cur ≡ length all
kept_count f all cur falls = sym (length-map cur f) ∙ falls.count ∙ length-map all f

-- those of the nodes stay as all do
pub first_stay : (n : ℕ) (ds es : List DiskSeen) → AllStay ds es → AllStay (take n ds) (take n es)
first_stay n ds es stay = record {
  count = first_count n es ds stay.count;
  each = λ p d e at there. stay.each p d e (first_at n ds p d at).1 (first_at n es p e there).1;
}

-- where one failed of disks that were made ready, it failed since before
pub some_fails_since : (n : ℕ) (ds ks es : List DiskSeen) → AllStay ds ks → SecondsStay ds ks → SomeFails n ks es → SomeFails n ds es
some_fails_since n ds ks es stay seconds o =
    let old = get_beside ks ds o.place o.before stay.count o.at in
    record {
      place = o.place;
      own = o.own;
      before = old.0;
      after = o.after;
      at = old.1;
      now = o.now;
      is = ⊎_elim (λ fails. inl (fails_since old.0 o.before o.after (stay.each o.place old.0 o.before old.1 o.at) fails)) (λ fails. inr (fails_beside_since old.0 o.before o.after (seconds o.place old.0 o.before old.1 o.at) fails)) o.is;
    }

-- ---- one node's disks more

-- what is so of each node's disks, before and after, stays so as those of one node go on
more : {X : Type 0} (P : DiskSeen → DiskSeen → Type 0) (f : X → DiskSeen) (all cur : List X) (i : ℕ) (x y : X) → ((p : ℕ) (d e : DiskSeen) → slice_get (map f all) p ≡ Some d → slice_get (map f cur) p ≡ Some e → P d e) → slice_get cur i ≡ Some x → ((d : DiskSeen) → P d (f x) → P d (f y))
    → (p : ℕ) (d e : DiskSeen) → slice_get (map f all) p ≡ Some d → slice_get (map f (slice_set cur i y)) p ≡ Some e → P d e
more P f all cur i x y each at on p d e old new =
    let here : slice_get (map f cur) i ≡ Some (f x) = get_map f cur i x at in
    ⊎_elim
    (λ (s : (p ≡ i) × (e ≡ f y)).
    let there : slice_get (map f cur) p ≡ Some (f x) = subst (λ q. slice_get (map f cur) q ≡ Some (f x)) (sym s.0) here in
    subst (P d) (sym s.1) (on d (each p d (f x) old there)))
    (λ (same : slice_get (map f cur) p ≡ Some e). each p d e old same)
    (get_set (map f cur) i (f y) p e (subst (λ l. slice_get l p ≡ Some e) (map_set f cur i y) new))

more_count : {X : Type 0} (f : X → DiskSeen) (all cur : List X) (i : ℕ) (y : X) → length (map f cur) ≡ length (map f all) → length (map f (slice_set cur i y)) ≡ length (map f all)
more_count f all cur i y count = ap length (map_set f cur i y) ∙ set_length (map f cur) i (f y) ∙ count

-- those of one more node were made ready
pub stay_more : {X : Type 0} (f : X → DiskSeen) (all cur : List X) (i : ℕ) (x y : X) → AllStay (map f all) (map f cur) → slice_get cur i ≡ Some x → StaysBut (f x) (f y) → AllStay (map f all) (map f (slice_set cur i y))
stay_more f all cur i x y stay at stays = record { count = more_count f all cur i y stay.count; each = more StaysBut f all cur i x y stay.each at (λ d before. stays_then d (f x) (f y) before stays) }

seconds_more : {X : Type 0} (f : X → DiskSeen) (all cur : List X) (i : ℕ) (x y : X) → SecondsStay (map f all) (map f cur) → slice_get cur i ≡ Some x → StaysBeside (f x).attached.beside (f y).attached.beside → SecondsStay (map f all) (map f (slice_set cur i y))
seconds_more f all cur i x y stay at stays = more (λ (d e : DiskSeen). StaysBeside d.attached.beside e.attached.beside) f all cur i x y stay at (λ d before. beside_then d.attached.beside (f x).attached.beside (f y).attached.beside before stays)

-- of one it is so since before, whose disks there are now others
one_more : {X : Type 0} (P : DiskSeen → DiskSeen → Type 0) (f : X → DiskSeen) (all cur : List X) (i n : ℕ) (x y : X) → length (map f cur) ≡ length (map f all) → slice_get cur i ≡ Some x → i < n
    → ((d : DiskSeen) → slice_get (map f all) i ≡ Some d → slice_get (map f cur) i ≡ Some (f x) → P d (f y)) → One P n (map f all) (map f (slice_set cur i y))
one_more P f all cur i n x y count at within is =
    let here : slice_get (map f cur) i ≡ Some (f x) = get_map f cur i x at in
    let old = get_beside (map f cur) (map f all) i (f x) count here in
    record { place = i; own = within; before = old.0; after = f y; at = old.1; now = ap (λ l. slice_get l i) (map_set f cur i y) ∙ get_there (map f cur) i (f x) (f y) here; is = is old.0 old.1 here }

-- or one of them failed
pub one_more_fails : {X : Type 0} (f : X → DiskSeen) (all cur : List X) (i n : ℕ) (x y : X) → AllStay (map f all) (map f cur) → SecondsStay (map f all) (map f cur) → slice_get cur i ≡ Some x → i < n → Fails (f x) (f y) ⊎ FailsBeside (f x) (f y) → SomeFails n (map f all) (map f (slice_set cur i y))
one_more_fails f all cur i n x y stay seconds at within fails =
    one_more (λ d e. Fails d e ⊎ FailsBeside d e) f all cur i n x y stay.count at within
    (λ d old here. ⊎_elim (λ first. inl (fails_since d (f x) (f y) (stay.each i d (f x) old here) first)) (λ second. inr (fails_beside_since d (f x) (f y) (seconds i d (f x) old here) second)) fails)

-- ---- in a folder

pub falls_same : (ds : List DiskSeen) → NoneFalls ds ds
falls_same ds = record { count = refl; each = λ p d e at there. let same : d ≡ e = cc in subst (λ (x : DiskSeen). (d.faults ≤ x.faults) × (faults_beside d ≤ faults_beside x)) same (omega arith, omega arith) }

pub falls_more : {X : Type 0} (f : X → DiskSeen) (all cur : List X) (i : ℕ) (x y : X) → NoneFalls (map f all) (map f cur) → slice_get cur i ≡ Some x → ((f x).faults ≤ (f y).faults) × (faults_beside (f x) ≤ faults_beside (f y)) → NoneFalls (map f all) (map f (slice_set cur i y))
falls_more f all cur i x y falls at later = record {
  count = more_count f all cur i y falls.count;
  each = more (λ (d e : DiskSeen). (d.faults ≤ e.faults) × (faults_beside d ≤ faults_beside e)) f all cur i x y falls.each at (λ d before. (omega (arith, before.0, later.0), omega (arith, before.1, later.1)));
}

-- the count of one of the disks there rose
pub one_more_rises : {X : Type 0} (f : X → DiskSeen) (all cur : List X) (i n : ℕ) (x y : X) → NoneFalls (map f all) (map f cur) → slice_get cur i ≡ Some x → i < n → Rose (f x).faults (f y).faults ⊎ Rose (faults_beside (f x)) (faults_beside (f y)) → SomeRises n (map f all) (map f (slice_set cur i y))
one_more_rises f all cur i n x y falls at within rose =
    one_more (λ d e. Rose d.faults e.faults ⊎ Rose (faults_beside d) (faults_beside e)) f all cur i n x y falls.count at within
    (λ d old here.
    let before = falls.each i d (f x) old here in
    ⊎_elim (λ first. inl (rose_since d.faults (f x).faults (f y).faults before.0 first)) (λ second. inr (rose_since (faults_beside d) (faults_beside (f x)) (faults_beside (f y)) before.1 second)) rose)

-- where one failed of disks of which no count had fallen, the count of one rose
pub fails_rises : (n : ℕ) (ds ks es : List DiskSeen) → NoneFalls ds ks → SomeFails n ks es → SomeRises n ds es
fails_rises n ds ks es falls o =
    let old = get_beside ks ds o.place o.before falls.count o.at in
    let before = falls.each o.place old.0 o.before old.1 o.at in
    record {
      place = o.place;
      own = o.own;
      before = old.0;
      after = o.after;
      at = old.1;
      now = o.now;
      is = ⊎_elim (λ fails. inl (rose_since old.0.faults o.before.faults o.after.faults before.0 fails.rose)) (λ fails. inr (rose_since (faults_beside old.0) (faults_beside o.before) (faults_beside o.after) before.1 fails.rose)) o.is;
    }

pub stay_in_same : (folder : Option (List ℕ)) (ds : List DiskSeen) → StayIn folder ds ds
stay_in_same None ds = (stay_same ds, seconds_same ds)
stay_in_same (Some path) ds = falls_same ds

pub stay_in_more : {X : Type 0} (folder : Option (List ℕ)) (f : X → DiskSeen) (all cur : List X) (i : ℕ) (x y : X) → StayIn folder (map f all) (map f cur) → slice_get cur i ≡ Some x → (folder ≡ None → StaysBut (f x) (f y) × StaysBeside (f x).attached.beside (f y).attached.beside)
    → ((f x).faults ≤ (f y).faults) × (faults_beside (f x) ≤ faults_beside (f y)) → StayIn folder (map f all) (map f (slice_set cur i y))
stay_in_more None f all cur i x y stay at stays later = (stay_more f all cur i x y stay.0 at (stays refl).0, seconds_more f all cur i x y stay.1 at (stays refl).1)
stay_in_more (Some path) f all cur i x y falls at stays later = falls_more f all cur i x y falls at later

-- in memory all stay
pub stay_in_memory : (folder : Option (List ℕ)) (ds es : List DiskSeen) → folder ≡ None → StayIn folder ds es → AllStay ds es × SecondsStay ds es
stay_in_memory None ds es is stay = stay
stay_in_memory (Some path) ds es is falls = absurd cc

-- ---- names

pub same_names : (d e : DiskSeen) → e.attached ≡ d.attached → KeepsNames d e
same_names d e same = (ap (λ (a : AttachedAs). a.own) same, ap (λ (a : AttachedAs). option_and_then (λ (s : DiskAlone). s.attached) a.beside) same)

-- none is attached yet
pub named_none : (folder : Option (List ℕ)) (ds : List DiskSeen) → AreNamed folder 0 ds ds
named_none folder ds = record { own = λ p e before at. absurd (omega (arith, before)); rest = λ p d e above at there. same_names d e (ap (λ (x : DiskSeen). x.attached) (same_Some _ _ (sym there ∙ at))) }

has_names_with : (folder : Option (List ℕ)) (p : ℕ) (d e : DiskSeen) → KeepsNames d e → HasNames folder p d → HasNames folder p e
has_names_with folder p d e same has = (same.0 ∙ has.0, same.1 ∙ has.1)

-- names are kept where each disk is attached as it was
pub named_same : (folder : Option (List ℕ)) (place : ℕ) (ds ks es : List DiskSeen) → attached_as es ≡ attached_as ks → AreNamed folder place ds ks → AreNamed folder place ds es
named_same folder place ds ks es same named = record {
  own = λ p e before at. let k = under p e at in has_names_with folder p k.0 e (same_names k.0 e (sym k.2)) (named.own p k.0 before k.1);
  rest = λ p d e above at there.
      let k = under p e there in
      let kept = same_names k.0 e (sym k.2) in
      let was = named.rest p d k.0 above at k.1 in
      (kept.0 ∙ was.0, kept.1 ∙ was.1);
}
  where
    under : (p : ℕ) (e : DiskSeen) → slice_get es p ≡ Some e → (k : DiskSeen) × (slice_get ks p ≡ Some k) × (k.attached ≡ e.attached)
    under p e at = of_map (λ (x : DiskSeen). x.attached) ks p e.attached (ap (λ l. slice_get l p) (sym same) ∙ get_map (λ (x : DiskSeen). x.attached) es p e at)

module _ {X : Type 0} (f : X → DiskSeen) (folder : Option (List ℕ)) (all cur : List X) (i : ℕ) (x y : X) (named : AreNamed folder i (map f all) (map f cur)) (at : slice_get cur i ≡ Some x) where
  -- the disks there are the new ones
  there_is : (e : DiskSeen) → slice_get (map f (slice_set cur i y)) i ≡ Some e → e ≡ f y
  there_is e new = same_Some _ _ (sym new ∙ ap (λ l. slice_get l i) (map_set f cur i y) ∙ get_there (map f cur) i (f x) (f y) (get_map f cur i x at))

  -- and all others are as they were
  beside_is : (p : ℕ) (e : DiskSeen) → (p ≡ i → ⊥) → slice_get (map f (slice_set cur i y)) p ≡ Some e → slice_get (map f cur) p ≡ Some e
  beside_is p e other new = sym (get_other (map f cur) i (f y) p other) ∙ sym (ap (λ l. slice_get l p) (map_set f cur i y)) ∙ new

  -- those of one node more were attached under their names
  pub named_more : HasNames folder i (f y) → AreNamed folder (i + 1) (map f all) (map f (slice_set cur i y))
  named_more has = record {
    own = λ p e before new. ⊎_elim
        (λ lt. named.own p e lt (beside_is p e (λ same. omega (arith, same, lt)) new))
        (λ above.
        let here : p ≡ i = omega (arith, before, above) in
        let is : e ≡ f y = there_is e (subst (λ q. slice_get (map f (slice_set cur i y)) q ≡ Some e) here new) in
        subst (λ (k : DiskSeen). HasNames folder p k) (sym is) (subst (λ q. HasNames folder q (f y)) (sym here) has))
        (cases_lt p i);
    rest = λ p d e above old new. named.rest p d e (omega (arith, above)) old (beside_is p e (λ same. omega (arith, same, above)) new);
  }

  -- or an attach was refused
  pub named_stays : (n : ℕ) → i < n → KeepsNames (f x) (f y) ⊎ HasFirstName folder i (f x) (f y) → StopsNaming folder n (map f all) (map f (slice_set cur i y))
  named_stays n within half = record {
    place = i;
    within = within;
    own = λ p e before new. named.own p e before (beside_is p e (λ same. omega (arith, same, before)) new);
    here = λ d e old new.
        let was = named.rest i d (f x) (omega arith) old (get_map f cur i x at) in
        subst (λ (k : DiskSeen). KeepsNames d k ⊎ HasFirstName folder i d k) (sym (there_is e new))
        (⊎_elim (λ kept. inl (kept.0 ∙ was.0, kept.1 ∙ was.1)) (λ first. inr (first.0, first.1 ∙ was.1)) half);
    rest = λ p d e above old new. named.rest p d e (omega (arith, above)) old (beside_is p e (λ same. omega (arith, same, above)) new);
  }
