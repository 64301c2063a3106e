-- What is acknowledged stands once in the merged journals.
use Rattle.std.proofs.Common.{◌≡◌, ℕ, zero, suc, ◌<◌, ◌≤◌, ◌==◌, ⊎_elim, List, [], ◌∷◌, ◌++◌, Some, None, true, false, cond, map, option_to_list, slice_get, refl, sym, ◌∙◌, ap, subst, arith, append_assoc}
use Rattle.std.specs.List.{AllByRecursion}
use Rattle.std.proofs.lemmas.Bool.{eqb-true, eqb-false}
use Rattle.std.proofs.lemmas.List.{map-append}
use Rattle.net_base.specs.declared.causes.Cause.{Cause}
use Rattle.net_base.proofs.Lists.{get_beside, get_map}
use Rattle.net_base.proofs.Options.{some_eq}
use Rattle.flow_records.specs.Records.{record_of}
use Rattle.net_model.specs.Environment.{Environment}
use Rattle.net_model.specs.State.{NodeState, Record, fresh}
use Rattle.net_model.specs.Runs.{merged, stamp_of, stamped, IsLocal, IsLocalFrom, AreRising}
use Rattle.net_model.proofs.Basics.{get_before}
use Rattle.net_model.proofs.Local.{of_node}
use Rattle.net_model.proofs.Merging.{merge_keeps}
use Rattle.net_model.proofs.Steps.{step_stamp}
use Rattle.node_tables.specs.Journals.{Reads, records_of, causes_of}
use Rattle.network_core.specs.Worlds.{NodeWorld, World, MaySpell, Choice, Sound, Coherent}
use Rattle.network_core.specs.Acknowledged.{Reaches, StandsOnce, WhoIsUpAcknowledges, AcknowledgedStandsOnce}
use Rattle.network_core.proofs.Reaching.{reaches_leads}

-- ---- lists

-- an element of one node's list, whose stamps rise, stands once in a list of all nodes
module _ {X : Type 0} (stamp : X → ℕ) (p : ℕ) (x : X) where
  abbrev Other : ℕ × X → Type 0
  Other y = y ≡ (p, x) → ⊥

  other_node : (y : ℕ × X) → (p == y.0) ≡ false → Other y
  other_node y apart is = eqb-false p y.0 apart (sym (ap (λ (z : ℕ × X). z.0) is))

  lesser : (y : ℕ × X) → stamp y.1 < stamp x → Other y
  lesser y less is = let same = ap (λ (z : ℕ × X). stamp z.1) is in omega (arith, less, same)

  greater : (y : ℕ × X) → stamp x < stamp y.1 → Other y
  greater y more is = let same = ap (λ (z : ℕ × X). stamp z.1) is in omega (arith, more, same)

  -- an element of a list is above where the list rises from
  above : (n i : ℕ) (xs : List X) → AreRising stamp n xs → slice_get xs i ≡ Some x → n < stamp x
  above n i [] rise at = cc
  above n zero (y ∷ ys) rise at = subst (λ (z : X). n < stamp z) (some_eq at) rise.0
  above n (suc i) (y ∷ ys) rise at = let one = rise.0 in let rest = above (stamp y) i ys rise.1 at in omega (arith, one, rest)

  -- behind it nothing is the element
  none_behind : (n : ℕ) (ys : List (ℕ × X)) → stamp x ≤ n → AreRising stamp n (of_node p ys) → AllByRecursion Other ys
  none_behind n [] le rise = tt
  none_behind n (y ∷ ys) le rise =
      (elim (p == y.0) as (λ b. (p == y.0) ≡ b → AreRising stamp n (cond b (y.1 ∷ of_node p ys) (of_node p ys)) → AllByRecursion Other (y ∷ ys)) [
        | true ↦ λ is h. let more = h.0 in (greater y (omega (arith, more, le)), none_behind (stamp y.1) ys (omega (arith, more, le)) h.1)
        | false ↦ λ is h. (other_node y is, none_behind n ys le h)
      ]) refl rise

  at_first : (y : ℕ × X) (ys : List (ℕ × X)) → (p == y.0) ≡ true → y.1 ≡ x → AreRising stamp (stamp y.1) (of_node p ys) → StandsOnce (p, x) (y ∷ ys)
  at_first (q, z) ys is same rise =
      let node : q ≡ p = sym (eqb-true p q is) in
      let le : stamp x ≤ stamp z = let k = ap stamp same in omega (arith, k) in
      record { before = []; behind = ys; all = ap (λ (k : ℕ × X). k ∷ ys) (ap (λ (m : ℕ). (m, z)) node ∙ ap (λ (u : X). (p, u)) same); first = tt; last = none_behind (stamp z) ys le rise }

  at_next : (y : ℕ × X) (ys : List (ℕ × X)) → Other y → StandsOnce (p, x) ys → StandsOnce (p, x) (y ∷ ys)
  at_next y ys other o = record { before = y ∷ o.before; behind = o.behind; all = ap (λ (l : List (ℕ × X)). y ∷ l) o.all; first = (other, o.first); last = o.last }

  pub stands_once : (n i : ℕ) (ys : List (ℕ × X)) → AreRising stamp n (of_node p ys) → slice_get (of_node p ys) i ≡ Some x → StandsOnce (p, x) ys
  stands_once n i [] rise at = cc
  stands_once n zero (y ∷ ys) rise at =
      (elim (p == y.0) as (λ b. (p == y.0) ≡ b → AreRising stamp n (cond b (y.1 ∷ of_node p ys) (of_node p ys)) → slice_get (cond b (y.1 ∷ of_node p ys) (of_node p ys)) zero ≡ Some x → StandsOnce (p, x) (y ∷ ys)) [
        | true ↦ λ is h k. at_first y ys is (some_eq k) h.1
        | false ↦ λ is h k. at_next y ys (other_node y is) (stands_once n zero ys h k)
      ]) refl rise at
  stands_once n (suc i) (y ∷ ys) rise at =
      (elim (p == y.0) as (λ b. (p == y.0) ≡ b → AreRising stamp n (cond b (y.1 ∷ of_node p ys) (of_node p ys)) → slice_get (cond b (y.1 ∷ of_node p ys) (of_node p ys)) (suc i) ≡ Some x → StandsOnce (p, x) (y ∷ ys)) [
        | true ↦ λ is h k. at_next y ys (lesser y (above (stamp y.1) i (of_node p ys) h.1 k)) (stands_once (stamp y.1) i ys h.1 k)
        | false ↦ λ is h k. at_next y ys (other_node y is) (stands_once n (suc i) ys h k)
      ]) refl rise at

-- ---- the causes of a journal

pub records_append : {F : Type 0} (f : Reads F) (bs cs : List (List ℕ)) → records_of f (bs ++ cs) ≡ records_of f bs ++ records_of f cs
records_append f [] cs = refl
records_append f (b ∷ bs) cs = ap (λ l. option_to_list (record_of f b) ++ l) (records_append f bs cs) ∙ sym (append_assoc (option_to_list (record_of f b)) (records_of f bs) (records_of f cs))

abbrev cause_in : {F : Type 0} → Record F → Cause
cause_in r = r.cause

-- those of a longer journal begin with them
pub causes_append : {F : Type 0} (f : Reads F) (bs cs : List (List ℕ)) → causes_of f (bs ++ cs) ≡ causes_of f bs ++ causes_of f cs
unfolding causes_of
causes_append f bs cs = ap (map cause_in) (records_append f bs cs) ∙ map-append cause_in (records_of f bs) (records_of f cs)

cause_stays : {F : Type 0} (f : Reads F) (bodies rest : List (List ℕ)) (place : ℕ) (cause : Cause) → slice_get (causes_of f bodies) place ≡ Some cause → slice_get (causes_of f (bodies ++ rest)) place ≡ Some cause
cause_stays f bodies rest place cause at = ap (λ l. slice_get l place) (causes_append f bodies rest) ∙ get_before (causes_of f bodies) (causes_of f rest) place cause at

-- the stamps of a node's own steps rise
own_rise : {F : Type 0} (e : Environment F) (p : ℕ) (s : NodeState F) (rs : List (Record F)) → IsLocalFrom e p s rs → AreRising stamp_of s.stamp (map cause_in rs)
own_rise e p s [] h = tt
own_rise e p s (r ∷ rs) (stamp, next, step, rest) =
    let k = step_stamp e p s r.cause (stamped stamp r.effect.change.came) (next, r.effect) step in
    (k.1, subst (λ (n : ℕ). AreRising stamp_of n (map cause_in rs)) k.0 (own_rise e p next rs rest))

pub causes_rise : {F : Type 0} (e : Environment F) (p : ℕ) (bodies : List (List ℕ)) → IsLocal e p (records_of e.frame_at bodies) → AreRising stamp_of 0 (causes_of e.frame_at bodies)
unfolding causes_of
causes_rise e p bodies local = own_rise e p fresh (records_of e.frame_at bodies) local

-- a cause that stands in the journal chosen for a node stands once in the merged journals
pub stands_chosen : {F : Type 0} (e : Environment F) (p : ℕ) (lists : List (List (List ℕ))) (journal : List (List ℕ)) → slice_get lists p ≡ Some journal → IsLocal e p (records_of e.frame_at journal)
    → (place : ℕ) (cause : Cause) → slice_get (causes_of e.frame_at journal) place ≡ Some cause → StandsOnce (p, cause) (merged (map (causes_of e.frame_at) lists))
stands_chosen e p lists journal there local place cause at =
    let journals = map (causes_of e.frame_at) lists in
    let chosen : slice_get journals p ≡ Some (causes_of e.frame_at journal) = get_map (causes_of e.frame_at) lists p journal there in
    let mine : of_node p (merged journals) ≡ causes_of e.frame_at journal = merge_keeps stamp_of journals p (causes_of e.frame_at journal) chosen in
    let rise : AreRising stamp_of 0 (of_node p (merged journals)) = subst (AreRising stamp_of 0) (sym mine) (causes_rise e p journal local) in
    stands_once stamp_of p cause 0 place (merged journals) rise (ap (λ (l : List Cause). slice_get l place) mine ∙ at)

-- ---- later journals

-- the journal that was chosen for a node later, and the one of before with which it begins
pub record Later {F : Type 0} (e : Environment F) (x : NodeWorld) (p now : ℕ) (lists : List (List (List ℕ))) : Type 0 where
  pub journal : List (List ℕ)
  pub there : slice_get lists p ≡ Some journal
  pub sound : Sound e p now journal
  pub old : List (List ℕ)
  pub spelt : MaySpell x old
  pub rest : List (List ℕ)
  pub begins : journal ≡ old ++ rest

module _ {F : Type 0} (e : Environment F) where
  pub later : (w v : World) (lists : List (List (List ℕ))) (p : ℕ) (x : NodeWorld) → Coherent e w → Reaches e w v → Choice v lists → slice_get w.nodes p ≡ Some x → Later e x p v.now lists
  later w v lists p x coherent reaches choice there =
      let leads = reaches_leads e w v reaches in
      let after : Coherent e v = leads.coherent coherent in
      let y = get_beside w.nodes v.nodes p x (coherent.count ∙ sym after.count) there in
      let l = get_beside v.nodes lists p y.0 (sym choice.count) y.1 in
      let may = choice.each p y.0 l.0 y.1 l.1 in
      let back = leads.longer p y.0 y.1 in
      let mine : back.0 ≡ x = some_eq (sym back.1 ∙ there) in
      let old = back.2.begins l.0 may in
      record {
        journal = l.0;
        there = l.1;
        sound = (after.each p y.0 y.1).every l.0 may;
        old = old.0;
        spelt = subst (λ (z : NodeWorld). MaySpell z old.0) mine old.1;
        rest = old.2;
        begins = old.3;
      }

  -- a cause of before stands once in the merged journals
  pub stands_later : (x : NodeWorld) (p now : ℕ) (lists : List (List (List ℕ))) (k : Later e x p now lists) (place : ℕ) (cause : Cause) → slice_get (causes_of e.frame_at k.old) place ≡ Some cause → StandsOnce (p, cause) (merged (map (causes_of e.frame_at) lists))
  stands_later x p now lists k place cause at =
      let stays : slice_get (causes_of e.frame_at k.journal) place ≡ Some cause = ap (λ (l : List (List ℕ)). slice_get (causes_of e.frame_at l) place) k.begins ∙ cause_stays e.frame_at k.old k.rest place cause at in
      stands_chosen e p lists k.journal k.there k.sound.local place cause stays

-- ---- what is acknowledged

-- the one journal of a node that is up
pub only_journal : (x : NodeWorld) (l : List (List ℕ)) → x.other ≡ None → MaySpell x l → l ≡ x.journal
only_journal x l none may = ⊎_elim (λ is. is) (λ is. absurd (let no : Some l ≡ None = sym is ∙ none in cc)) may

pub who_is_up_acknowledges : {F : Type 0} → WhoIsUpAcknowledges F
who_is_up_acknowledges e w coherent p x there up place cause at = record {
  node = x;
  there = there;
  each = λ l may. (place, ap (λ (k : List (List ℕ)). slice_get (causes_of e.frame_at k) place) (only_journal x l ((coherent.each p x there).one up) may) ∙ at);
}

pub acknowledged_stands_once : {F : Type 0} → AcknowledgedStandsOnce F
acknowledged_stands_once e w v coherent reaches lists choice p cause known =
    let k = later e w v lists p known.node coherent reaches choice known.there in
    let was = known.each k.old k.spelt in
    stands_later e known.node p v.now lists k was.0 cause was.1
