-- One node after another.
use Rattle.std.proofs.Common.{◌≡◌, ⊎_elim, ℕ, zero, suc, ◌+◌, ◌<◌, ◌≤◌, List, [], ◌∷◌, ◌++◌, Some, length, map, drop, slice_get, slice_set, refl, sym, ap, subst, ◌∙◌, arith, length-append}
use Rattle.std.specs.List.{AllByRecursion}
use Rattle.net_base.proofs.Lists.{get_there, get_other, get_push, set_length}
use Rattle.net_base.proofs.Options.{some_eq}
use Rattle.waiting_frames.specs.Waiting.{WaitingSeen}
use Rattle.wire_queue.specs.Wire.{Frame}
use Rattle.waiting_heads.specs.Heads.{PutEach, PutFirst}

-- the frames of these lists were put at the first nodes, and the others stay
pub record Put (lists : List (List Frame)) (old new : List WaitingSeen) : Type 0 where
  pub count : length new ≡ length old
  pub each : (q : ℕ) (frames : List Frame) (w v : WaitingSeen) → slice_get lists q ≡ Some frames → slice_get old q ≡ Some w → slice_get new q ≡ Some v → PutFirst frames (drop 1024 w.frames) v.frames
  pub rest : (q : ℕ) → length lists ≤ q → slice_get new q ≡ slice_get old q

below : {X : Type 0} (xs : List X) (q : ℕ) (x : X) → slice_get xs q ≡ Some x → q < length xs
below [] q x at = cc
below (y ∷ xs) zero x at = omega arith
below (y ∷ xs) (suc q) x at = omega (arith, below xs q x at)

pub put_next : (lists later : List (List Frame)) (old mid new : List WaitingSeen) (frames : List Frame) (at : ℕ) (w v : WaitingSeen) → later ≡ lists ++ frames ∷ [] → at ≡ length lists → Put lists old mid → slice_get mid at ≡ Some w → new ≡ slice_set mid at v
    → PutFirst frames (drop 1024 w.frames) v.frames → Put later old new
put_next lists later old mid new frames at w v is here put there now puts = record {
  count = ap (λ (l : List WaitingSeen). length l) now ∙ set_length mid at v ∙ put.count;
  each = λ q fs x y listed was be. ⊎_elim
      (λ before.
      let other : q ≡ at → ⊥ = λ same. let less = below lists q fs before in absurd (omega (arith, same, here, less)) in
      put.each q fs x y before was (sym (get_other mid at v q other) ∙ (ap (λ (l : List WaitingSeen). slice_get l q) (sym now) ∙ be)))
      (λ last.
      let q_is : q ≡ at = sym last.0 ∙ sym here in
      let x_is : w ≡ x = some_eq (sym there ∙ put.rest at (omega (arith, here)) ∙ ap (slice_get old) (sym q_is) ∙ was) in
      let y_is : v ≡ y = some_eq (sym (get_there mid at w v there) ∙ ap (slice_get (slice_set mid at v)) (sym q_is) ∙ ap (λ (l : List WaitingSeen). slice_get l q) (sym now) ∙ be) in
      subst (λ (z : List Frame). PutFirst z (drop 1024 x.frames) y.frames) last.1 (subst (λ (z : WaitingSeen). PutFirst frames (drop 1024 z.frames) y.frames) x_is (subst (λ (z : WaitingSeen). PutFirst frames (drop 1024 w.frames) z.frames) y_is puts)))
      (get_push lists frames q fs (subst (λ (l : List (List Frame)). slice_get l q ≡ Some fs) is listed));
  rest = λ q past.
      let len = ap (λ (l : List (List Frame)). length l) is in
      let more = length-append lists (frames ∷ []) in
      let other : q ≡ at → ⊥ = λ same. absurd (omega (arith, same, here, past, len, more)) in
      ap (λ (l : List WaitingSeen). slice_get l q) now ∙ get_other mid at v q other ∙ put.rest q (omega (arith, past, len, more));
}

-- ---- lists

pub shift : {X : Type 0} (a b : List X) (x : X) → (a ++ x ∷ []) ++ b ≡ a ++ x ∷ b
shift [] b x = refl
shift (y ∷ a) b x = ap (λ (l : List _). y ∷ l) (shift a b x)

pub place_in : {X : Type 0} (yielded rest all : List X) (x : X) (at n : ℕ) → yielded ++ x ∷ rest ≡ all → at ≡ length yielded → n ≡ length all → at < n
place_in yielded rest all x at n is here whole =
    let a = ap (λ (l : List _). length l) is in
    omega (arith, a, length-append yielded (x ∷ rest), here, whole)

pub rest_of : {X : Type 0} (P : X → Type 0) (rest later : List X) (x : X) → rest ≡ x ∷ later → AllByRecursion P rest → AllByRecursion P later
rest_of P rest later x is all = (subst (AllByRecursion P) is all).1

pub map_set_same : {X Y : Type 0} (g : X → Y) (xs : List X) (i : ℕ) (x y : X) → slice_get xs i ≡ Some x → g y ≡ g x → map g (slice_set xs i y) ≡ map g xs
map_set_same g [] i x y at same = cc
map_set_same g (z ∷ xs) zero x y at same = let is : z ≡ x = some_eq at in ap (λ a. a ∷ map g xs) (same ∙ ap g (sym is))
map_set_same g (z ∷ xs) (suc i) x y at same = ap (λ l. g z ∷ l) (map_set_same g xs i x y at same)

-- what holds below a place, and of what was set there, holds up to it
pub upto_more : {X : Type 0} (P : X → Type 0) (xs : List X) (place : ℕ) (y : X) → ((q : ℕ) (x : X) → q < place → slice_get xs q ≡ Some x → P x) → P y → (q : ℕ) (x : X) → q < place + 1 → slice_get (slice_set xs place y) q ≡ Some x → P x
upto_more P [] place y before p q x lt at = cc
upto_more P (z ∷ xs) zero y before p zero x lt at = subst P (some_eq at) p
upto_more P (z ∷ xs) zero y before p (suc q) x lt at = absurd (omega (arith, lt))
upto_more P (z ∷ xs) (suc place) y before p zero x lt at = before 0 x (omega arith) at
upto_more P (z ∷ xs) (suc place) y before p (suc q) x lt at = upto_more P xs place y (λ j u less there. before (suc j) u (omega (arith, less)) there) p q x (omega (arith, lt)) at
