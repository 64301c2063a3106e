-- How the work begins.
use Rattle.std.proofs.Common.{inl, inr, ◌≡◌, ℕ, zero, suc, ◌+◌, ◌-◌, List, [], ◌∷◌, ◌++◌, length, map, take, slice_get, Option, Some, option_to_list, refl, sym, ap, subst, ◌∙◌, arith, length-append}
use Rattle.std.specs.List.{AllByRecursion}
use Rattle.std.proofs.lemmas.List.{length-map}
use Rattle.net_base.proofs.Lists.{all_front, all_from_get, of_map, get_map, map_both}
use Rattle.waiting_frames.specs.Waiting.{WaitingSeen}
use Rattle.wire_queue.specs.declared.rule.Seen.{Seen}
use Rattle.wire_queue.specs.declared.inbox.InboxPass.{InboxPass}
use Rattle.wire_queue.specs.Wire.{Frame, IsIn, seen}
use Rattle.wire_rows.specs.Rows.{Spread, given_of}

-- ---- the locks

all_last : {X : Type 0} (P : X → Type 0) (xs : List X) (x : X) → AllByRecursion P (xs ++ x ∷ []) → P x
all_last P [] x h = h.0
all_last P (y ∷ xs) x h = all_last P xs x h.1

pub popped : {X : Type 0} (P : X → Type 0) (old new : List X) (r : Option X) (x : X) → old ≡ new ++ option_to_list r → r ≡ Some x → AllByRecursion P old → P x × AllByRecursion P new × (length old ≡ length new + 1)
popped {X} P old new r x is some_is all =
    let whole : old ≡ new ++ x ∷ [] = is ∙ ap (λ (o : Option X). new ++ option_to_list o) some_is in
    let here = subst (AllByRecursion P) whole all in
    (all_last P new x here, all_front P new (x ∷ []) here, ap (λ (l : List X). length l) whole ∙ length-append new (x ∷ []))

-- what holds of the rest holds of its first, and of what is behind it
pub rest_of : {X : Type 0} (P : X → Type 0) (rest later : List X) (x : X) → rest ≡ x ∷ later → AllByRecursion P rest → P x × AllByRecursion P later
rest_of P rest later x is all = let here = subst (AllByRecursion P) is all in (here.0, here.1)

-- an item stands at the number of those before it
pub stands_at : {X : Type 0} (yielded rest all : List X) (x : X) (place : ℕ) → yielded ++ x ∷ rest ≡ all → place ≡ length yielded → slice_get all place ≡ Some x
stands_at {X} yielded rest all x place is at = ap (slice_get all) at ∙ subst (λ (l : List X). slice_get l (length yielded) ≡ Some x) is (last yielded)
  where
    last : (xs : List X) → slice_get (xs ++ x ∷ rest) (length xs) ≡ Some x
    last [] = refl
    last (y ∷ xs) = last xs

-- ---- the first passes

in_take : (n : ℕ) (xs : List Frame) (x : Frame) → IsIn x (take n xs) → IsIn x xs
in_take zero xs x h = absurd h
in_take (suc n) [] x h = absurd h
in_take (suc n) (y ∷ xs) x (inl same) = inl same
in_take (suc n) (y ∷ xs) x (inr there) = inr (in_take n xs x there)

abbrev first_of : List Frame → Seen
first_of l = seen 32 l [] []

abbrev head_of : WaitingSeen → List Frame
head_of w = take 1024 w.frames

pub first_shares : (own : List InboxPass) (heads : List (List Frame)) → map (λ (p : InboxPass). p.seen) own ≡ map first_of heads → AllByRecursion (λ (p : InboxPass). p.seen.shares ≡ 32) own
first_shares own heads is = all_from_get (λ (p : InboxPass). p.seen.shares ≡ 32) own (λ q p at.
    let there = subst (λ (l : List Seen). slice_get l q ≡ Some p.seen) is (get_map (λ (p : InboxPass). p.seen) own q p at) in
    let found = of_map first_of heads q p.seen there in
    sym (ap (λ (s : Seen). s.shares) found.2))

pub first_spread : (own : List InboxPass) (heads : List (List Frame)) (waiting : List WaitingSeen) → map (λ (p : InboxPass). p.seen) own ≡ map first_of heads → heads ≡ map head_of waiting → Spread (map (λ (w : WaitingSeen). w.frames) waiting) 0 (map (λ (p : InboxPass). p.seen) own)
first_spread own heads waiting is heads_are = record {
  shares = λ q s at.
      let found = of_map first_of heads q s (subst (λ (l : List Seen). slice_get l q ≡ Some s) is at) in
      let shares = ap (λ (z : Seen). z.shares) found.2 in
      omega (arith, shares);
  posted = λ q s at x there.
      let found = of_map first_of heads q s (subst (λ (l : List Seen). slice_get l q ≡ Some s) is at) in
      let waits = of_map head_of waiting q found.0 (subst (λ (l : List (List Frame)). slice_get l q ≡ Some found.0) heads_are found.1) in
      let had : IsIn x found.0 = subst (λ (z : Seen). IsIn x z.origins) (sym found.2) there in
      (waits.0.frames, get_map (λ (w : WaitingSeen). w.frames) waiting q waits.0 waits.1, in_take 1024 waits.0.frames x (subst (λ (l : List Frame). IsIn x l) (sym waits.2) had));
}

-- ---- what is set up

pub same_length : (old mid : List WaitingSeen) → map (λ (w : WaitingSeen). w.frames) mid ≡ map (λ (w : WaitingSeen). w.frames) old → length mid ≡ length old
same_length old mid same =
    let l = ap (λ (x : List (List Frame)). length x) same in
    omega (arith, l, length-map mid (λ (w : WaitingSeen). w.frames), length-map old (λ (w : WaitingSeen). w.frames))

-- there are as many inboxes as nodes
pub as_many : (old mid : List WaitingSeen) (heads : List (List Frame)) (n : ℕ) → map (λ (w : WaitingSeen). w.frames) mid ≡ map (λ (w : WaitingSeen). w.frames) old → heads ≡ map head_of mid → n ≡ length heads → n ≡ length old
as_many old mid heads n same heads_are is =
    let l = ap (λ (x : List (List Frame)). length x) heads_are in
    omega (arith, l, is, length-map mid head_of, same_length old mid same)

pub set_spread : (own kept : List InboxPass) (heads : List (List Frame)) (mid old : List WaitingSeen) (count : ℕ) → map (λ (p : InboxPass). p.seen) own ≡ map first_of heads → heads ≡ map head_of mid → map (λ (w : WaitingSeen). w.frames) mid ≡ map (λ (w : WaitingSeen). w.frames) old → count ≡ length old
    → ((waited : List (List Frame)) → Spread waited 0 (map (λ (p : InboxPass). p.seen) own) → Spread waited count (map (λ (p : InboxPass). p.seen) kept)) → Spread (map (λ (w : WaitingSeen). w.frames) old) (length old) (map (λ (p : InboxPass). p.seen) kept)
set_spread own kept heads mid old count is heads_are same all spread =
    let first = first_spread own heads mid is heads_are in
    let here = subst (λ (l : List (List Frame)). Spread l 0 (map (λ (p : InboxPass). p.seen) own)) same first in
    subst (λ (n : ℕ). Spread (map (λ (w : WaitingSeen). w.frames) old) n (map (λ (p : InboxPass). p.seen) kept)) all (spread (map (λ (w : WaitingSeen). w.frames) old) here)

-- the passes begin with the first frames that wait, less the shares that were given away
pub set_heads : (own kept : List InboxPass) (heads : List (List Frame)) (mid old : List WaitingSeen) (count : ℕ) → map (λ (p : InboxPass). p.seen) own ≡ map first_of heads → heads ≡ map head_of mid → map (λ (w : WaitingSeen). w.frames) mid ≡ map (λ (w : WaitingSeen). w.frames) old → count ≡ length old
    → map (λ (p : InboxPass). p.seen) kept ≡ map (λ (p : InboxPass). given_of count p.seen) own → map (λ (p : InboxPass). p.seen) kept ≡ map (λ (w : WaitingSeen). seen (32 - length old) (take 1024 w.frames) [] []) old
set_heads own kept heads mid old count is heads_are same all kept_is =
    kept_is
    ∙ sym (map_both (given_of count) (λ (p : InboxPass). p.seen) own)
    ∙ ap (map (given_of count)) (is ∙ ap (map first_of) heads_are)
    ∙ ap (map (given_of count)) (map_both first_of head_of mid)
    ∙ map_both (given_of count) (λ (w : WaitingSeen). first_of (head_of w)) mid
    ∙ ap (λ (n : ℕ). map (λ (w : WaitingSeen). seen (32 - n) (take 1024 w.frames) [] []) mid) all
    ∙ sym (map_both (part (length old)) (λ (w : WaitingSeen). w.frames) mid)
    ∙ ap (map (part (length old))) same
    ∙ map_both (part (length old)) (λ (w : WaitingSeen). w.frames) old
  where
    part : ℕ → List Frame → Seen
    part n frames = seen (32 - n) (take 1024 frames) [] []
