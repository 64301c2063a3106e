-- Bytes inside and outside of ranges.
use Rattle.std.proofs.Common.{◌≡◌, ◌⊎◌, inl, inr, ⊎_elim, ℕ, zero, suc, ◌+◌, ◌-◌, ◌<◌, ◌≤◌, List, [], ◌∷◌, ◌++◌, length, take, drop, get_or, refl, sym, ◌∙◌, ap, subst, arith, length-append, length-drop}
use Rattle.std.proofs.lemmas.List.{length-take-le, get_or-take, get_or-drop, get_or_append_left, get_or-append_right, get_or_past, take_more}
use Rattle.std.specs.List.{Contains}
use Rattle.std.proofs.lemmas.Bool.{cases_lt}
use borrow.Rule.Slice.PartMut.{put_mid, post_of}
use Rattle.outside.specs.Disk.{Durable, IsImage, IsUntouched}
use Rattle.disk_mem.specs.Mem.{durable}
use Rattle.outside.specs.Disk.{IsTouched, IsFilled}

-- a byte of a list in whose middle another stands
pub within_mid : (a k : ℕ) (xs ys zs tail : List ℕ) (i : ℕ) → a ≤ length xs → length ys ≡ k → a ≤ i → i < a + k → ys ≡ take k (drop a zs) → get_or (take a xs ++ (ys ++ tail)) i 0 ≡ get_or zs i 0
within_mid a k xs ys zs tail i in_xs len lo hi is =
    get_or-append_right (take a xs) (ys ++ tail) a i 0 (length-take-le a xs in_xs) lo
    ∙ get_or_append_left ys tail 0 (i - a) (omega (arith, len, lo, hi))
    ∙ ap (λ (l : List ℕ). get_or l (i - a) 0) is
    ∙ get_or-take k (drop a zs) (i - a) 0 (omega (arith, lo, hi))
    ∙ get_or-drop a zs (i - a) 0
    ∙ ap (λ (n : ℕ). get_or zs n 0) (omega (arith, lo))

pub untouched_at : (ts : List (ℕ × ℕ)) (r : ℕ × ℕ) (i : ℕ) → Contains ts r → IsUntouched ts i → (i < r.0) ⊎ (r.0 + r.1 ≤ i)
untouched_at [] r i has u = absurd (omega (arith, has.1))
untouched_at (t ∷ ts) r i (zero, lt, is) u = subst (λ (x : ℕ × ℕ). (i < x.0) ⊎ (x.0 + x.1 ≤ i)) is u.0
untouched_at (t ∷ ts) r i (suc k, lt, is) u = untouched_at ts r i (k, omega (arith, lt), is) u.1

-- other bytes in touched places, and no byte more
pub image_of : (s : Durable) (old new : List ℕ) → IsImage s old → length s.synced ≤ length new → length new ≤ length old → ((i : ℕ) → i < length s.synced → IsUntouched s.pending i → get_or new i 0 ≡ get_or old i 0) → IsImage s new
image_of s old new image low high same = record {
  no_shorter = low;
  no_longer = omega (arith, high, image.no_longer);
  elsewhere = λ i lt u. same i lt u ∙ image.elsewhere i lt u;
}

-- inside of a range or outside of it
pub inside_or_not : (at n i : ℕ) → ((at ≤ i) × (i < at + n)) ⊎ ((i < at) ⊎ (at + n ≤ i))
inside_or_not at n i = ⊎_elim (λ before. inr (inl before)) (λ le. ⊎_elim (λ lt. inl (le, lt)) (λ past. inr (inr past)) (cases_lt i (at + n))) (cases_lt i at)

untouched_push : (ts : List (ℕ × ℕ)) (r : ℕ × ℕ) (i : ℕ) → IsUntouched ts i → ((i < r.0) ⊎ (r.0 + r.1 ≤ i)) → IsUntouched (ts ++ r ∷ []) i
untouched_push [] r i u out = (out, tt)
untouched_push (t ∷ ts) r i u out = (u.0, untouched_push ts r i u.1 out)

-- the ranges so far, and one more
pub untouched_more : (ts : List (ℕ × ℕ)) (k i : ℕ) (r : ℕ × ℕ) → k < length ts → r ≡ get_or ts k r → IsUntouched (take k ts) i → ((i < r.0) ⊎ (r.0 + r.1 ≤ i)) → IsUntouched (take (k + 1) ts) i
untouched_more ts k i r lt is u out =
    subst (λ (l : List (ℕ × ℕ)). IsUntouched l i) (sym (take_more ts k r lt ∙ ap (λ (x : ℕ × ℕ). take k ts ++ x ∷ []) (sym is))) (untouched_push (take k ts) r i u out)

pub untouched_parts : (ts : List (ℕ × ℕ)) (r : ℕ × ℕ) (i : ℕ) → IsUntouched (ts ++ r ∷ []) i → IsUntouched ts i × ((i < r.0) ⊎ (r.0 + r.1 ≤ i))
untouched_parts [] r i u = (tt, u.0)
untouched_parts (t ∷ ts) r i u = let rest = untouched_parts ts r i u.1 in ((u.0, rest.0), rest.1)

pub touched_before : (ts : List (ℕ × ℕ)) (k i : ℕ) (r : ℕ × ℕ) → k < length ts → r ≡ get_or ts k r → IsUntouched (take (k + 1) ts) i → IsUntouched (take k ts) i × ((i < r.0) ⊎ (r.0 + r.1 ≤ i))
touched_before ts k i r lt is u = untouched_parts (take k ts) r i (subst (λ (l : List (ℕ × ℕ)). IsUntouched l i) (take_more ts k r lt ∙ ap (λ (x : ℕ × ℕ). take k ts ++ x ∷ []) (sym is)) u)

-- a part of a list that was copied from the same place of another
pub mid_is : (a k : ℕ) (xs ys zs : List ℕ) (i : ℕ) → length xs ≡ length zs → a + k ≤ length zs → a ≤ length zs → ys ≡ take k (drop a zs) → (i < length zs → (a ≤ i) × (i < a + k)) → get_or (put_mid a k xs ys) i 0 ≡ get_or zs i 0
mid_is a k xs ys zs i same fits in_zs is inner =
    let len : length ys ≡ k = ap (λ (l : List ℕ). length l) is ∙ length-take-le k (drop a zs) (omega (arith, length-drop a zs, fits)) in
    ⊎_elim
    (λ lt. let at = inner lt in within_mid a k xs ys zs (post_of a k xs) i (omega (arith, same, in_zs)) len at.0 at.1 is)
    (λ past. get_or_past (put_mid a k xs ys) i 0 (omega (arith, whole len, past, same, fits)) ∙ sym (get_or_past zs i 0 past))
    (cases_lt i (length zs))
  where
    whole : length ys ≡ k → length (put_mid a k xs ys) ≡ length xs
    whole len = omega (arith, length-append (take a xs) (ys ++ post_of a k xs), length-append ys (post_of a k xs), length-take-le a xs (omega (arith, same, in_zs)), length-drop k (drop a xs), length-drop a xs, same, fits)

-- with the part past the end added, an image agrees with what was synced outside of the ranges
pub extended : (synced content : List ℕ) (pending : List (ℕ × ℕ)) → IsImage (durable synced pending) content → (i : ℕ) → IsUntouched pending i → get_or (synced ++ drop (length synced) content) i 0 ≡ get_or content i 0
extended synced content pending image i u =
    ⊎_elim
    (λ lt. get_or_append_left synced (drop (length synced) content) 0 i lt ∙ sym (image.elsewhere i lt u))
    (λ past. get_or-append_right synced (drop (length synced) content) (length synced) i 0 refl past ∙ get_or-drop (length synced) content (i - length synced) 0 ∙ ap (λ (n : ℕ). get_or content n 0) (omega (arith, past)))
    (cases_lt i (length synced))

-- one range more was filled
pub filled_more : (ts : List (ℕ × ℕ)) (k : ℕ) (r : ℕ × ℕ) (first old new : List ℕ) → k < length ts → r ≡ get_or ts k r → IsFilled (take k ts) first old
    → length new ≡ length old → ((i : ℕ) → r.0 ≤ i → i < r.0 + r.1 → i < length old → get_or new i 0 ≡ 165) → ((i : ℕ) → (i < r.0) ⊎ (r.0 + r.1 ≤ i) → get_or new i 0 ≡ get_or old i 0) → IsFilled (take (k + 1) ts) first new
filled_more ts k r first old new lt is so_far len within beside = record {
  len = len ∙ so_far.len;
  within = λ i small touched. ⊎_elim
      (λ inner. within i inner.0 inner.1 (omega (arith, small, so_far.len)))
      (λ out. beside i out ∙ so_far.within i small (⊎_elim (λ t. t) (λ inner. absurd (apart i inner out)) (split (take k ts) i (subst (λ (l : List (ℕ × ℕ)). IsTouched l i) more touched))))
      (inside_or_not r.0 r.1 i);
  beside = λ i u. let parts = touched_before ts k i r lt is u in beside i parts.1 ∙ so_far.beside i parts.0;
}
  where
    more : take (k + 1) ts ≡ take k ts ++ r ∷ []
    more = take_more ts k r lt ∙ ap (λ (x : ℕ × ℕ). take k ts ++ x ∷ []) (sym is)

    apart : (i : ℕ) → (r.0 ≤ i) × (i < r.0 + r.1) → (i < r.0) ⊎ (r.0 + r.1 ≤ i) → ⊥
    apart i inner (inl before) = absurd (omega (arith, inner.0, before))
    apart i inner (inr past) = absurd (omega (arith, inner.1, past))

    split : (l : List (ℕ × ℕ)) (i : ℕ) → IsTouched (l ++ r ∷ []) i → IsTouched l i ⊎ ((r.0 ≤ i) × (i < r.0 + r.1))
    split [] i (inl inner) = inr inner
    split [] i (inr none) = absurd none
    split (t ∷ l) i (inl here) = inl (inl here)
    split (t ∷ l) i (inr there) = ⊎_elim (λ x. inl (inr x)) (λ x. inr x) (split l i there)
