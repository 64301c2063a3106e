-- Frames that are joined, and then turned to the front.
use Rattle.std.proofs.Common.{◌≡◌, ◌⊎◌, inl, inr, ⊎_elim, ℕ, zero, suc, ◌+◌, ◌≤◌, List, [], ◌∷◌, ◌++◌, Bool, true, false, Some, length, take, drop, min, remove, slice_get, if◌then◌else◌, refl, sym, ap, subst, ◌∙◌, arith, append-nil}
use Rattle.net_base.proofs.Options.{some_eq}
use Rattle.waiting_frames.specs.Waiting.{is_waiting, joined}
use Rattle.wire_queue.specs.Wire.{Frame, IsIn}
use Rattle.waiting_heads.specs.Heads.{PutFirst, joined_all, turned, turned_by}

append_twice : (a b c : List Frame) → (a ++ b) ++ c ≡ a ++ (b ++ c)
append_twice [] b c = refl
append_twice (x ∷ a) b c = ap (λ (l : List Frame). x ∷ l) (append_twice a b c)

-- what came stands behind what waited
pub joined_behind : (frames old : List Frame) → (front : List Frame) × (joined_all frames old ≡ old ++ front)
joined_behind [] old = ([], sym (append-nil old))
joined_behind (x ∷ xs) old = by (is_waiting x old) (joined_behind xs old) (joined_behind xs (old ++ x ∷ []))
  where
    Behind : List Frame → List Frame → Type 0
    Behind xs old = (front : List Frame) × (joined_all xs old ≡ old ++ front)

    by : (b : Bool) → Behind xs old → Behind xs (old ++ x ∷ []) → (front : List Frame) × (joined_all xs (if b then old else old ++ x ∷ []) ≡ old ++ front)
    by true same more = same
    by false same more = (x ∷ more.0, more.1 ∙ append_twice old (x ∷ []) more.0)

-- a frame once more the other way round
turned_inner : (n : ℕ) (xs : List Frame) → turned_by (suc n) xs ≡ turned_by n (turned xs)
turned_inner zero xs = refl
turned_inner (suc n) xs = ap turned (turned_inner n xs)

-- as many turns as frames stand in front bring them behind the others
pub turned_round : (a b : List Frame) → turned_by (length a) (a ++ b) ≡ b ++ a
turned_round [] b = sym (append-nil b)
turned_round (x ∷ a) b =
    turned_inner (length a) (x ∷ (a ++ b)) ∙ ap (turned_by (length a)) (append_twice a b (x ∷ [])) ∙ turned_round a (b ++ x ∷ []) ∙ append_twice b (x ∷ []) a

pub put_first : (frames old new : List Frame) → new ≡ turned_by (length old) (joined_all frames old) → PutFirst frames old new
put_first frames old new is =
    let behind = joined_behind frames old in
    record { front = behind.0; once = behind.1; is = is ∙ ap (turned_by (length old)) behind.1 ∙ turned_round old behind.0 }

-- ---- which frames there are then

joined_has : (x y : Frame) (old : List Frame) → IsIn y (joined x old) → IsIn y old ⊎ (y ≡ x)
joined_has x y old = by (is_waiting x old)
  where
    last : (old : List Frame) → IsIn y (old ++ x ∷ []) → IsIn y old ⊎ (y ≡ x)
    last [] (inl same) = inr same
    last [] (inr none) = absurd none
    last (z ∷ zs) (inl same) = inl (inl same)
    last (z ∷ zs) (inr there) = ⊎_elim (λ h. inl (inr h)) (λ same. inr same) (last zs there)

    by : (b : Bool) → IsIn y (if b then old else old ++ x ∷ []) → IsIn y old ⊎ (y ≡ x)
    by true there = inl there
    by false there = last old there

pub joined_all_has : (frames old : List Frame) (y : Frame) → IsIn y (joined_all frames old) → IsIn y old ⊎ IsIn y frames
joined_all_has [] old y there = inl there
joined_all_has (x ∷ xs) old y there = ⊎_elim
    (λ before. ⊎_elim (λ h. inl h) (λ same. inr (inl same)) (joined_has x y old before))
    (λ later. inr (inr later))
    (joined_all_has xs (joined x old) y there)

in_swap : (y : Frame) (a b : List Frame) → IsIn y (a ++ b) → IsIn y (b ++ a)
in_swap y [] b there = subst (λ (l : List Frame). IsIn y l) (sym (append-nil b)) there
in_swap y (x ∷ a) b (inl same) = middle b
  where
    middle : (b : List Frame) → IsIn y (b ++ x ∷ a)
    middle [] = inl same
    middle (z ∷ b) = inr (middle b)
in_swap y (x ∷ a) b (inr there) = later b (in_swap y a b there)
  where
    later : (b : List Frame) → IsIn y (b ++ a) → IsIn y (b ++ x ∷ a)
    later [] h = inr h
    later (z ∷ b) (inl same) = inl same
    later (z ∷ b) (inr h) = inr (later b h)

-- what stands there waited, or is one of those that were put
pub put_has : (frames old new : List Frame) (y : Frame) → PutFirst frames old new → IsIn y new → IsIn y old ⊎ IsIn y frames
put_has frames old new y put there =
    joined_all_has frames old y (subst (λ (l : List Frame). IsIn y l) (sym put.once) (in_swap y put.front old (subst (λ (l : List Frame). IsIn y l) put.is there)))

-- ---- the first frames

pub drop_more : (n : ℕ) (xs ys zs : List Frame) → ys ≡ drop n xs → zs ≡ remove ys 0 → zs ≡ drop (n + 1) xs
drop_more n xs ys zs was now = let next : n + 1 ≡ suc n = omega arith in now ∙ ap (λ (l : List Frame). remove l 0) was ∙ sym (ap (λ (k : ℕ). drop k xs) next ∙ by n xs)
  where
    by : (n : ℕ) (ks : List Frame) → drop (suc n) ks ≡ remove (drop n ks) 0
    by zero [] = refl
    by zero (k ∷ ks) = refl
    by (suc n) [] = refl
    by (suc n) (k ∷ ks) = by n ks

pub drop_all : (n k : ℕ) (xs : List Frame) → n ≡ k → drop n xs ≡ drop k xs
drop_all n k xs is = ap (λ (j : ℕ). drop j xs) is

-- one frame more of a front
pub take_more : (n : ℕ) (xs front : List Frame) (x : Frame) → slice_get xs n ≡ Some x → front ≡ take n xs → front ++ x ∷ [] ≡ take (n + 1) xs
take_more n xs front x at is = let next : n + 1 ≡ suc n = omega arith in ap (λ (l : List Frame). l ++ x ∷ []) is ∙ by n xs at ∙ sym (ap (λ (k : ℕ). take k xs) next)
  where
    by : (n : ℕ) (ks : List Frame) → slice_get ks n ≡ Some x → take n ks ++ x ∷ [] ≡ take (suc n) ks
    by zero [] at = cc
    by zero (k ∷ ks) at = ap (λ (z : Frame). z ∷ []) (sym (some_eq at))
    by (suc n) [] at = cc
    by (suc n) (k ∷ ks) at = ap (λ (l : List Frame). k ∷ l) (by n ks at)

-- a front of as many frames as there are up to a number is the front of that number
pub take_least : (n k : ℕ) (xs : List Frame) → k ≡ min (length xs) n → take k xs ≡ take n xs
take_least n k [] is = none k ∙ sym (none n)
  where
    none : (j : ℕ) → take {A = Frame} j [] ≡ []
    none zero = refl
    none (suc j) = refl
take_least zero k (x ∷ xs) is = let zero_is : k ≡ 0 = omega (arith, is) in ap (λ (j : ℕ). take j (x ∷ xs)) zero_is
take_least (suc n) zero (x ∷ xs) is = absurd (omega (arith, is))
take_least (suc n) (suc k) (x ∷ xs) is = ap (λ (l : List Frame). x ∷ l) (take_least n k xs (omega (arith, is)))

pub drop_length : (n : ℕ) (xs : List Frame) → length (drop n xs) ≤ length xs
drop_length zero xs = omega arith
drop_length (suc n) [] = omega arith
drop_length (suc n) (x ∷ xs) = omega (arith, drop_length n xs)
