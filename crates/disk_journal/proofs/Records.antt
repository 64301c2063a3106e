-- Records at the front of bytes.
use Rattle.std.proofs.Common.{◌≡◌, ◌≢◌, ◌⊎◌, inl, inr, ℕ, zero, suc, ◌+◌, ◌-◌, ◌<◌, ◌≤◌, true, false, List, [], ◌∷◌, ◌++◌, length, get_or, take, drop, None, refl, sym, ◌∙◌, ap, arith, length-append, length-take, append_assoc}
use Rattle.std.specs.Int.{w32, from_be_bytes}
use Rattle.std.proofs.lemmas.List.{take-take, take-append-le, drop-append-le, drop-drop, take_at, drop_at, get_or-take, drop-take}
use Rattle.std.proofs.lemmas.Nat.{from_be_bytes-to_be_bytes_4}
use Rattle.std.proofs.lemmas.Bool.Decides.{nat_tests}
use Rattle.std.proofs.lemmas.Bool.{cases_Bool}
use Rattle.disk_journal.specs.Journal.{body_limit, length_at, is_whole, is_closed, bodies, extent, damage, entry}

pub record Whole (bytes : List ℕ) : Type 0 where
  pub gate : get_or bytes 0 0 ≡ 1
  pub small : length_at bytes ≤ body_limit
  pub fits : 5 + length_at bytes < length bytes

pub whole : (bytes : List ℕ) → is_whole bytes ≡ true → Whole bytes
unfolding is_whole
whole bytes is = record { gate = grind (arith, nat_tests); small = grind (arith, nat_tests); fits = grind (arith, nat_tests) }

pub is_whole_by : (bytes : List ℕ) → Whole bytes → is_whole bytes ≡ true
unfolding is_whole
is_whole_by bytes w = grind (arith, nat_tests, w.gate, w.small, w.fits)

pub shut : (g : ℕ) (rest : List ℕ) → g ≢ 1 → (is_whole (g ∷ rest) ≡ false) × (is_closed (g ∷ rest) ≡ true)
unfolding is_whole is_closed
shut g rest other = (grind (arith, nat_tests), grind (arith, nat_tests))

length_by_five : (l : List ℕ) → length_at l ≡ from_be_bytes w32 (drop 1 (take 5 l))
unfolding length_at
length_by_five [] = refl
length_by_five (a ∷ l) = refl

-- whether a record is whole depends on its own bytes, where a gate is behind it
pub same_front : (x y : List ℕ) (n : ℕ) → 5 + length_at x ≤ n → take n x ≡ take n y → Whole x → n < length y → Whole y × (length_at y ≡ length_at x)
same_front x y n le same w fits =
    let first : get_or y 0 0 ≡ get_or x 0 0 = sym (get_or-take n y 0 0 (omega (arith, le))) ∙ ap (λ (l : List ℕ). get_or l 0 0) (sym same) ∙ get_or-take n x 0 0 (omega (arith, le)) in
    let five : take 5 y ≡ take 5 x = sym (take-take 5 n y (omega (arith, le))) ∙ ap (λ (l : List ℕ). take 5 l) (sym same) ∙ take-take 5 n x (omega (arith, le)) in
    let len : length_at y ≡ length_at x = length_by_five y ∙ ap (λ (l : List ℕ). from_be_bytes w32 (drop 1 l)) five ∙ sym (length_by_five x) in
    (record { gate = first ∙ w.gate; small = omega (arith, len, w.small); fits = omega (arith, len, le, fits) }, len)

-- one record, and what is behind it
module _ (x y : List ℕ) (s : ℕ) (w : Whole x) (some : 0 < length y) where
  abbrev n : ℕ
  n = 5 + length_at x

  abbrev z : List ℕ
  z = take (n + s) x ++ y

  front : take n z ≡ take n x
  front = take-append-le n (take (n + s) x) y (omega (arith, length-take (n + s) x, w.fits)) ∙ take-take n (n + s) x (omega arith)

  pub rest : drop n z ≡ take s (drop n x) ++ y
  rest = drop-append-le n (take (n + s) x) y (omega (arith, length-take (n + s) x, w.fits)) ∙ ap (λ (l : List ℕ). l ++ y) (drop_take n s x)
    where
      drop_take : (n m : ℕ) (l : List ℕ) → drop n (take (n + m) l) ≡ take m (drop n l)
      drop_take n m l = drop-take n m l

  long : n < length z
  long = omega (arith, length-append (take (n + s) x) y, length-take (n + s) x, w.fits, some)

  pub same : Whole z × (length_at z ≡ length_at x)
  same = same_front x z n (omega arith) (sym front) w long

  pub body : take (length_at z) (drop 5 z) ≡ take (length_at x) (drop 5 x)
  body = ap (λ (l : ℕ). take l (drop 5 z)) same.1 ∙ sym (drop-take 5 (length_at x) z) ∙ ap (λ (l : List ℕ). drop 5 l) front ∙ drop-take 5 (length_at x) x

  pub behind : drop (5 + length_at z) z ≡ take s (drop n x) ++ y
  behind = ap (λ (l : ℕ). drop (5 + l) z) same.1 ∙ rest

module _ (n : ℕ) (x : List ℕ) where
  pub bodies_open : is_whole x ≡ true → bodies (suc n) x ≡ take (length_at x) (drop 5 x) ∷ bodies n (drop (5 + length_at x) x)
  bodies_open is = rw is refl

  pub bodies_shut : is_whole x ≡ false → bodies (suc n) x ≡ []
  bodies_shut is = rw is refl

  pub extent_open : is_whole x ≡ true → extent (suc n) x ≡ 5 + length_at x + extent n (drop (5 + length_at x) x)
  extent_open is = rw is refl

  pub extent_shut : is_whole x ≡ false → extent (suc n) x ≡ 0
  extent_shut is = rw is refl

  pub damage_open : (at : ℕ) → is_whole x ≡ true → damage (suc n) at x ≡ damage n (at + (5 + length_at x)) (drop (5 + length_at x) x)
  damage_open at is = rw is refl

  pub damage_shut : (at : ℕ) → is_whole x ≡ false → damage (suc n) at x ≡ damage 0 at x
  damage_shut at is = rw is refl

-- the front of what remains is the same for each number of records
module _ (n : ℕ) (x y : List ℕ) (some : 0 < length y) (is : is_whole x ≡ true) where
  abbrev x' : List ℕ
  x' = drop (5 + length_at x) x

  abbrev s : ℕ
  s = extent n x'

  abbrev whole_z : is_whole (z x y s (whole x is) some) ≡ true
  whole_z = is_whole_by (z x y s (whole x is) some) (same x y s (whole x is) some).0

  bodies_step : bodies n (take s x' ++ y) ≡ bodies n x' ++ bodies (n - length (bodies n x')) y → bodies (suc n) (take (extent (suc n) x) x ++ y) ≡ bodies (suc n) x ++ bodies (suc n - length (bodies (suc n) x)) y
  bodies_step next =
      let b = take (length_at x) (drop 5 x) in
      let w = whole x is in
      let fewer : n - length (bodies n x') ≡ suc n - length (b ∷ bodies n x') = omega arith in
      ap (λ (k : ℕ). bodies (suc n) (take k x ++ y)) (extent_open n x is)
      ∙ bodies_open n (z x y s w some) whole_z
      ∙ (λ i. body x y s w some i ∷ bodies n (behind x y s w some i))
      ∙ ap (λ (l : List (List ℕ)). b ∷ l) next
      ∙ ap (λ (k : ℕ). (b ∷ bodies n x') ++ bodies k y) fewer
      ∙ ap (λ (l : List (List ℕ)). l ++ bodies (suc n - length l) y) (sym (bodies_open n x is))

  damage_step : (at : ℕ) → damage n (at + (5 + length_at x)) (take s x' ++ y) ≡ damage (n - length (bodies n x')) (at + (5 + length_at x) + s) y → damage (suc n) at (take (extent (suc n) x) x ++ y) ≡ damage (suc n - length (bodies (suc n) x)) (at + extent (suc n) x) y
  damage_step at next =
      let b = take (length_at x) (drop 5 x) in
      let w = whole x is in
      let fewer : n - length (bodies n x') ≡ suc n - length (b ∷ bodies n x') = omega arith in
      let place : at + (5 + length_at x) + s ≡ at + (5 + length_at x + s) = omega arith in
      ap (λ (k : ℕ). damage (suc n) at (take k x ++ y)) (extent_open n x is)
      ∙ damage_open n (z x y s w some) at whole_z
      ∙ (λ i. damage n (at + (5 + (same x y s w some).1 i)) (behind x y s w some i))
      ∙ next
      ∙ (λ i. damage (fewer i) (place i) y)
      ∙ ap (λ (l : List (List ℕ)). damage (suc n - length l) (at + (5 + length_at x + s)) y) (sym (bodies_open n x is))
      ∙ ap (λ (k : ℕ). damage (suc n - length (bodies (suc n) x)) (at + k) y) (sym (extent_open n x is))

  extent_step : extent n (take s x' ++ y) ≡ extent n x' + extent (n - length (bodies n x')) y → extent (suc n) (take (extent (suc n) x) x ++ y) ≡ extent (suc n) x + extent (suc n - length (bodies (suc n) x)) y
  extent_step next =
      let b = take (length_at x) (drop 5 x) in
      let w = whole x is in
      let fewer : n - length (bodies n x') ≡ suc n - length (b ∷ bodies n x') = omega arith in
      let all : 5 + length_at x + (extent n x' + extent (n - length (bodies n x')) y) ≡ (5 + length_at x + s) + extent (n - length (bodies n x')) y = omega arith in
      ap (λ (k : ℕ). extent (suc n) (take k x ++ y)) (extent_open n x is)
      ∙ extent_open n (z x y s w some) whole_z
      ∙ (λ i. 5 + (same x y s w some).1 i + extent n (behind x y s w some i))
      ∙ ap (λ (k : ℕ). 5 + length_at x + k) next
      ∙ all
      ∙ ap (λ (k : ℕ). (5 + length_at x + s) + extent k y) fewer
      ∙ ap (λ (l : List (List ℕ)). (5 + length_at x + s) + extent (suc n - length l) y) (sym (bodies_open n x is))
      ∙ ap (λ (k : ℕ). k + extent (suc n - length (bodies (suc n) x)) y) (sym (extent_open n x is))

-- what stands behind the records may be other bytes
pub bodies_swap : (n : ℕ) (x y : List ℕ) → 0 < length y → bodies n (take (extent n x) x ++ y) ≡ bodies n x ++ bodies (n - length (bodies n x)) y
bodies_swap zero x y some = refl
bodies_swap (suc n) x y some = by (cases_Bool (is_whole x)) (bodies_swap n (drop (5 + length_at x) x) y some)
  where
    by : (is_whole x ≡ true) ⊎ (is_whole x ≡ false) → bodies n (take (extent n (drop (5 + length_at x) x)) (drop (5 + length_at x) x) ++ y) ≡ bodies n (drop (5 + length_at x) x) ++ bodies (n - length (bodies n (drop (5 + length_at x) x))) y
        → bodies (suc n) (take (extent (suc n) x) x ++ y) ≡ bodies (suc n) x ++ bodies (suc n - length (bodies (suc n) x)) y
    by (inl is) next = bodies_step n x y some is next
    by (inr is) next =
        let all : suc n ≡ suc n - 0 = omega arith in
        ap (λ (k : ℕ). bodies (suc n) (take k x ++ y)) (extent_shut n x is) ∙ ap (λ (k : ℕ). bodies k y) all ∙ ap (λ (l : List (List ℕ)). l ++ bodies (suc n - length l) y) (sym (bodies_shut n x is))

pub damage_swap : (n at : ℕ) (x y : List ℕ) → 0 < length y → damage n at (take (extent n x) x ++ y) ≡ damage (n - length (bodies n x)) (at + extent n x) y
damage_swap zero at x y some = let e : at ≡ at + 0 = omega arith in ap (λ (k : ℕ). damage 0 k y) e
damage_swap (suc n) at x y some = by (cases_Bool (is_whole x)) (damage_swap n (at + (5 + length_at x)) (drop (5 + length_at x) x) y some)
  where
    by : (is_whole x ≡ true) ⊎ (is_whole x ≡ false) → damage n (at + (5 + length_at x)) (take (extent n (drop (5 + length_at x) x)) (drop (5 + length_at x) x) ++ y) ≡ damage (n - length (bodies n (drop (5 + length_at x) x))) (at + (5 + length_at x) + extent n (drop (5 + length_at x) x)) y
        → damage (suc n) at (take (extent (suc n) x) x ++ y) ≡ damage (suc n - length (bodies (suc n) x)) (at + extent (suc n) x) y
    by (inl is) next = damage_step n x y some is at next
    by (inr is) next =
        let e : at ≡ at + 0 = omega arith in
        let all : suc n ≡ suc n - 0 = omega arith in
        ap (λ (k : ℕ). damage (suc n) at (take k x ++ y)) (extent_shut n x is) ∙ (λ i. damage (all i) (e i) y)
        ∙ ap (λ (l : List (List ℕ)). damage (suc n - length l) (at + 0) y) (sym (bodies_shut n x is)) ∙ ap (λ (k : ℕ). damage (suc n - length (bodies (suc n) x)) (at + k) y) (sym (extent_shut n x is))

pub extent_swap : (n : ℕ) (x y : List ℕ) → 0 < length y → extent n (take (extent n x) x ++ y) ≡ extent n x + extent (n - length (bodies n x)) y
extent_swap zero x y some = refl
extent_swap (suc n) x y some = by (cases_Bool (is_whole x)) (extent_swap n (drop (5 + length_at x) x) y some)
  where
    by : (is_whole x ≡ true) ⊎ (is_whole x ≡ false) → extent n (take (extent n (drop (5 + length_at x) x)) (drop (5 + length_at x) x) ++ y) ≡ extent n (drop (5 + length_at x) x) + extent (n - length (bodies n (drop (5 + length_at x) x))) y
        → extent (suc n) (take (extent (suc n) x) x ++ y) ≡ extent (suc n) x + extent (suc n - length (bodies (suc n) x)) y
    by (inl is) next = extent_step n x y some is next
    by (inr is) next =
        let all : suc n ≡ suc n - 0 = omega arith in
        let none : extent (suc n) y ≡ 0 + extent (suc n) y = omega arith in
        ap (λ (k : ℕ). extent (suc n) (take k x ++ y)) (extent_shut n x is) ∙ none ∙ ap (λ (k : ℕ). 0 + extent k y) all
        ∙ ap (λ (l : List (List ℕ)). 0 + extent (suc n - length l) y) (sym (bodies_shut n x is)) ∙ ap (λ (k : ℕ). k + extent (suc n - length (bodies (suc n) x)) y) (sym (extent_shut n x is))

-- where nothing is damaged, a closed gate stands behind the records
pub ends : (n at : ℕ) (x : List ℕ) → damage n at x ≡ None → is_closed (drop (extent n x) x) ≡ true
ends zero at x none = by (cases_Bool (is_closed x))
  where
    by : (is_closed x ≡ true) ⊎ (is_closed x ≡ false) → is_closed x ≡ true
    by (inl is) = is
    by (inr is) = absurd (cc (rw is at none))
ends (suc n) at x none = by (cases_Bool (is_whole x)) (ends n (at + (5 + length_at x)) (drop (5 + length_at x) x))
  where
    closed : (is_closed x ≡ true) ⊎ (is_closed x ≡ false) → damage 0 at x ≡ None → is_closed x ≡ true
    closed (inl is) none = is
    closed (inr is) none = absurd (cc (rw is at none))

    by : (is_whole x ≡ true) ⊎ (is_whole x ≡ false) → (damage n (at + (5 + length_at x)) (drop (5 + length_at x) x) ≡ None → is_closed (drop (extent n (drop (5 + length_at x) x)) (drop (5 + length_at x) x)) ≡ true) → is_closed (drop (extent (suc n) x) x) ≡ true
    by (inl is) next = ap is_closed (ap (λ (k : ℕ). drop k x) (extent_open n x is) ∙ sym (drop-drop (extent n (drop (5 + length_at x) x)) (5 + length_at x) x)) ∙ next (sym (damage_open n x at is) ∙ none)
    by (inr is) next = ap (λ (k : ℕ). is_closed (drop k x)) (extent_shut n x is) ∙ closed (cases_Bool (is_closed x)) (sym (damage_shut n x at is) ∙ none)

pub closed_parts : (x : List ℕ) → is_closed x ≡ true → (0 < length x) × (get_or x 0 0 ≢ 1)
unfolding is_closed
closed_parts x is = (grind (arith, nat_tests), grind (arith, nat_tests))

-- a closed gate ends them
pub bodies_closed : (n : ℕ) (x : List ℕ) → 0 < length x → get_or x 0 0 ≢ 1 → (bodies n x ≡ []) × ((at : ℕ) → damage n at x ≡ None) × (extent n x ≡ 0)
bodies_closed zero [] some other = absurd (omega arith)
bodies_closed (suc n) [] some other = absurd (omega arith)
bodies_closed zero (g ∷ x) some other = (refl, (λ at. let s = shut g x other in rw s.1 refl), refl)
bodies_closed (suc n) (g ∷ x) some other = let s = shut g x other in (bodies_shut n (g ∷ x) s.0, (λ at. damage_shut n (g ∷ x) at s.0 ∙ rw s.1 refl), extent_shut n (g ∷ x) s.0)

-- one record and a closed gate
pub entry_whole : (b rest : List ℕ) → length b ≤ body_limit → Whole (1 ∷ (entry b ++ rest)) × (length_at (1 ∷ (entry b ++ rest)) ≡ length b)
unfolding length_at
entry_whole b rest small =
    let len : length_at (1 ∷ (entry b ++ rest)) ≡ length b = from_be_bytes-to_be_bytes_4 (length b) (omega (arith, small)) in
    let long : length (1 ∷ (entry b ++ rest)) ≡ 6 + (length b + length rest) = omega (arith, length-append (b ++ 0 ∷ []) rest, length-append b (0 ∷ [])) in
    (record { gate = refl; small = omega (arith, len, small); fits = omega (arith, len, long) }, len)

pub behind_gate : (b rest : List ℕ) → (drop 5 (1 ∷ (entry b ++ rest)) ≡ b ++ (0 ∷ rest))
behind_gate b rest = append_assoc b (0 ∷ []) rest

-- one record more, and a closed gate behind it
pub bodies_entry : (n : ℕ) (b rest : List ℕ) → length b ≤ body_limit → (bodies (suc n) (1 ∷ (entry b ++ rest)) ≡ b ∷ []) × ((at : ℕ) → damage (suc n) at (1 ∷ (entry b ++ rest)) ≡ None) × (extent (suc n) (1 ∷ (entry b ++ rest)) ≡ 5 + length b)
bodies_entry n b rest small =
    let x : List ℕ = 1 ∷ (entry b ++ rest) in
    let w = entry_whole b rest small in
    let is = is_whole_by x w.0 in
    let body : take (length_at x) (drop 5 x) ≡ b = ap (λ (k : ℕ). take k (drop 5 x)) w.1 ∙ ap (λ (l : List ℕ). take (length b) l) (behind_gate b rest) ∙ take_at b (0 ∷ rest) (length b) refl in
    let next : drop (5 + length_at x) x ≡ 0 ∷ rest =
    ap (λ (k : ℕ). drop (5 + k) x) w.1 ∙ sym (drop-drop (length b) 5 x) ∙ ap (λ (l : List ℕ). drop (length b) l) (behind_gate b rest) ∙ drop_at b (0 ∷ rest) (length b) refl in
    let none : (k : ℕ) → (bodies k (0 ∷ rest) ≡ []) × ((at : ℕ) → damage k at (0 ∷ rest) ≡ None) × (extent k (0 ∷ rest) ≡ 0) = λ k. bodies_closed k (0 ∷ rest) (omega arith) (omega arith) in (
      bodies_open n x is ∙ (λ i. body i ∷ bodies n (next i)) ∙ ap (λ (l : List (List ℕ)). b ∷ l) (none n).0,
      λ at. damage_open n x at is ∙ ap (λ (l : List ℕ). damage n (at + (5 + length_at x)) l) next ∙ (none n).1 (at + (5 + length_at x)),
      let e : 5 + length b + 0 ≡ 5 + length b = omega arith in extent_open n x is ∙ (λ i. 5 + w.1 i + extent n (next i)) ∙ ap (λ (k : ℕ). 5 + length b + k) (none n).2 ∙ e,
    )
