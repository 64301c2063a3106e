-- Reading the records one by one.
use Rattle.std.proofs.Common.{◌≡◌, ◌⊎◌, inl, inr, ℕ, zero, suc, ◌+◌, ◌-◌, ◌<◌, ◌≤◌, nat_lt, ◌&&◌, true, false, List, [], ◌∷◌, ◌++◌, length, take, drop, Option, Some, None, if◌then◌else◌, refl, sym, ◌∙◌, ap, arith, length-drop, append_assoc}
use Rattle.std.proofs.lemmas.List.{drop-drop, length-take-le}
use Rattle.std.proofs.lemmas.Bool.Decides.{nat_tests}
use Rattle.std.proofs.lemmas.Bool.{cases_Bool}
use Rattle.disk_journal.specs.Journal.{is_whole, is_closed, length_at, bodies, extent, damage, placed}
use Rattle.disk_journal.proofs.Records.{whole, bodies_open, bodies_shut, extent_open, extent_shut, damage_open, damage_shut}

-- what is read next
abbrev pub next : ℕ → List ℕ → Option ℕ
next left rest = if nat_lt 0 left && is_whole rest then Some (length_at rest) else None

pub record Next (left : ℕ) (rest : List ℕ) (n : ℕ) : Type 0 where
  pub more : 0 < left
  pub open_gate : is_whole rest ≡ true
  pub len : length_at rest ≡ n
  pub fits : 5 + n < length rest

positive : (m : ℕ) → nat_lt 0 (suc m) ≡ true
positive m = grind (arith, nat_tests)

next_open : (m : ℕ) (rest : List ℕ) → is_whole rest ≡ true → next (suc m) rest ≡ Some (length_at rest)
next_open m rest is = let p = positive m in rw (p, is) refl

next_shut : (m : ℕ) (rest : List ℕ) → is_whole rest ≡ false → next (suc m) rest ≡ None
next_shut m rest is = let p = positive m in rw (p, is) refl

pub is_next : (left : ℕ) (rest : List ℕ) (n : ℕ) → next left rest ≡ Some n → Next left rest n
is_next zero rest n is = absurd (cc is)
is_next (suc m) rest n is = by (cases_Bool (is_whole rest))
  where
    by : (is_whole rest ≡ true) ⊎ (is_whole rest ≡ false) → Next (suc m) rest n
    by (inl is_open) =
        let len : length_at rest ≡ n = cc (sym (next_open m rest is_open) ∙ is) in
        record { more = omega arith; open_gate = is_open; len = len; fits = omega (arith, len, (whole rest is_open).fits) }
    by (inr not_open) = absurd (cc (sym (next_shut m rest not_open) ∙ is))

pub stops : (left at : ℕ) (rest : List ℕ) → next left rest ≡ None → (bodies left rest ≡ []) × (extent left rest ≡ 0) × (damage left at rest ≡ (if is_closed rest then None else Some at))
stops zero at rest is = (refl, refl, refl)
stops (suc m) at rest is = by (cases_Bool (is_whole rest))
  where
    by : (is_whole rest ≡ true) ⊎ (is_whole rest ≡ false) → (bodies (suc m) rest ≡ []) × (extent (suc m) rest ≡ 0) × (damage (suc m) at rest ≡ (if is_closed rest then None else Some at))
    by (inl is_open) = absurd (none (sym (next_open m rest is_open) ∙ is))
      where
        none : Some (length_at rest) ≡ None → ⊥
        none e = absurd (cc e)
    by (inr not_open) = (bodies_shut m rest not_open, extent_shut m rest not_open, damage_shut m rest at not_open)

module _ (left at n : ℕ) (bytes : List ℕ) (is : Next left (drop at bytes) n) where
  abbrev rest : List ℕ
  rest = drop at bytes

  fewer : left ≡ suc (left - 1)
  fewer = omega (arith, is.more)

  behind : drop (5 + length_at rest) rest ≡ drop (at + (5 + n)) bytes
  behind = drop-drop (5 + length_at rest) at bytes ∙ ap (λ (k : ℕ). drop (at + (5 + k)) bytes) is.len

  pub within : at + (5 + n) ≤ length bytes
  within = omega (arith, is.fits, length-drop at bytes)

  abbrev pub body : List ℕ
  body = take n (drop 5 rest)

  body_len : length body ≡ n
  body_len = length-take-le n (drop 5 rest) (omega (arith, is.fits, length-drop 5 rest))

  bodies_next : bodies left rest ≡ body ∷ bodies (left - 1) (drop (at + (5 + n)) bytes)
  bodies_next = ap (λ (k : ℕ). bodies k rest) fewer ∙ bodies_open (left - 1) rest is.open_gate ∙ (λ i. take (is.len i) (drop 5 rest) ∷ bodies (left - 1) (behind i))

  pub extent_next : extent left rest ≡ 5 + n + extent (left - 1) (drop (at + (5 + n)) bytes)
  extent_next = ap (λ (k : ℕ). extent k rest) fewer ∙ extent_open (left - 1) rest is.open_gate ∙ (λ i. 5 + is.len i + extent (left - 1) (behind i))

  pub damage_next : damage left at rest ≡ damage (left - 1) (at + (5 + n)) (drop (at + (5 + n)) bytes)
  damage_next = ap (λ (k : ℕ). damage k at rest) fewer ∙ damage_open (left - 1) rest at is.open_gate ∙ (λ i. damage (left - 1) (at + (5 + is.len i)) (behind i))

  pub count_next : length (bodies left rest) ≡ 1 + length (bodies (left - 1) (drop (at + (5 + n)) bytes))
  count_next = ap (λ (l : List (List ℕ)). length l) bodies_next ∙ omega arith

  pub list_next : (list : List (ℕ × List ℕ)) → list ++ placed at (bodies left rest) ≡ (list ++ (at, body) ∷ []) ++ placed (at + (5 + n)) (bodies (left - 1) (drop (at + (5 + n)) bytes))
  list_next list =
      ap (λ (l : List (List ℕ)). list ++ placed at l) bodies_next
      ∙ ap (λ (k : ℕ). list ++ (at, body) ∷ placed (at + (5 + k)) (bodies (left - 1) (drop (at + (5 + n)) bytes))) body_len
      ∙ sym (append_assoc list ((at, body) ∷ []) (placed (at + (5 + n)) (bodies (left - 1) (drop (at + (5 + n)) bytes))))
