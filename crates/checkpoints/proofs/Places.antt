-- Where a number stands among ascending ones.
use Rattle.std.proofs.Common.{◌≡◌, inl, inr, ℕ, suc, ◌+◌, ◌-◌, ◌<◌, ◌≤◌, Bool, true, false, List, ◌∷◌, ◌++◌, length, get_or, Result, Ok, Err, refl, sym, ap, subst, ◌∙◌, arith}
use Rattle.std.specs.Prelude.{MatchResult, if◌then◌else◌}
use Rattle.std.specs.List.{AllByRecursion}
use Rattle.std.proofs.lemmas.Bool.{cases_lt}
use Rattle.std.proofs.lemmas.List.{get_or_append_left, get_or-append_right, length-append}
use Rattle.checkpoints.specs.Tables.{where_true}
use Rattle.checkpoints.proofs.Live.{at_place}

-- a place among the numbers in front
in_lower : (x k : ℕ) (lower rest : List ℕ) → AllByRecursion (λ n. n < x) lower → k < length lower → get_or (lower ++ rest) k 0 < x
in_lower x k lower rest all lt = subst (λ (y : ℕ). y < x) (sym (get_or_append_left lower rest 0 k lt)) (at_place (λ n. n < x) lower k all lt)

-- a place behind them
behind : (k m : ℕ) (lower rest : List ℕ) → length lower + m ≡ k → get_or (lower ++ rest) k 0 ≡ get_or rest m 0
behind k m lower rest e = let le : length lower ≤ k = omega (arith, e) in let same : k - length lower ≡ m = omega (arith, e) in get_or-append_right lower rest (length lower) k 0 refl le ∙ ap (λ (j : ℕ). get_or rest j 0) same

-- a place among the numbers above
in_upper : (x k m : ℕ) (lower upper : List ℕ) → AllByRecursion (λ n. x < n) upper → length lower + m ≡ k → m < length upper → x < get_or (lower ++ upper) k 0
in_upper x k m lower upper all e lt = subst (λ (y : ℕ). x < y) (sym (behind k m lower upper e)) (at_place (λ n. x < n) upper m all lt)

-- what a search tells of the place
abbrev pub Searched : ℕ → List ℕ → Result ℕ ℕ → Type 0
Searched x xs r = MatchResult r (λ i. (i < length xs) × (get_or xs i 0 ≡ x)) (λ i. (i ≤ length xs) × ((k : ℕ) → k < i → get_or xs k 0 < x) × ((k : ℕ) → i ≤ k → k < length xs → x < get_or xs k 0))

-- whether the number is there or not, and where
abbrev pub spot : Bool → ℕ → Result ℕ ℕ
spot there i = if there then Ok i else Err i

-- it is there, and was found
there_found : (lower upper : List ℕ) (x i : ℕ) → i < length (lower ++ x ∷ upper) → get_or (lower ++ x ∷ upper) i 0 ≡ x → AllByRecursion (λ n. n < x) lower → AllByRecursion (λ n. x < n) upper → i ≡ length lower
there_found lower upper x i lt is all_lower all_upper =
    elim (cases_lt i (length lower)) [
      | inl less ↦ absurd (omega (arith, is, in_lower x i lower (x ∷ upper) all_lower less))
      | inr more ↦
          elim (cases_lt (length lower) i) [
            | inl past ↦
                let m = i - length lower - 1 in
                let e : length lower + suc m ≡ i = omega (arith, past) in
                let in_range : m < length upper = omega (arith, lt, past, length-append lower (x ∷ upper)) in
                let here : get_or (lower ++ x ∷ upper) i 0 ≡ get_or upper m 0 = behind i (suc m) lower (x ∷ upper) e in
                absurd (omega (arith, is, here, at_place (λ n. x < n) upper m all_upper in_range))
            | inr not_past ↦ omega (arith, more, not_past)
          ]
    ]

-- it isn't there, and wasn't found
absent_missed : (lower upper : List ℕ) (x i : ℕ) → i ≤ length (lower ++ upper) → ((k : ℕ) → k < i → get_or (lower ++ upper) k 0 < x) → ((k : ℕ) → i ≤ k → k < length (lower ++ upper) → x < get_or (lower ++ upper) k 0) → AllByRecursion (λ n. n < x) lower → AllByRecursion (λ n. x < n) upper → i ≡ length lower
absent_missed lower upper x i le less more all_lower all_upper =
    elim (cases_lt i (length lower)) [
      | inl early ↦
          let in_range : i < length (lower ++ upper) = omega (arith, early, length-append lower upper) in
          absurd (omega (arith, in_lower x i lower upper all_lower early, more i (omega arith) in_range))
      | inr not_early ↦
          elim (cases_lt (length lower) i) [
            | inl late ↦
                let in_range : 0 < length upper = omega (arith, late, le, length-append lower upper) in
                absurd (omega (arith, less (length lower) late, in_upper x (length lower) 0 lower upper all_upper (omega arith) in_range))
            | inr not_late ↦ omega (arith, not_early, not_late)
          ]
    ]

-- it is there, so it is found
there_missed : (lower upper : List ℕ) (x i : ℕ) → ((k : ℕ) → k < i → get_or (lower ++ x ∷ upper) k 0 < x) → ((k : ℕ) → i ≤ k → k < length (lower ++ x ∷ upper) → x < get_or (lower ++ x ∷ upper) k 0) → ⊥
there_missed lower upper x i less more =
    let here : get_or (lower ++ x ∷ upper) (length lower) 0 ≡ x = behind (length lower) 0 lower (x ∷ upper) (omega arith) in
    let in_range : length lower < length (lower ++ x ∷ upper) = omega (arith, length-append lower (x ∷ upper)) in
    elim (cases_lt (length lower) i) [
      | inl early ↦ absurd (omega (arith, here, less (length lower) early))
      | inr late ↦ absurd (omega (arith, here, more (length lower) late in_range))
    ]

-- it isn't there, so it isn't found
absent_found : (lower upper : List ℕ) (x i : ℕ) → i < length (lower ++ upper) → get_or (lower ++ upper) i 0 ≡ x → AllByRecursion (λ n. n < x) lower → AllByRecursion (λ n. x < n) upper → ⊥
absent_found lower upper x i lt is all_lower all_upper =
    elim (cases_lt i (length lower)) [
      | inl less ↦ absurd (omega (arith, is, in_lower x i lower upper all_lower less))
      | inr more ↦
          let m = i - length lower in
          let in_range : m < length upper = omega (arith, lt, more, length-append lower upper) in
          absurd (omega (arith, is, in_upper x i m lower upper all_upper (omega (arith, more)) in_range))
    ]

-- the place that a search tells is the one between the numbers below and above
pub placed : (lower upper : List ℕ) (there : Bool) (x : ℕ) (r : Result ℕ ℕ) → Searched x (lower ++ (where_true there x ++ upper)) r → AllByRecursion (λ n. n < x) lower → AllByRecursion (λ n. x < n) upper → r ≡ spot there (length lower)
placed lower upper true x (Ok i) h all_lower all_upper = ap (λ (j : ℕ). Ok j) (there_found lower upper x i h.0 h.1 all_lower all_upper)
placed lower upper true x (Err i) h all_lower all_upper = absurd (there_missed lower upper x i h.1 h.2)
placed lower upper false x (Ok i) h all_lower all_upper = absurd (absent_found lower upper x i h.0 h.1 all_lower all_upper)
placed lower upper false x (Err i) h all_lower all_upper = ap (λ (j : ℕ). Err j) (absent_missed lower upper x i h.0 h.1 h.2 all_lower all_upper)
