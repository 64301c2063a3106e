-- Bits of numbers that stand for sets of parties.
use Rattle.std.proofs.Common.{◌≡◌, ◌≢◌, ◌⊎◌, inl, inr, ℕ, ◌-◌, ◌*◌, ◌/◌, ◌%◌, ◌^◌, ◌<◌, ◌≤◌, Bool, true, false, refl, ap, sym, ◌∙◌, arith}
use Rattle.std.specs.Prelude.{◌==◌, ◌||◌, ◌&&◌, not, bit_and, bit_or, min, max}
use Rattle.std.specs.Int.{bit_at, w16}
use Rattle.std.proofs.lemmas.Bool.{cases_lt, eqb-true, eqb-false}
use Rattle.std.proofs.lemmas.Nat.Bits.{bit_at_or, bit_at_and, bit_at-lt, bit_at-pow_same, bit_at-pow_other, bit_at_above, bit_at_not}
use Rattle.std.proofs.Math.Pow.{pow_mono}

-- a bit is 0 or 1
one_bit : (b : ℕ) → b < 2 → (b ≡ 0) ⊎ (b ≡ 1)
one_bit b lt =
    elim (cases_lt b 1) [
      | inl low ↦ inl (omega arith)
      | inr high ↦ inr (omega arith)
    ]

or_is : (a b : ℕ) → a < 2 → b < 2 → (max a b == 1) ≡ ((a == 1) || (b == 1))
or_is a b la lb =
    elim (one_bit a la) [
      | inl e ↦ elim (one_bit b lb) [ inl f ↦ rw (e, f) refl | inr f ↦ rw (e, f) refl ]
      | inr e ↦ elim (one_bit b lb) [ inl f ↦ rw (e, f) refl | inr f ↦ rw (e, f) refl ]
    ]

or_swap : (a b : Bool) → (a || b) ≡ (b || a)
or_swap true true = refl
or_swap true false = refl
or_swap false true = refl
or_swap false false = refl

pub union_is : (a b p : ℕ) → (bit_or a b / 2 ^ p % 2 == 1) ≡ ((a / 2 ^ p % 2 == 1) || (b / 2 ^ p % 2 == 1))
union_is a b p = ap (λ (n : ℕ). n == 1) (bit_at_or a b p) ∙ or_is (bit_at a p) (bit_at b p) (bit_at-lt a p) (bit_at-lt b p)

pub above_is : (a p : ℕ) → a < 2 ^ 16 → 16 ≤ p → (a / 2 ^ p % 2 == 1) ≡ false
above_is a p lt le = ap (λ (n : ℕ). n == 1) (bit_at_above a 16 p lt le)

single_is : (k p : ℕ) → (2 ^ k / 2 ^ p % 2 == 1) ≡ (p == k)
single_is k p =
    elim (p == k) as (λ (t : Bool). (p == k) ≡ t → (2 ^ k / 2 ^ p % 2 == 1) ≡ t) [
      | true ↦ λ e. let same : p ≡ k = eqb-true p k e in rw same (ap (λ (n : ℕ). n == 1) (bit_at-pow_same k))
      | false ↦ λ e. let other : p ≢ k = eqb-false p k e in ap (λ (n : ℕ). n == 1) (bit_at-pow_other k p other)
    ] refl

pub with_is : (a k p : ℕ) → k < 16 → (bit_or a (1 * 2 ^ k % 65536) / 2 ^ p % 2 == 1) ≡ ((p == k) || (a / 2 ^ p % 2 == 1))
with_is a k p lt =
    let most : 2 ^ k ≤ 2 ^ 15 = pow_mono {i = k} {j = 15} (omega arith) in
    let small : 1 * 2 ^ k % 65536 ≡ 2 ^ k = omega (arith, most) in
    rw small (union_is a (2 ^ k) p ∙ or_swap (a / 2 ^ p % 2 == 1) (2 ^ k / 2 ^ p % 2 == 1) ∙ ap (λ (t : Bool). t || (a / 2 ^ p % 2 == 1)) (single_is k p))

and_is : (a b : ℕ) → a < 2 → b < 2 → (min a (1 - b) == 1) ≡ ((a == 1) && not (b == 1))
and_is a b la lb =
    elim (one_bit a la) [
      | inl e ↦ elim (one_bit b lb) [ inl f ↦ rw (e, f) refl | inr f ↦ rw (e, f) refl ]
      | inr e ↦ elim (one_bit b lb) [ inl f ↦ rw (e, f) refl | inr f ↦ rw (e, f) refl ]
    ]

min_zero : (b : ℕ) → min 0 b ≡ 0
min_zero b = omega arith

pub without_is : (a b p : ℕ) → a < 2 ^ 16 → b < 2 ^ 16 → (bit_and a (65535 - b) / 2 ^ p % 2 == 1) ≡ ((a / 2 ^ p % 2 == 1) && not (b / 2 ^ p % 2 == 1))
without_is a b p la lb =
    elim (cases_lt p 16) [
      | inl lt ↦
          ap (λ (n : ℕ). n == 1) (bit_at_and a (65535 - b) p ∙ ap (λ (n : ℕ). min (bit_at a p) n) (bit_at_not w16 b p lb lt))
          ∙ and_is (bit_at a p) (bit_at b p) (bit_at-lt a p) (bit_at-lt b p)
      | inr le ↦
          let none : bit_at a p ≡ 0 = bit_at_above a 16 p la le in
          ap (λ (n : ℕ). n == 1) (bit_at_and a (65535 - b) p ∙ ap (λ (n : ℕ). min n (bit_at (65535 - b) p)) none ∙ min_zero (bit_at (65535 - b) p))
          ∙ sym (ap (λ (t : Bool). t && not (b / 2 ^ p % 2 == 1)) (above_is a p la le))
    ]
