-- Sets of parties as the bits of a number, and their spelling.
use Rattle.std.proofs.Common.{◌≡◌, ◌⊎◌, inl, inr, ◌<◌, ◌≤◌, ◌+◌, ◌-◌, ◌*◌, ◌/◌, ◌%◌, ◌^◌, ℕ, zero, suc, Bool, true, false, cond, List, [], ◌∷◌, ◌++◌, length, Result, refl, ap, sym, subst, ◌∙◌, ◌≢◌, append_assoc, arith}
use Rattle.std.specs.Prelude.{◌==◌, filter}
use Rattle.std.specs.List.{flat_map, AllByRecursion, range_with_len}
use Rattle.std.proofs.lemmas.List.Concat.{flat_map-cons}
use Rattle.std.proofs.lemmas.Bool.{cases_lt}
use Rattle.std.proofs.lemmas.List.{length-append}
use Rattle.std.proofs.Math.Nat.{div-div-eq-div-mul, pow-suc}
use Rattle.net_base.specs.Laws.{Laws}
use Rattle.net_base.specs.Combining.{mapped_at, mapped_laws, restated_laws}
use Rattle.net_base.specs.Kinds.{between_at, between_laws}
use Rattle.net_base.specs.Runs.{Ascends, ascending8_at, ascending8_laws}
use Rattle.net_base.specs.declared.parties.PartySet.{PartySet}

-- whether a party is in a set: the party's bit is 1
abbrev pub has_party : PartySet → ℕ → Bool
has_party s p = s.0 / 2 ^ p % 2 == 1

-- the parties in a set, ascending
unfoldable pub members : PartySet → List ℕ
members s = filter (λ p. has_party s p) (range_with_len 0 16)

-- the limit of a set: each 16 bits are one
abbrev pub IsPartySet : PartySet → Type 0
IsPartySet s = s.0 < 2 ^ 16

-- u8 count, parties strictly ascending
unfoldable pub party_set : PartySet → List ℕ
party_set s = length (members s) ∷ members s

-- ---- reading a set

-- the bits of these parties
abbrev pub bits_of : List ℕ → ℕ
bits_of [] = 0
bits_of (p ∷ ps) = 2 ^ p + bits_of ps

-- the set of these parties
abbrev set_of : List ℕ → PartySet
set_of ps = record { 0 = bits_of ps }

-- reading a set of parties
unfoldable pub party_set_at : List ℕ → Result (PartySet × List ℕ) ℕ
party_set_at = mapped_at set_of (ascending8_at (λ p. p) 16 between_at)

-- ---- the members bit by bit

-- the parties i, i + 1, .. of n bits, the lowest bit standing for i
unfoldable pub members_from : ℕ → ℕ → ℕ → List ℕ
members_from i zero bits = []
members_from i (suc n) bits = cond (bits % 2 == 1) (i ∷ members_from (suc i) n (bits / 2)) (members_from (suc i) n (bits / 2))

-- the members from i on, by the bits from i on
from_bits : (all i n bits : ℕ) → bits ≡ all / 2 ^ i → filter (λ p. all / 2 ^ p % 2 == 1) (range_with_len i n) ≡ members_from i n bits
unfolding members_from
from_bits all i zero bits e = refl
from_bits all i (suc n) bits e =
    let one : i + 1 ≡ suc i = omega arith in
    let half : bits / 2 ≡ all / 2 ^ suc i = ap (λ (b : ℕ). b / 2) e ∙ div-div-eq-div-mul all (2 ^ i) 2 ∙ ap (λ (k : ℕ). all / k) (sym (pow-suc 2 i)) in
    let rest : filter (λ p. all / 2 ^ p % 2 == 1) (range_with_len (i + 1) n) ≡ members_from (suc i) n (bits / 2) = rw one (from_bits all (suc i) n (bits / 2) half) in
    rw (← e) (ap (λ (l : List ℕ). cond (bits % 2 == 1) (i ∷ l) l) rest)

-- the members by halving
pub members_is : (s : PartySet) → members s ≡ members_from 0 16 s.0
unfolding members
members_is s = from_bits s.0 0 16 s.0 (let one : s.0 / 2 ^ 0 ≡ s.0 = omega arith in sym one)

-- ---- a number below 2 ^ n is the set of its bits

-- a number whose bits are these parties
record Known (i n bits : ℕ) (ps : List ℕ) : Type 0 where
  fits : bits < 2 ^ n
  same : members_from i n bits ≡ ps
  worth : bits_of ps ≡ 2 ^ i * bits

-- the next power of two
pow_double : (n : ℕ) → 2 ^ suc n ≡ 2 * 2 ^ n
pow_double n = omega arith

-- a lowest bit that is 1 stands for a member
odd_member : (i n bits : ℕ) → members_from i (suc n) (1 + 2 * bits) ≡ i ∷ members_from (suc i) n bits
unfolding members_from
odd_member i n bits =
    let r : (1 + 2 * bits) % 2 ≡ 1 = omega arith in
    let q : (1 + 2 * bits) / 2 ≡ bits = omega arith in
    rw (r, q) refl

-- a lowest bit that is 0 stands for none
even_member : (i n bits : ℕ) → members_from i (suc n) (2 * bits) ≡ members_from (suc i) n bits
unfolding members_from
even_member i n bits =
    let r : (2 * bits) % 2 ≡ 0 = omega arith in
    let q : (2 * bits) / 2 ≡ bits = omega arith in
    rw (r, q) refl

-- the first party is i, or all are greater
higher : (i : ℕ) (ps : List ℕ) → AllByRecursion (λ p. p < 16) ps → Ascends (λ p. p) i ps → (AllByRecursion (λ p. p < 16) ps × Ascends (λ p. p) (suc i) ps) ⊎ ((rest : List ℕ) × ((ps ≡ i ∷ rest) × (AllByRecursion (λ p. p < 16) rest × Ascends (λ p. p) (suc i) rest)))
higher i [] all up = inl (tt, tt)
higher i (p ∷ ps) all up =
    elim (cases_lt i p) [
      | inl lt ↦ inl (all, (omega (arith, lt), up.1))
      | inr le ↦
          let same : p ≡ i = omega (arith, le, up.0) in
          inr (ps, (ap (λ (k : ℕ). k ∷ ps) same, (all.1, subst (λ (k : ℕ). Ascends (λ (q : ℕ). q) (suc k) ps) same up.1)))
    ]

-- bits one place further on
twice : (i b : ℕ) → 2 ^ suc i * b ≡ 2 ^ i * (2 * b)
twice i b = let p = pow_double i in grind (arith, p)

-- ascending parties are the bits of a number
known : (i n : ℕ) (ps : List ℕ) → i + n ≡ 16 → AllByRecursion (λ p. p < 16) ps → Ascends (λ p. p) i ps → (bits : ℕ) × Known i n bits ps
unfolding members_from
known i zero [] e all up = (0, record { fits = omega arith; same = refl; worth = omega arith })
known i zero (p ∷ ps) e all up = absurd (omega (arith, all.0, up.0))
known i (suc n) ps e all up =
    elim (higher i ps all up) [
      | inl h ↦
          let r = known (suc i) n ps (omega arith) h.0 h.1 in
          (2 * r.0, record { fits = omega (arith, r.1.fits); same = even_member i n r.0 ∙ r.1.same; worth = r.1.worth ∙ twice i r.0 })
      | inr h ↦
          let r = known (suc i) n h.0 (omega arith) h.1.1.0 h.1.1.1 in
          let worth : bits_of (i ∷ h.0) ≡ 2 ^ i * (1 + 2 * r.0) = omega (arith, r.1.worth, twice i r.0) in
          (1 + 2 * r.0, record { fits = omega (arith, r.1.fits); same = odd_member i n r.0 ∙ ap (λ (l : List ℕ). i ∷ l) r.1.same ∙ sym h.1.0; worth = ap bits_of h.1.0 ∙ worth })
    ]

-- the members of a number
record Members (i n bits : ℕ) : Type 0 where
  all : AllByRecursion (λ p. p < i + n) (members_from i n bits)
  up : Ascends (λ p. p) i (members_from i n bits)
  worth : bits_of (members_from i n bits) ≡ 2 ^ i * bits

-- what ascends from the next ascends from here
lower : (low : ℕ) (ps : List ℕ) → Ascends (λ p. p) (suc low) ps → Ascends (λ p. p) low ps
lower low [] up = tt
lower low (p ∷ ps) up = (omega (arith, up.0), up.1)

-- the bits of a number are ascending parties
made : (i n bits : ℕ) → bits < 2 ^ n → Members i n bits
unfolding members_from
made i zero bits lt = let none : bits ≡ 0 = omega arith in record { all = tt; up = tt; worth = rw none (omega arith) }
made i (suc n) bits lt =
    let half : bits / 2 < 2 ^ n = omega arith in
    let r = made (suc i) n (bits / 2) half in
    let top : suc i + n ≡ i + suc n = omega arith in
    let all' : AllByRecursion (λ p. p < i + suc n) (members_from (suc i) n (bits / 2)) = subst (λ (k : ℕ). AllByRecursion (λ (p : ℕ). p < k) (members_from (suc i) n (bits / 2))) top r.all in
    elim (cases_lt (bits % 2) 1) [
      | inl lt0 ↦
          let zero_bit : bits % 2 ≡ 0 = omega arith in
          let halves : bits ≡ 2 * (bits / 2) = omega arith in
          let same : members_from i (suc n) bits ≡ members_from (suc i) n (bits / 2) = rw zero_bit refl in
          record {
            all = subst (λ (l : List ℕ). AllByRecursion (λ (p : ℕ). p < i + suc n) l) (sym same) all';
            up = subst (λ (l : List ℕ). Ascends (λ (p : ℕ). p) i l) (sym same) (lower i (members_from (suc i) n (bits / 2)) r.up);
            worth = ap bits_of same ∙ r.worth ∙ twice i (bits / 2) ∙ ap (λ (b : ℕ). 2 ^ i * b) (sym halves);
          }
      | inr ge ↦
          let one_bit : bits % 2 ≡ 1 = omega arith in
          let halves : bits ≡ 1 + 2 * (bits / 2) = omega arith in
          let same : members_from i (suc n) bits ≡ i ∷ members_from (suc i) n (bits / 2) = rw one_bit refl in
          let worth : bits_of (i ∷ members_from (suc i) n (bits / 2)) ≡ 2 ^ i * (1 + 2 * (bits / 2)) = omega (arith, r.worth, twice i (bits / 2)) in
          record {
            all = subst (λ (l : List ℕ). AllByRecursion (λ (p : ℕ). p < i + suc n) l) (sym same) (omega arith, all');
            up = subst (λ (l : List ℕ). Ascends (λ (p : ℕ). p) i l) (sym same) (omega arith, r.up);
            worth = ap bits_of same ∙ worth ∙ ap (λ (b : ℕ). 2 ^ i * b) (sym halves);
          }
    ]

-- parties, each of one byte
singles : (ps : List ℕ) → flat_map (λ p. p ∷ []) ps ≡ ps
singles [] = refl
singles (p ∷ ps) = flat_map-cons (λ (q : ℕ). q ∷ []) p ps ∙ ap (λ (l : List ℕ). p ∷ l) (singles ps)

-- n bits stand for at most n parties
pub few_members : (i n bits : ℕ) → length (members_from i n bits) ≤ n
unfolding members_from
few_members i zero bits = omega arith
few_members i (suc n) bits =
    elim (bits % 2 == 1) as (λ (b : Bool). length (cond b (i ∷ members_from (suc i) n (bits / 2)) (members_from (suc i) n (bits / 2))) ≤ suc n) [
      | true ↦ omega (arith, few_members (suc i) n (bits / 2))
      | false ↦ omega (arith, few_members (suc i) n (bits / 2))
    ]

-- the laws of sets of parties
pub party_set_laws : Laws IsPartySet party_set party_set_at
unfolding party_set party_set_at
party_set_laws =
    mapped_laws set_of
    (ascending8_laws {within = λ p. p < 16} {spelling = λ p. p ∷ []} (λ p. p) 16 (λ p h. h)
    (λ low high lt top. restated_laws (λ p h. ((omega (arith, h), h), refl)) (λ p h. h.1) (between_laws low high lt)))
    (record {
      keeps = λ ps h.
          let k = known 0 16 ps refl h.1.0 h.1.1 in
          let worth : bits_of ps ≡ k.0 = omega (arith, k.1.worth) in
          let same : members (set_of ps) ≡ ps = members_is (set_of ps) ∙ ap (λ (b : ℕ). members_from 0 16 b) worth ∙ k.1.same in
          (omega (arith, worth, k.1.fits), ap (λ (l : List ℕ). length l ∷ l) same ∙ ap (λ (l : List ℕ). length ps ∷ l) (sym (singles ps)));
      from = λ s h.
          let m = made 0 16 s.0 h in
          let worth : bits_of (members_from 0 16 s.0) ≡ s.0 = omega (arith, m.worth) in
          (members_from 0 16 s.0, ((few_members 0 16 s.0, (m.all, m.up)), λ i. record { 0 = worth i }));
    })

-- ---- a bit at a time, as loops go

-- one more party, or not
picked : (b : Bool) (p : ℕ) (ps : List ℕ) → cond b (p ∷ ps) ps ≡ (cond b (p ∷ []) []) ++ ps
picked true p ps = refl
picked false p ps = refl

-- a bit counts one member or none
one_bit : (i bits : ℕ) → length (cond (bits % 2 == 1) (i ∷ []) []) ≡ bits % 2
one_bit i bits =
    elim (cases_lt (bits % 2) 1) [
      | inl lt0 ↦ let e : bits % 2 ≡ 0 = omega arith in rw e refl
      | inr ge ↦ let e : bits % 2 ≡ 1 = omega arith in rw e refl
    ]

-- the members, one bit further on
pub member_step : (i n bits : ℕ) → i < 16 → n ≡ 16 - i → members_from i n bits ≡ (cond (bits % 2 == 1) (i ∷ []) []) ++ members_from (i + 1) (16 - (i + 1)) (bits / 2)
unfolding members_from
member_step i n bits lt e =
    let k : n ≡ suc (16 - (i + 1)) = omega arith in
    let j : suc i ≡ i + 1 = omega arith in
    rw (k, ← j) (picked (bits % 2 == 1) i (members_from (suc i) (16 - suc i) (bits / 2)))

-- the number of members, one bit further on
pub count_step : (i bits : ℕ) → i < 16 → length (members_from i (16 - i) bits) ≡ bits % 2 + length (members_from (i + 1) (16 - (i + 1)) (bits / 2))
count_step i bits lt = ap length (member_step i (16 - i) bits lt refl) ∙ length-append _ _ ∙ ap (λ (k : ℕ). k + length (members_from (i + 1) (16 - (i + 1)) (bits / 2))) (one_bit i bits)

-- no bits, no members
pub no_member : (i n bits : ℕ) → n ≡ 0 → members_from i n bits ≡ []
unfolding members_from
no_member i n bits e = rw e refl

-- a party that is written
pub step_in : (i bits : ℕ) (text whole : List ℕ) → i < 16 → bits % 2 ≡ 1 → text ++ members_from i (16 - i) bits ≡ whole → (text ++ i ∷ []) ++ members_from (i + 1) (16 - (i + 1)) (bits / 2) ≡ whole
step_in i bits text whole lt odd so_far =
    let step : members_from i (16 - i) bits ≡ i ∷ members_from (i + 1) (16 - (i + 1)) (bits / 2) = member_step i (16 - i) bits lt refl ∙ ap (λ (r : ℕ). (cond (r == 1) (i ∷ []) []) ++ members_from (i + 1) (16 - (i + 1)) (bits / 2)) odd in
    append_assoc text (i ∷ []) _ ∙ ap (λ (l : List ℕ). text ++ l) (sym step) ∙ so_far

-- a party that is passed over
pub step_out : (i bits : ℕ) (text whole : List ℕ) → i < 16 → bits % 2 ≢ 1 → text ++ members_from i (16 - i) bits ≡ whole → text ++ members_from (i + 1) (16 - (i + 1)) (bits / 2) ≡ whole
step_out i bits text whole lt not_odd so_far =
    let even : bits % 2 ≡ 0 = omega arith in
    let step : members_from i (16 - i) bits ≡ members_from (i + 1) (16 - (i + 1)) (bits / 2) = member_step i (16 - i) bits lt refl ∙ ap (λ (r : ℕ). (cond (r == 1) (i ∷ []) []) ++ members_from (i + 1) (16 - (i + 1)) (bits / 2)) even in
    ap (λ (l : List ℕ). text ++ l) (sym step) ∙ so_far
