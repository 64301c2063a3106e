-- Reading the members of a set one after the other.
use Rattle.std.proofs.Common.{◌≡◌, ℕ, suc, ◌-◌, ◌+◌, ◌*◌, ◌≤◌, ◌<◌, ◌^◌, List, [], ◌∷◌, ◌++◌, Result, Ok, Err, refl, ap, ◌∙◌, arith}
use Rattle.std.proofs.Math.Pow.{pow_mono}
use Rattle.net_base.specs.declared.fault.PartFault.{PartFault}
use Rattle.net_base.specs.declared.fault.PartFault.TheVariants as faults
use Rattle.net_base.specs.Parts.{Fails}
use Rattle.net_base.specs.Combining.{mapped_at}
use Rattle.net_base.specs.Kinds.{between_at}
use Rattle.net_base.specs.Runs.{run_at, ascending_at}
use Rattle.net_base.proofs.Items.{with_front, run_goes_on, run_ends, run_is_done}
use Rattle.net_base.specs.Parties.{bits_of}

abbrev step : ℕ → ℕ → List ℕ → Result (ℕ × List ℕ) ℕ
step k low = between_at low (16 - k)

abbrev next : ℕ → ℕ → ℕ
next low p = p + 1

-- what was read of the set
pub record Partly (count i low : ℕ) (left : List ℕ) (bits : ℕ) (start : List ℕ) : Type 0 where
  pub front : List ℕ
  pub given : with_front front (run_at step next (count - i) low left) ≡ ascending_at (λ p. p) 16 between_at count start
  pub worth : bits ≡ bits_of front
  pub small : bits < 2 ^ low
  pub low_fits : low ≤ 16

bits_more : (ps : List ℕ) (p : ℕ) → bits_of (ps ++ p ∷ []) ≡ bits_of ps + 2 ^ p
bits_more [] p = omega arith
bits_more (q ∷ ps) p = omega (arith, bits_more ps p)

pub partly_fits : (p bits low : ℕ) → bits < 2 ^ low → low ≤ p → p < 16 → bits + 2 ^ p < 2 ^ 16
partly_fits p bits low small le lt =
    let a : 2 ^ low ≤ 2 ^ p = pow_mono le in
    let b : 2 ^ p ≤ 2 ^ 15 = pow_mono {i = p} {j = 15} (omega arith) in
    omega (arith, a, b, small)

double : (p : ℕ) → 2 ^ (p + 1) ≡ 2 * 2 ^ p
double p = let one : p + 1 ≡ suc p = omega arith in rw one (omega arith)

no_front : (r : Result (List ℕ × List ℕ) ℕ) → with_front [] r ≡ r
no_front (Ok x) = refl
no_front (Err e) = refl

pub partly_none : (count : ℕ) (start : List ℕ) → Partly count 0 0 start 0 start
partly_none count start =
    let whole : count - 0 ≡ count = omega arith in
    record {
      front = [];
      given = ap (λ (n : ℕ). with_front [] (run_at step next n 0 start)) whole ∙ no_front (run_at step next count 0 start);
      worth = refl;
      small = omega arith;
      low_fits = omega arith;
    }

pub partly_more : (count i low : ℕ) (left : List ℕ) (bits : ℕ) (start : List ℕ) (p : ℕ) (after : List ℕ) → Partly count i low left bits start → i < count → between_at low (16 - (count - (i + 1))) left ≡ Ok (p, after) → low ≤ p → p < 16 → Partly count (i + 1) (p + 1) after (bits + 2 ^ p) start
partly_more count i low left bits start p after h lt e le top =
    let a : 2 ^ low ≤ 2 ^ p = pow_mono le in
    let small = h.small in
    let worth = h.worth in
    record {
      front = h.front ++ p ∷ [];
      given = run_goes_on step next h.front count i low left p after (ascending_at (λ (q : ℕ). q) 16 between_at count start) lt e h.given;
      worth = omega (arith, worth, bits_more h.front p);
      small = omega (arith, small, a, double p);
      low_fits = omega arith;
    }

pub partly_done : (count i low : ℕ) (left : List ℕ) (bits : ℕ) (start : List ℕ) → Partly count i low left bits start → count ≤ i → mapped_at bits_of (ascending_at (λ p. p) 16 between_at count) start ≡ Ok (bits, left)
partly_done count i low left bits start h le =
    let e = run_is_done step next h.front count i low left (ascending_at (λ (q : ℕ). q) 16 between_at count start) le h.given in
    rw (e, h.worth) refl

pub partly_ends : (e : PartFault) (count i low : ℕ) (left : List ℕ) (bits : ℕ) (start : List ℕ) → Partly count i low left bits start → i < count → Fails e (between_at low (16 - (count - (i + 1))) left) → Fails e (mapped_at bits_of (ascending_at (λ p. p) 16 between_at count) start)
partly_ends faults.Memory count i low left bits start h lt f = tt
partly_ends (faults.Left n) count i low left bits start h lt f =
    let e = run_ends step next (faults.Left n) h.front count i low left (ascending_at (λ (q : ℕ). q) 16 between_at count start) lt f h.given in
    rw e refl
