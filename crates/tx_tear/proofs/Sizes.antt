-- How many values a group of a tear-off shows.
use Rattle.std.proofs.Common.{◌≡◌, ◌≤◌, ◌<◌, ℕ, zero, suc, List, [], ◌∷◌, length, Option, Some, None, Result, Ok, Err, IfOk, get_or, refl, sym, ap, subst, arith}
use Rattle.std.specs.List.{AllByRecursion}
use Rattle.net_base.specs.Forms.{ListWithin}
use Rattle.ledger_types.specs.declared.torn.TornPart.{TornPart}
use Rattle.ledger_types.specs.declared.torn.TornGroup.{TornGroup}
use Rattle.ledger_types.specs.declared.torn.TornGroup.TheVariants.{Shown}
use Rattle.ledger_types.specs.declared.torn.TornTx.{TornTx}
use Rattle.ledger_types.specs.Torn.{IsTornGroup, IsTornTx}
use Rattle.ledger_types.specs.Tears.{whole, joined, spelt_by}
use Rattle.tx_tear.specs.declared.reading.TearFault.{TearFault}
use Rattle.tx_tear.specs.Telling.{Tells}

all_or : {X : Type 0} (P : X → Type 0) (xs : List X) (i : ℕ) (d x : X) → AllByRecursion P xs → i < length xs → x ≡ get_or xs i d → P x
all_or P [] i d x h lt e = absurd (omega (arith, lt))
all_or P (y ∷ xs) zero d x h lt e = subst P (sym e) h.0
all_or P (y ∷ xs) (suc i) d x h lt e = all_or P xs i d x h.1 (omega (arith, lt)) e

-- as many values as parts
spelt_length : {V : Type 0} (reading : List ℕ → Result (V × List ℕ) ℕ) (parts : List TornPart) (vs : List V) → spelt_by reading parts ≡ Some vs → length vs ≡ length parts
spelt_length {V} reading [] vs e = let none : [] ≡ vs = cc in ap (λ (l : List V). length l) (sym none)
spelt_length {V} reading (p ∷ parts) vs e = by (whole (reading p.bytes)) (spelt_by reading parts) (λ ws f. spelt_length reading parts ws f) e
  where
    by : (o : Option V) (rest : Option (List V)) → ((ws : List V) → rest ≡ Some ws → length ws ≡ length parts) → joined o rest ≡ Some vs → length vs ≡ length (p ∷ parts)
    by None rest f e = absurd cc
    by (Some v) None f e = absurd cc
    by (Some v) (Some ws) f e = let same : v ∷ ws ≡ vs = cc in omega (arith, f ws refl, ap (λ (l : List V). length l) (sym same))

-- a group of a tear-off within its limits shows at most 64 parts
shown_few : (torn : TornTx) (k : ℕ) (d : TornGroup) (parts : List TornPart) → IsTornTx torn → k < length torn.groups → Shown parts ≡ get_or torn.groups k d → length parts ≤ 64
shown_few torn k d parts within lt is = (all_or IsTornGroup torn.groups k d (Shown parts) within.1.0.1 lt is).0

-- so what is read of it are at most 64 values
pub shown_within : {V : Type 0} (within : V → Type 0) (reading : List ℕ → Result (V × List ℕ) ℕ) (torn : TornTx) (k : ℕ) (d : TornGroup) (parts : List TornPart) (r : Result (List V) TearFault)
    → IsTornTx torn → k < length torn.groups → Shown parts ≡ get_or torn.groups k d → Tells r (spelt_by reading parts) → IfOk r (AllByRecursion within) → IfOk r (ListWithin 64 within)
shown_within within reading torn k d parts (Ok vs) limits lt is tells all = (omega (arith, spelt_length reading parts vs tells, shown_few torn k d parts limits lt is), all)
shown_within within reading torn k d parts (Err e) limits lt is tells all = tt
