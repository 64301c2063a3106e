-- Reading items one after the other, as a loop does.
use Rattle.std.proofs.Common.{◌≡◌, ℕ, suc, ◌-◌, ◌+◌, ◌≤◌, ◌<◌, List, [], ◌∷◌, ◌++◌, Result, Ok, Err, refl, sym, ap, ◌∙◌, append_assoc, arith}
use Rattle.std.proofs.lemmas.List.{append-nil}
use Rattle.net_base.specs.declared.fault.PartFault.{PartFault}
use Rattle.net_base.specs.declared.fault.PartFault.TheVariants as faults
use Rattle.net_base.specs.Parts.{Fails, Grows}
use Rattle.net_base.specs.Forms.{◌>>=◌, items_at}
use Rattle.net_base.specs.Runs.{run_at}

-- what was read before, and what is still read
abbrev pub with_front : {V : Type 0} → List V → Result (List V × List ℕ) ℕ → Result (List V × List ℕ) ℕ
with_front front read = read >>= λ x. Ok (front ++ x.0, x.1)

regroup : {V : Type 0} (front : List V) (v : V) (read : Result (List V × List ℕ) ℕ) → with_front front (read >>= λ x. Ok (v ∷ x.0, x.1)) ≡ with_front (front ++ v ∷ []) read
regroup {V} front v (Ok x) = ap (λ (vs : List V). Ok (vs, x.1)) (simp append_assoc)
regroup front v (Err f) = refl

pub goes_on : {V : Type 0} (one : List ℕ → Result (V × List ℕ) ℕ) (front : List V) (count i : ℕ) (bytes : List ℕ) (v : V) (after : List ℕ) (total : Result (List V × List ℕ) ℕ) → i < count → one bytes ≡ Ok (v, after)
    → with_front front (items_at one (count - i) bytes) ≡ total → with_front (front ++ v ∷ []) (items_at one (count - (i + 1)) after) ≡ total
unfolding items_at
goes_on one front count i bytes v after total lt h so_far =
    let k : count - i ≡ suc (count - (i + 1)) = omega arith in
    let step : with_front front (items_at one (count - i) bytes) ≡ with_front (front ++ v ∷ []) (items_at one (count - (i + 1)) after) = rw (k, h) (regroup front v (items_at one (count - (i + 1)) after)) in
    sym step ∙ so_far

pub ends : {V : Type 0} (one : List ℕ → Result (V × List ℕ) ℕ) (e : PartFault) (front : List V) (count i : ℕ) (bytes : List ℕ) (total : Result (List V × List ℕ) ℕ) → i < count → Fails e (one bytes)
    → with_front front (items_at one (count - i) bytes) ≡ total → Fails e total
unfolding items_at
ends one faults.Memory front count i bytes total lt h so_far = tt
ends one (faults.Left f) front count i bytes total lt h so_far =
    let k : count - i ≡ suc (count - (i + 1)) = omega arith in
    let step : with_front front (items_at one (count - i) bytes) ≡ Err f = rw (k, h) refl in
    sym so_far ∙ step

pub is_done : {V : Type 0} (one : List ℕ → Result (V × List ℕ) ℕ) (front : List V) (count i : ℕ) (bytes : List ℕ) (total : Result (List V × List ℕ) ℕ) → count ≤ i → with_front front (items_at one (count - i) bytes) ≡ total → total ≡ Ok (front, bytes)
unfolding items_at
is_done {V} one front count i bytes total le so_far =
    let k : count - i ≡ 0 = omega arith in
    let step : with_front front (items_at one (count - i) bytes) ≡ Ok (front, bytes) = rw k (ap (λ (vs : List V). Ok (vs, bytes)) (append-nil front)) in
    sym so_far ∙ step

-- what grew from more grew from less
pub Grows-back : (old x new : List ℕ) → Grows (old ++ x) new → Grows old new
Grows-back old x new g = (x ++ g.0, g.1 ∙ append_assoc old x g.0)

-- ---- the same where items depend on those before

pub run_goes_on : {S V : Type 0} (step : ℕ → S → List ℕ → Result (V × List ℕ) ℕ) (next : S → V → S) (front : List V) (count i : ℕ) (s : S) (bytes : List ℕ) (v : V) (after : List ℕ) (total : Result (List V × List ℕ) ℕ) → i < count → step (count - (i + 1)) s bytes ≡ Ok (v, after)
    → with_front front (run_at step next (count - i) s bytes) ≡ total → with_front (front ++ v ∷ []) (run_at step next (count - (i + 1)) (next s v) after) ≡ total
unfolding run_at
run_goes_on step next front count i s bytes v after total lt h so_far =
    let k : count - i ≡ suc (count - (i + 1)) = omega arith in
    let one : with_front front (run_at step next (count - i) s bytes) ≡ with_front (front ++ v ∷ []) (run_at step next (count - (i + 1)) (next s v) after) = rw (k, h) (regroup front v (run_at step next (count - (i + 1)) (next s v) after)) in
    sym one ∙ so_far

pub run_ends : {S V : Type 0} (step : ℕ → S → List ℕ → Result (V × List ℕ) ℕ) (next : S → V → S) (e : PartFault) (front : List V) (count i : ℕ) (s : S) (bytes : List ℕ) (total : Result (List V × List ℕ) ℕ) → i < count → Fails e (step (count - (i + 1)) s bytes)
    → with_front front (run_at step next (count - i) s bytes) ≡ total → Fails e total
unfolding run_at
run_ends step next faults.Memory front count i s bytes total lt h so_far = tt
run_ends step next (faults.Left f) front count i s bytes total lt h so_far =
    let k : count - i ≡ suc (count - (i + 1)) = omega arith in
    let one : with_front front (run_at step next (count - i) s bytes) ≡ Err f = rw (k, h) refl in
    sym so_far ∙ one

pub run_is_done : {S V : Type 0} (step : ℕ → S → List ℕ → Result (V × List ℕ) ℕ) (next : S → V → S) (front : List V) (count i : ℕ) (s : S) (bytes : List ℕ) (total : Result (List V × List ℕ) ℕ) → count ≤ i → with_front front (run_at step next (count - i) s bytes) ≡ total → total ≡ Ok (front, bytes)
unfolding run_at
run_is_done {S} {V} step next front count i s bytes total le so_far =
    let k : count - i ≡ 0 = omega arith in
    let one : with_front front (run_at step next (count - i) s bytes) ≡ Ok (front, bytes) = rw k (ap (λ (vs : List V). Ok (vs, bytes)) (append-nil front)) in
    sym so_far ∙ one
