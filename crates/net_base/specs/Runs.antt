-- Lists in which what an item may be depends on those before it, and on how many come after it.
use Rattle.std.proofs.Common.{◌≡◌, ◌<◌, ◌≤◌, ◌+◌, ◌-◌, ℕ, zero, suc, List, [], ◌∷◌, length, drop, Result, Ok, refl, sym, ap, subst, arith}
use Rattle.std.specs.List.{flat_map, AllByRecursion}
use Rattle.std.proofs.lemmas.List.{nil_from_length}
use Rattle.std.proofs.lemmas.List.Concat.{flat_map-cons}
use Rattle.net_base.specs.Forms.{◌>>=◌, below_at}
use Rattle.net_base.specs.Laws.{Laws}
use Rattle.net_base.specs.Combining.{bind_laws, mapped_laws, restated_laws}
use Rattle.net_base.specs.Fields.{done_laws, below_laws}
use Rattle.net_base.specs.Kinds.{IsBetween}

-- n items from the state s on; an item is read by the number of items after it and the state
unfoldable pub run_at : {S V : Type 0} → (ℕ → S → List ℕ → Result (V × List ℕ) ℕ) → (S → V → S) → ℕ → S → List ℕ → Result (List V × List ℕ) ℕ
run_at step next zero s bytes = Ok ([], bytes)
run_at step next (suc n) s bytes = step n s bytes >>= λ x. run_at step next n (next s x.0) x.1 >>= λ xs. Ok (x.0 ∷ xs.0, xs.1)

-- each item is within what its state and the number of items behind it allow
abbrev pub Runs : {S V : Type 0} → (ℕ → S → V → Type 0) → (S → V → S) → S → List V → Type 0
Runs within next s [] = Unit {0}
Runs within next s (v ∷ vs) = within (length vs) s v × Runs within next (next s v) vs

-- the laws of n items from a state on
pub run_laws : {S V : Type 0} {within : ℕ → S → V → Type 0} {spelling : V → List ℕ} {step : ℕ → S → List ℕ → Result (V × List ℕ) ℕ} (good : ℕ → S → Type 0) (next : S → V → S)
    → ((n : ℕ) (s : S) → good (suc n) s → Laws (within n s) spelling (step n s))
    → ((n : ℕ) (s : S) (v : V) → good (suc n) s → within n s v → good n (next s v))
    → (n : ℕ) (s : S) → good n s → Laws (λ (vs : List V). (length vs ≡ n) × Runs within next s vs) (λ (vs : List V). flat_map spelling vs) (run_at step next n s)
unfolding run_at
run_laws {S} {V} {within} {spelling} {step} good next each keeps zero s h =
    restated_laws (λ vs is. rw is ((refl, tt), refl)) (λ vs w. nil_from_length vs w.0) (done_laws {V = List V} [])
run_laws {S} {V} {within} {spelling} {step} good next each keeps (suc n) s h =
    bind_laws {second = λ v (vs : List V). (others : List V) × (((length others ≡ n) × Runs within next (next s v) others) × (vs ≡ v ∷ others))} {second_spelling = λ v (vs : List V). flat_map spelling (drop 1 vs)} {second_reading = λ v bytes. run_at step next n (next s v) bytes >>= λ xs. Ok (v ∷ xs.0, xs.1)} (each n s h)
    (λ v hv. mapped_laws (λ (vs : List V). v ∷ vs) (run_laws good next each keeps n (next s v) (keeps n s v h hv)) (record {
      keeps = λ vs h. ((vs, (h, refl)), refl);
      from = λ vs h. (h.0, (h.1.0, sym h.1.1));
    }))
    (record {
      join = λ v vs hv h. rw h.1.1 ((ap suc h.1.0.0, (subst (λ (k : ℕ). within k s v) (sym h.1.0.0) hv, h.1.0.1)), flat_map-cons spelling v h.0);
      split = elim [
        | [] ↦ λ h. absurd cc
        | v ∷ vs ↦ λ h.
            let few : length vs ≡ n = omega (arith, h.0) in
            (v, (subst (λ (k : ℕ). within k s v) few h.1.0, (vs, ((few, h.1.1), refl))))
      ];
    })

-- ---- strictly ascending keys below a limit

-- each key is greater than the one before, and the first is at least low
abbrev pub Ascends : {V : Type 0} → (V → ℕ) → ℕ → List V → Type 0
Ascends key low [] = Unit {0}
Ascends key low (v ∷ vs) = (low ≤ key v) × Ascends key (suc (key v)) vs

-- reading n items with ascending keys, each low enough for those behind it
abbrev pub ascending_at : {V : Type 0} → (V → ℕ) → ℕ → (ℕ → ℕ → List ℕ → Result (V × List ℕ) ℕ) → ℕ → List ℕ → Result (List V × List ℕ) ℕ
ascending_at key limit read n bytes = run_at (λ k low. read low (limit - k)) (λ low v. key v + 1) n 0 bytes

-- reading a byte of count, and items with ascending keys
unfoldable pub ascending8_at : {V : Type 0} → (V → ℕ) → ℕ → (ℕ → ℕ → List ℕ → Result (V × List ℕ) ℕ) → List ℕ → Result (List V × List ℕ) ℕ
ascending8_at key limit read bytes = below_at (limit + 1) bytes >>= λ n. ascending_at key limit read n.0 n.1

-- at most limit items with ascending keys
abbrev pub AscendingWithin : {V : Type 0} → ℕ → (V → ℕ) → (V → Type 0) → List V → Type 0
AscendingWithin limit key within vs = (length vs ≤ limit) × (AllByRecursion within vs × Ascends key 0 vs)

-- the limits of an item with n items behind it
abbrev Between : {V : Type 0} → (V → ℕ) → ℕ → (V → Type 0) → ℕ → ℕ → V → Type 0
Between key limit within n low v = within v × IsBetween low (limit - n) (key v)

-- keys that ascend leave room for those behind
room_left : {V : Type 0} (key : V → ℕ) (limit : ℕ) (within : V → Type 0) → ((v : V) → within v → key v < limit) → (low : ℕ) (vs : List V) → low ≤ limit → AllByRecursion within vs → Ascends key low vs → low + length vs ≤ limit
room_left key limit within below low [] le all up = omega arith
room_left key limit within below low (v ∷ vs) le all up =
    let lt = below v all.0 in
    let rest = room_left key limit within below (suc (key v)) vs (omega arith) all.1 up.1 in
    omega (arith, rest, up.0)

-- ascending items are a run
to_runs : {V : Type 0} (key : V → ℕ) (limit : ℕ) (within : V → Type 0) → ((v : V) → within v → key v < limit) → (low : ℕ) (vs : List V) → AllByRecursion within vs → Ascends key low vs → Runs (Between key limit within) (λ (k : ℕ) (v : V). key v + 1) low vs
to_runs key limit within below low [] all up = tt
to_runs key limit within below low (v ∷ vs) all up =
    let lt = below v all.0 in
    let room = room_left key limit within below (suc (key v)) vs (omega arith) all.1 up.1 in
    let one : key v + 1 ≡ suc (key v) = omega arith in
    ((all.0, (up.0, omega (arith, room))), rw one (to_runs key limit within below (suc (key v)) vs all.1 up.1))

-- a run is ascending items
from_runs : {V : Type 0} (key : V → ℕ) (limit : ℕ) (within : V → Type 0) (low : ℕ) (vs : List V) → Runs (Between key limit within) (λ (k : ℕ) (v : V). key v + 1) low vs → AllByRecursion within vs × Ascends key low vs
from_runs key limit within low [] runs = (tt, tt)
from_runs key limit within low (v ∷ vs) runs =
    let one : key v + 1 ≡ suc (key v) = omega arith in
    let rest = from_runs key limit within (suc (key v)) vs (subst (λ (k : ℕ). Runs (Between key limit within) (λ (k : ℕ) (v : _). key v + 1) k vs) one runs.1) in
    ((runs.0.0, rest.0), (runs.0.1.0, rest.1))

-- the laws of a byte of count and items with ascending keys
pub ascending8_laws : {V : Type 0} {within : V → Type 0} {spelling : V → List ℕ} {read : ℕ → ℕ → List ℕ → Result (V × List ℕ) ℕ} (key : V → ℕ) (limit : ℕ)
    → ((v : V) → within v → key v < limit)
    → ((low high : ℕ) → low < high → high ≤ limit → Laws (λ (v : V). within v × IsBetween low high (key v)) spelling (read low high))
    → Laws (λ (vs : List V). AscendingWithin limit key within vs) (λ (vs : List V). length vs ∷ flat_map spelling vs) (ascending8_at key limit read)
unfolding ascending8_at
ascending8_laws {V} {within} {spelling} {read} key limit below each =
    bind_laws {second = λ n (vs : List V). (length vs ≡ n) × Runs (Between key limit within) (λ (k : ℕ) (v : V). key v + 1) 0 vs} {second_spelling = λ n (vs : List V). flat_map spelling vs} {second_reading = λ n bytes. ascending_at key limit read n bytes} (below_laws (limit + 1) (omega arith))
    (λ n h. run_laws (λ k (low : ℕ). low + k ≤ limit) (λ low v. key v + 1)
    (λ k low g. each low (limit - k) (omega arith) (omega arith))
    (λ k low v g hv. let top = hv.1.1 in omega (arith, top, g)) n 0 (omega arith))
    (record {
      join = λ n vs hn h. ((omega (arith, hn, h.0), from_runs key limit within 0 vs h.1), ap (λ (k : ℕ). k ∷ flat_map spelling vs) h.0);
      split = λ vs h. (length vs, (omega (arith, h.0), (refl, to_runs key limit within below 0 vs h.1.0 h.1.1)));
    })
