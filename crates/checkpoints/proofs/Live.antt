-- The numbers of the live flows, below a number and above it.
use Rattle.std.proofs.Common.{◌≡◌, ℕ, zero, suc, ◌+◌, ◌<◌, ◌≤◌, Bool, true, false, List, [], ◌∷◌, ◌++◌, length, get_or, take, drop, refl, sym, ap, subst, ◌∙◌, arith, append_assoc}
use Rattle.std.specs.List.{AllByRecursion}
use Rattle.flow_machine.specs.declared.flows.FlowState.{FlowState}
use Rattle.checkpoints.specs.Tables.{is_live, where_true, live_from, live_numbers, IsNumbered, AreNumberedFrom, with_flow, IsRising}

-- whether the flow that stands there is live
abbrev pub live_at : {F : Type 0} → ℕ → List (FlowState F) → Bool
live_at k [] = false
live_at zero (flow ∷ flows) = is_live flow
live_at (suc k) (flow ∷ flows) = live_at k flows

-- what holds of a number holds where it may stand in front
in_front : (P : ℕ → Type 0) (b : Bool) (n : ℕ) (xs : List ℕ) → P n → AllByRecursion P xs → AllByRecursion P (where_true b n ++ xs)
in_front P true n xs h hs = (h, hs)
in_front P false n xs h hs = hs

-- the numbers of a list that begins with n are at least n
pub from_least : {F : Type 0} (n k : ℕ) (flows : List (FlowState F)) → k ≤ n → AllByRecursion (λ m. k ≤ m) (live_from n flows)
from_least n k [] h = tt
from_least n k (flow ∷ flows) h = in_front (λ m. k ≤ m) (is_live flow) n (live_from (suc n) flows) h (from_least (suc n) k flows (omega (arith, h)))

-- the numbers of a list that begins behind k are above k
pub above : {F : Type 0} (n k : ℕ) (flows : List (FlowState F)) → k < n → AllByRecursion (λ m. k < m) (live_from n flows)
above n k [] h = tt
above n k (flow ∷ flows) h = in_front (λ m. k < m) (is_live flow) n (live_from (suc n) flows) h (above (suc n) k flows (omega (arith, h)))

-- the numbers of the first k flows are below the number that comes then
pub below : {F : Type 0} (n k top : ℕ) (flows : List (FlowState F)) → n + k ≡ top → AllByRecursion (λ m. m < top) (live_from n (take k flows))
below n zero top flows h = tt
below n (suc k) top [] h = tt
below n (suc k) top (flow ∷ flows) h = in_front (λ m. m < top) (is_live flow) n (live_from (suc n) (take k flows)) (omega (arith, h)) (below (suc n) k top flows (omega (arith, h)))

-- a test of each, at a place
pub at_place : (P : ℕ → Type 0) (xs : List ℕ) (i : ℕ) → AllByRecursion P xs → i < length xs → P (get_or xs i 0)
at_place P [] i h lt = absurd (omega (arith, lt))
at_place P (x ∷ xs) zero h lt = h.0
at_place P (x ∷ xs) (suc i) h lt = at_place P xs i h.1 (omega (arith, lt))

pub rising_cons : (x : ℕ) (xs : List ℕ) → AllByRecursion (λ m. x ≤ m) xs → IsRising xs → IsRising (x ∷ xs)
rising_cons x xs least up zero zero le lt = omega arith
rising_cons x xs least up zero (suc j) le lt = at_place (λ m. x ≤ m) xs j least (omega (arith, lt))
rising_cons x xs least up (suc i) zero le lt = absurd (omega (arith, le))
rising_cons x xs least up (suc i) (suc j) le lt = up i j (omega (arith, le)) (omega (arith, lt))

rising_where : (b : Bool) (n : ℕ) (xs : List ℕ) → AllByRecursion (λ m. n ≤ m) xs → IsRising xs → IsRising (where_true b n ++ xs)
rising_where true n xs least up = rising_cons n xs least up
rising_where false n xs least up = up

-- the numbers of the live flows rise
pub live_rises : {F : Type 0} (n : ℕ) (flows : List (FlowState F)) → IsRising (live_from n flows)
live_rises n [] i j le lt = absurd (omega (arith, lt))
live_rises n (flow ∷ flows) i j le lt = rising_where (is_live flow) n (live_from (suc n) flows) (from_least (suc n) n flows (omega arith)) (live_rises (suc n) flows) i j le lt

-- the numbers of the live flows in three parts: below a number, there, and above
pub three_parts : {F : Type 0} (n k top : ℕ) (flows : List (FlowState F)) → n + k ≡ top → k ≤ length flows
    → live_from n flows ≡ live_from n (take k flows) ++ (where_true (live_at k flows) top ++ live_from (suc top) (drop (suc k) flows))
three_parts n zero top [] e le = refl
three_parts n zero top (flow ∷ flows) e le = let same : n ≡ top = omega (arith, e) in λ i. where_true (is_live flow) (same i) ++ live_from (suc (same i)) flows
three_parts n (suc k) top [] e le = absurd (omega (arith, le))
three_parts n (suc k) top (flow ∷ flows) e le =
    ap (λ (l : List ℕ). where_true (is_live flow) n ++ l) (three_parts (suc n) k top flows (omega (arith, e)) (omega (arith, le)))
    ∙ sym (append_assoc (where_true (is_live flow) n) (live_from (suc n) (take k flows)) (where_true (live_at k flows) top ++ live_from (suc top) (drop (suc k) flows)))

-- so it is once the flow of the number has changed
pub three_parts_with : {F : Type 0} (n k top : ℕ) (state : FlowState F) (flows : List (FlowState F)) → n + k ≡ top → k ≤ length flows
    → live_from n (with_flow k state flows) ≡ live_from n (take k flows) ++ (where_true (is_live state) top ++ live_from (suc top) (drop (suc k) flows))
three_parts_with n zero top state flows e le = let same : n ≡ top = omega (arith, e) in λ i. where_true (is_live state) (same i) ++ live_from (suc (same i)) (drop 1 flows)
three_parts_with n (suc k) top state [] e le = absurd (omega (arith, le))
three_parts_with n (suc k) top state (flow ∷ flows) e le =
    ap (λ (l : List ℕ). where_true (is_live flow) n ++ l) (three_parts_with (suc n) k top state flows (omega (arith, e)) (omega (arith, le)))
    ∙ sym (append_assoc (where_true (is_live flow) n) (live_from (suc n) (take k flows)) (where_true (is_live state) top ++ live_from (suc top) (drop (suc k) flows)))

-- the flows have their numbers, the changed one too
pub numbered_with : {F : Type 0} (n k top : ℕ) (state : FlowState F) (flows : List (FlowState F)) → n + k ≡ top → AreNumberedFrom n flows → IsNumbered top state → k ≤ length flows → AreNumberedFrom n (with_flow k state flows)
numbered_with n zero top state [] e all own le = let same : top ≡ n = omega (arith, e) in (subst (λ (m : ℕ). IsNumbered m state) same own, tt)
numbered_with n zero top state (flow ∷ flows) e all own le = let same : top ≡ n = omega (arith, e) in (subst (λ (m : ℕ). IsNumbered m state) same own, all.1)
numbered_with n (suc k) top state [] e all own le = absurd (omega (arith, le))
numbered_with n (suc k) top state (flow ∷ flows) e all own le = (all.0, numbered_with (suc n) k top state flows (omega (arith, e)) all.1 own (omega (arith, le)))

-- the flow that stands at a place has its number
pub numbered_at : {F : Type 0} (n k top : ℕ) (state other : FlowState F) (flows : List (FlowState F)) → n + k ≡ top → AreNumberedFrom n flows → k < length flows → state ≡ get_or flows k other → IsNumbered top state
numbered_at n k top state other [] e all lt is = absurd (omega (arith, lt))
numbered_at {F} n zero top state other (flow ∷ flows) e all lt is =
    let same : n ≡ top = omega (arith, e) in
    subst (λ (m : ℕ). IsNumbered m state) same (subst (λ (f : FlowState F). IsNumbered n f) (sym is) all.0)
numbered_at n (suc k) top state other (flow ∷ flows) e all lt is = numbered_at (suc n) k top state other flows (omega (arith, e)) all.1 (omega (arith, lt)) is

-- the live numbers, once one is marked as its new flow says
pub marked : {F : Type 0} (k : ℕ) (state : FlowState F) (flows : List (FlowState F)) (old new : List ℕ) → k ≤ length flows → old ≡ live_numbers flows
    → ((lower upper : List ℕ) (there : Bool) → old ≡ lower ++ (where_true there k ++ upper) → AllByRecursion (λ n. n < k) lower → AllByRecursion (λ n. k < n) upper → new ≡ lower ++ (where_true (is_live state) k ++ upper))
    → new ≡ live_numbers (with_flow k state flows)
marked k state flows old new le is mark =
    mark (live_from 0 (take k flows)) (live_from (suc k) (drop (suc k) flows)) (live_at k flows) (is ∙ three_parts 0 k k flows (omega arith) le) (below 0 k k flows (omega arith)) (above (suc k) k (drop (suc k) flows) (omega arith))
    ∙ sym (three_parts_with 0 k k state flows (omega arith) le)
