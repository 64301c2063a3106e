-- The flows of a node, by number.
use Rattle.std.specs.Prelude.{◌≡◌, ◌≤◌, ◌<◌, ℕ, suc, length, get_or, List, [], ◌∷◌, ◌++◌, Bool, true, false, take, drop}
use Rattle.flow_machine.specs.declared.flows.FlowState.{FlowState}
use Rattle.flow_machine.specs.declared.flows.FlowState.TheVariants as state

-- the flows in order of their numbers, and how many more have room
pub record Table (F : Type 0) : Type 0 where
  pub flows : List (FlowState F)
  pub room : ℕ

-- whether the flow is live
abbrev pub is_live : {F : Type 0} → FlowState F → Bool
is_live (state.Live at) = true
is_live _ = false

-- the number, where the test holds
abbrev pub where_true : Bool → ℕ → List ℕ
where_true true n = n ∷ []
where_true false n = []

-- the numbers of the live flows of a list that begins with the number n, ascending
abbrev pub live_from : {F : Type 0} → ℕ → List (FlowState F) → List ℕ
live_from n [] = []
live_from n (flow ∷ flows) = where_true (is_live flow) n ++ live_from (suc n) flows

-- the numbers of the live flows, ascending
abbrev pub live_numbers : {F : Type 0} → List (FlowState F) → List ℕ
live_numbers flows = live_from 0 flows

-- a live flow has this number
abbrev pub IsNumbered : {F : Type 0} → ℕ → FlowState F → Type 0
IsNumbered n (state.Live at) = at.flow ≡ n
IsNumbered n (state.Ended step class value) = Unit {0}
IsNumbered n (state.Failed step class code) = Unit {0}

-- the live flows of a list that begins with the number n have their numbers
abbrev pub AreNumberedFrom : {F : Type 0} → ℕ → List (FlowState F) → Type 0
AreNumberedFrom n [] = Unit {0}
AreNumberedFrom n (flow ∷ flows) = IsNumbered n flow × AreNumberedFrom (suc n) flows

-- the flow of the number n is now this one; at the end it is a new one
abbrev pub with_flow : {F : Type 0} → ℕ → FlowState F → List (FlowState F) → List (FlowState F)
with_flow n flow flows = take n flows ++ flow ∷ drop (suc n) flows

-- no number is less than one before it
abbrev pub IsRising : List ℕ → Type 0
IsRising xs = (i j : ℕ) → i ≤ j → j < length xs → get_or xs i 0 ≤ get_or xs j 0
