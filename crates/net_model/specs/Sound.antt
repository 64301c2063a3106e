-- What holds of the state of a node in every run.
use Rattle.std.specs.Prelude.{◌≡◌, ℕ, ◌+◌, List, [], ◌∷◌, ⊤}
use Rattle.flow_machine.specs.declared.flows.FlowState.{FlowState}
use Rattle.flow_machine.specs.declared.flows.FlowState.TheVariants.{Live, Ended, Failed}

-- a flow that is live keeps this number
abbrev pub IsNumbered : {F : Type 0} → ℕ → FlowState F → Type 0
IsNumbered f (Live at) = at.flow ≡ f
IsNumbered f _ = ⊤

-- each live flow keeps its own number, the first of the list being flow f
abbrev pub AreNumbered : {F : Type 0} → ℕ → List (FlowState F) → Type 0
AreNumbered f [] = ⊤
AreNumbered f (flow ∷ flows) = IsNumbered f flow × AreNumbered (f + 1) flows

-- how often a flow was resumed
abbrev pub steps_of : {F : Type 0} → FlowState F → ℕ
steps_of (Live at) = at.step
steps_of (Ended step class value) = step
steps_of (Failed step class code) = step
