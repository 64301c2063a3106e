-- Which flows cannot go on.
use Rattle.std.specs.Prelude.{◌≡◌, ℕ, ◌<◌, List, None}
use Rattle.session_wire.specs.Sessions.{Session}
use Rattle.flow_machine.specs.declared.flows.FlowState.{FlowState}
use Rattle.flow_steps.specs.Going.{event_there}

-- no flow with a number below this one can go on at a moment, over these sessions
abbrev pub IdleBelow : {F : Type 0} → List Session → ℕ → List (FlowState F) → ℕ → Type 0
IdleBelow sessions now flows n = (g : ℕ) → g < n → event_there sessions now flows g ≡ None
