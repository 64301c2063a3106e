-- Where nothing is claimed.
use Rattle.std.proofs.Common.{◌≡◌, ℕ, List, [], ◌∷◌, Option, Some, None, option_and_then, slice_get, refl}
use Rattle.std.specs.Option.{option_or}
use Rattle.flow_machine.specs.declared.flows.FlowState.{FlowState}
use Rattle.flow_machine.specs.declared.flows.FlowState.TheVariants as state
use Rattle.net_model.specs.Environment.{Environment}
use Rattle.net_model.specs.State.{NodeState}
use Rattle.net_model.specs.Enabled.{enabled_event, first_event}
use Rattle.ledger_acts.specs.Picking.{free_event, first_free, UnclaimedIsPicked}

free_none : {F : Type 0} (w : Environment F) (me : ℕ) (s : NodeState F) (now : ℕ) (flow : FlowState F) → free_event w me s [] now flow ≡ enabled_event s.sessions now flow
free_none w me s now (state.Live at) = refl
free_none w me s now (state.Ended step class value) = refl
free_none w me s now (state.Failed step class code) = refl

first_none : {F : Type 0} (w : Environment F) (me : ℕ) (s : NodeState F) (now : ℕ) (flows : List (FlowState F)) → first_free w me s [] now flows ≡ first_event s.sessions now flows
first_none w me s now [] = refl
first_none w me s now (flow ∷ flows) = λ i. option_or (free_none w me s now flow i) (first_none w me s now flows i)

at_flow : {F : Type 0} (w : Environment F) (me : ℕ) (s : NodeState F) (now : ℕ) (o : Option (FlowState F)) → option_and_then (free_event w me s [] now) o ≡ option_and_then (enabled_event s.sessions now) o
at_flow w me s now None = refl
at_flow w me s now (Some flow) = free_none w me s now flow

pub unclaimed_is_picked : {F : Type 0} → UnclaimedIsPicked F
unclaimed_is_picked w me s now (Some f) = at_flow w me s now (slice_get s.flows f)
unclaimed_is_picked w me s now None = first_none w me s now s.flows
