-- A flow that is lent.
use Rattle.flow_machine.specs.declared.flows.FlowState.{FlowState}
use Rattle.flow_machine.specs.declared.flows.FlowState.TheVariants as state
use Rattle.checkpoints.specs.declared.table.FlowView.{FlowView}
use Rattle.checkpoints.specs.declared.table.FlowView.TheVariants as view

-- the flow that is lent
abbrev pub state_of : {F : Type 0} → FlowView F → FlowState F
state_of (view.Live at) = state.Live at.now
state_of (view.Ended step class value) = state.Ended step class value.now
state_of (view.Failed step class code) = state.Failed step class code
