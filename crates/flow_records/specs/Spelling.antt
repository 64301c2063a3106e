-- What is spelt of a flow.
use Rattle.std.specs.Prelude.{◌≡◌, ◌≤◌, ℕ, Bool, true, false, List, length, Some, Result}
use Rattle.session_wire.specs.declared.effect.FlowPart.{FlowPart as SpokenPart}
use Rattle.flow_machine.specs.declared.flows.FlowState.{FlowState}
use Rattle.flow_machine.specs.declared.flows.FlowState.TheVariants as state
use Rattle.transition_record.specs.Changes.{IsFlowPart, part_text, part_flow, part_over}
use Rattle.net_model.specs.Enabled.{part_of}
use Rattle.flow_records.specs.Records.{flow_part}

-- whether the flow has ended or failed
abbrev pub is_over : {F : Type 0} → FlowState F → Bool
is_over (state.Live at) = false
is_over (state.Ended step class value) = true
is_over (state.Failed step class code) = true

-- what is spelt of the flow of a number where it is this: it is read as that flow again, and is short
pub record IsPartOf {F : Type 0} (frame_at : List ℕ → Result (F × List ℕ) ℕ) (number : ℕ) (flow : FlowState F) (p : SpokenPart) : Type 0 where
  pub limits : IsFlowPart p
  pub flow_is : part_flow p ≡ number
  pub over_is : part_over p ≡ is_over flow
  pub means : flow_part frame_at p ≡ Some (part_of number flow)
  pub short : length (part_text p) ≤ 300000
