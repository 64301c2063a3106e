-- What is told by the parts of a record that were read.
use Rattle.std.specs.Prelude.{◌≡◌, ℕ, Bool, false, Option, Some, None, MatchOption}
use Rattle.flow_machine.specs.declared.flows.FlowState.{FlowState}
use Rattle.net_model.specs.State.{FlowPart}
use Rattle.net_model.specs.Enabled.{part_of}
use Rattle.net_model.specs.Sound.{IsNumbered}
use Rattle.flow_records.specs.Records.{IsFlow}
use Rattle.flow_records.specs.Alone.{is_flow}

-- whether there is a flow
abbrev pub has_flow : {F : Type 0} → Option (FlowPart F) → Bool
has_flow None = false
has_flow (Some flow) = is_flow flow

-- the number and the flow of which a part tells, none exactly where it tells of no flow
abbrev pub TellsFlow : {F : Type 0} → (F → Type 0) → Option (FlowPart F) → Option (ℕ × FlowState F) → Type 0
TellsFlow within told r = MatchOption r (has_flow told ≡ false) (λ s. (told ≡ Some (part_of s.0 s.1)) × IsFlow within s.1 × IsNumbered s.0 s.1)
