-- Which job the flow of an event waits for.
use Rattle.std.specs.Prelude.{List, Option, option_and_then, slice_get}
use Rattle.net_base.specs.declared.values.Hash32.{Hash32}
use Rattle.net_base.specs.declared.names.Identity.{Identity}
use Rattle.net_base.specs.declared.causes.Event.{Event}
use Rattle.ledger_types.specs.declared.tx.SignedTx.{SignedTx}
use Rattle.flow_machine.specs.declared.flows.FlowState.{FlowState}
use Rattle.net_model.specs.Steps.{checkpoint_of}
use Rattle.ledger_acts.specs.declared.job.Job.{Job}
use Rattle.ledger_acts.specs.Jobs.{awaited}
use Rattle.flow_steps.specs.Going.{flow_in}

-- the job that the flow of an event waits for, over the recorded transactions: none where it isn't live, or waits for none; of an event that accepts an item, that of flow 0
abbrev pub job_of : {F : Type 0} → Identity → List (Hash32 × SignedTx) → List (FlowState F) → Event → Option Job
job_of me store flows event = option_and_then (awaited me store) (option_and_then checkpoint_of (slice_get flows (flow_in event)))
