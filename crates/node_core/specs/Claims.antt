-- Jobs that are run beside a node: which flow goes on while some are out, what a turn then answers, and what becomes of a job that comes back.
use Rattle.std.specs.Prelude.{◌≡◌, ◌⊎◌, ◌==◌, ◌&&◌, not, ℕ, true, false, MatchOption, List, [], ◌∷◌, ◌++◌, Option, Some, None, Result, Ok, Err, is_some, filter, option_map, option_and_then, slice_get, if◌then◌else◌}
use Rattle.std.specs.Option.{option_or}
use Rattle.std.specs.List.{list_any}
use Rattle.net_base.specs.declared.names.Identity.{Identity}
use Rattle.net_base.specs.declared.causes.Event.{Event}
use Rattle.net_base.specs.declared.causes.Event.TheVariants as event
use Rattle.flow_machine.specs.declared.flows.FlowState.{FlowState}
use Rattle.net_model.specs.Environment.{Environment}
use Rattle.net_model.specs.State.{NodeState, with_ids}
use Rattle.net_model.specs.Steps.{checkpoint_of}
use Rattle.ledger_acts.specs.declared.job.Job.{Job}
use Rattle.ledger_acts.specs.Jobs.{IsJob}
use Rattle.ledger_acts.specs.Picking.{picked_free}
use Rattle.flow_steps.specs.Awaiting.{job_of}
use Rattle.flow_steps.specs.Going.{event_there, flow_in}
use Rattle.node_tables.specs.Journals.{state_of}
use Rattle.node_core.specs.declared.faults.TurnFault.{TurnFault}
use Rattle.node_core.specs.declared.faults.TurnFault.TheVariants as turn_fault
use Rattle.node_core.specs.declared.faults.Turned.{Turned}
use Rattle.node_core.specs.declared.faults.Turned.TheVariants as turned
use Rattle.node_core.specs.declared.faults.SharedTurn.{SharedTurn}
use Rattle.node_core.specs.declared.faults.SharedTurn.TheVariants as shared
use Rattle.node_core.specs.declared.faults.SettleFault.{SettleFault}
use Rattle.node_core.specs.declared.faults.SettleFault.TheVariants as settle_fault
use Rattle.node_core.specs.Journals.{is_full}
use Rattle.node_core.specs.Seen.{NodeSeen, Commits, Faults, TurnAnswers}

-- a node whose jobs are run beside it as contracts see it: the node, and the flows that have a claim
pub record SharedSeen : Type 0 where
  pub node : NodeSeen
  pub claims : List ℕ

-- ---- the choice

-- the job that the flow of an event waits for, at a node in this state
abbrev pub awaited_in : {F : Type 0} → Identity → NodeState F → Event → Option Job
awaited_in me s e = job_of me (with_ids s.stored) s.flows e

-- the event by which the flow of a number goes on, where it doesn't wait for a job that is out
unfoldable pub free_there : {F : Type 0} → Identity → NodeState F → List ℕ → ℕ → ℕ → Option Event
free_there me s claims now number =
    if list_any (λ f. f == number) claims && is_some (awaited_in me s (event.Move number)) then None else event_there s.sessions now s.flows number

-- the event by which the first of the flows of these numbers goes on that is free to
abbrev pub first_there : {F : Type 0} → Identity → NodeState F → List ℕ → ℕ → List ℕ → Option Event
first_there me s claims now [] = None
first_there me s claims now (number ∷ numbers) = option_or (free_there me s claims now number) (first_there me s claims now numbers)

-- the event by which a node with this journal goes on while the jobs of these flows are out
abbrev pub free_at : {F : Type 0} → Environment F → Identity → ℕ → Option ℕ → List ℕ → List (List ℕ) → Option Event
free_at w me now pick claims bodies = picked_free w me.party.0 (state_of w.frame_at bodies) claims now pick

-- a turn chooses this event, whose flow waits for this job, or for none
pub record Chooses {F : Type 0} (w : Environment F) (me : Identity) (now : ℕ) (pick : Option ℕ) (claims : List ℕ) (bodies : List (List ℕ)) (e : Event) (job : Option Job) : Type 0 where
  pub event : free_at w me now pick claims bodies ≡ Some e
  pub waits : awaited_in me (state_of w.frame_at bodies) e ≡ job

-- ---- turns

-- what a turn answers at a node that is up while the jobs of these flows are out: a flow that waits for a job is not moved, and its job is handed out; want of memory comes where there is a job, or the journal isn't full
abbrev pub TurnsBeside : {F : Type 0} → Environment F → ℕ → Option ℕ → List ℕ → List (List ℕ) → NodeSeen → Result SharedTurn TurnFault → NodeSeen → Type 0
TurnsBeside w now pick claims bodies old (Ok shared.Idle) new = (free_at w old.identity now pick claims bodies ≡ None) × (new ≡ old)
TurnsBeside w now pick claims bodies old (Ok (shared.Moved f)) new =
    (e : Event) × Chooses w old.identity now pick claims bodies e None × (flow_in e ≡ f) × Commits w now bodies e None old new
TurnsBeside w now pick claims bodies old (Ok (shared.Job job)) new = Chooses w old.identity now pick claims bodies (event.Move job.flow) (Some job) × IsJob job × (new ≡ old)
TurnsBeside w now pick claims bodies old (Err turn_fault.NodeDown) new = ⊥
TurnsBeside w now pick claims bodies old (Err turn_fault.Full) new =
    (e : Event) × Chooses w old.identity now pick claims bodies e None × (is_full w.frame_at 0 bodies ≡ true) × (new ≡ old)
TurnsBeside w now pick claims bodies old (Err turn_fault.Memory) new =
    (e : Event) × (job : Option Job) × Chooses w old.identity now pick claims bodies e job × (job ≡ None → is_full w.frame_at 0 bodies ≡ false) × (new ≡ old)
TurnsBeside w now pick claims bodies old (Err turn_fault.Fault) new =
    (e : Event) × Chooses w old.identity now pick claims bodies e None × Faults w now bodies e None old new

-- what a turn answers at any node while the jobs of these flows are out
abbrev pub TurnAnswersBeside : {F : Type 0} → Environment F → ℕ → Option ℕ → List ℕ → NodeSeen → Result SharedTurn TurnFault → NodeSeen → Type 0
TurnAnswersBeside w now pick claims old answer new =
    MatchOption old.journal ((answer ≡ Err turn_fault.NodeDown) × (new ≡ old)) (λ bodies. TurnsBeside w now pick claims bodies old answer new)

-- ---- jobs that come back

-- the step at which the flow of a number waits; none where it isn't live
abbrev pub step_at : {F : Type 0} → List (FlowState F) → ℕ → Option ℕ
step_at flows f = option_map (λ at. at.step) (option_and_then checkpoint_of (slice_get flows f))

-- the flow of a job that comes back is at the job's step, and waits for just this job
pub record StillWaits {F : Type 0} (me : Identity) (s : NodeState F) (job : Job) : Type 0 where
  pub step : step_at s.flows job.flow ≡ Some job.step
  pub waits : awaited_in me s (event.Move job.flow) ≡ Some job

-- why a job that comes back is not the one that its flow waits for
abbrev pub NotAwaited : {F : Type 0} → Identity → NodeState F → Job → SettleFault → Type 0
NotAwaited me s job (settle_fault.Stale have given) = (have ≡ step_at s.flows job.flow) × (given ≡ job.step) × (have ≡ Some given → ⊥)
NotAwaited me s job (settle_fault.Foreign f) = (f ≡ job.flow) × (step_at s.flows job.flow ≡ Some job.step) × (awaited_in me s (event.Move job.flow) ≡ Some job → ⊥)
NotAwaited me s job _ = ⊥

-- what settling a job answers at a node that is up: its flow goes on by the machine's step at this moment, where it still waits for just this job
abbrev pub SettlesAs : {F : Type 0} → Environment F → ℕ → Job → List (List ℕ) → NodeSeen → Result ℕ SettleFault → NodeSeen → Type 0
SettlesAs w now job bodies old (Ok f) new = (f ≡ job.flow) × StillWaits old.identity (state_of w.frame_at bodies) job × Commits w now bodies (event.Move job.flow) None old new
SettlesAs w now job bodies old (Err settle_fault.NodeDown) new = ⊥
SettlesAs w now job bodies old (Err (settle_fault.Stale have given)) new = NotAwaited old.identity (state_of w.frame_at bodies) job (settle_fault.Stale have given) × (new ≡ old)
SettlesAs w now job bodies old (Err (settle_fault.Foreign f)) new = NotAwaited old.identity (state_of w.frame_at bodies) job (settle_fault.Foreign f) × (new ≡ old)
SettlesAs w now job bodies old (Err settle_fault.Full) new = StillWaits old.identity (state_of w.frame_at bodies) job × (is_full w.frame_at 0 bodies ≡ true) × (new ≡ old)
SettlesAs w now job bodies old (Err settle_fault.Memory) new = StillWaits old.identity (state_of w.frame_at bodies) job × (is_full w.frame_at 0 bodies ≡ false) × (new ≡ old)
SettlesAs w now job bodies old (Err settle_fault.Fault) new = StillWaits old.identity (state_of w.frame_at bodies) job × Faults w now bodies (event.Move job.flow) None old new

-- what settling a job answers at any node
abbrev pub SettleAnswers : {F : Type 0} → Environment F → ℕ → Job → NodeSeen → Result ℕ SettleFault → NodeSeen → Type 0
SettleAnswers w now job old answer new = MatchOption old.journal ((answer ≡ Err settle_fault.NodeDown) × (new ≡ old)) (λ bodies. SettlesAs w now job bodies old answer new)

-- ---- a turn, its job run, and settled

-- what a node answers to a whole turn whose job was run beside it, where nothing came between: want of memory, which changes nothing; or what it answers to a turn by which the job is run at once
abbrev pub WorkAnswers : {F : Type 0} → Environment F → ℕ → Option ℕ → NodeSeen → Result Turned TurnFault → NodeSeen → Type 0
WorkAnswers w now pick old answer new = ((answer ≡ Err turn_fault.Memory) × (new ≡ old)) ⊎ TurnAnswers w now pick old answer new

-- what a settled job tells of its turn
abbrev pub turned_of : Result ℕ SettleFault → Result Turned TurnFault
turned_of (Ok f) = Ok (turned.Moved f)
turned_of (Err settle_fault.NodeDown) = Err turn_fault.NodeDown
turned_of (Err (settle_fault.Stale have given)) = Ok turned.Idle
turned_of (Err (settle_fault.Foreign f)) = Ok turned.Idle
turned_of (Err settle_fault.Full) = Err turn_fault.Full
turned_of (Err settle_fault.Memory) = Err turn_fault.Memory
turned_of (Err settle_fault.Fault) = Err turn_fault.Fault

-- ---- claims

-- the claims of a node with this journal: none while it is down
abbrev pub claims_up : Option (List (List ℕ)) → List ℕ → List ℕ
claims_up None claims = []
claims_up (Some bodies) claims = claims

-- the claims after a turn: a flow whose job is handed out has one
abbrev pub claims_by : Result SharedTurn TurnFault → List ℕ → List ℕ
claims_by (Ok (shared.Job job)) claims = claims ++ job.flow ∷ []
claims_by (Ok shared.Idle) claims = claims
claims_by (Ok (shared.Moved f)) claims = claims
claims_by (Err why) claims = claims

-- the claims but for those of a flow
abbrev pub claims_but : ℕ → List ℕ → List ℕ
claims_but f claims = filter (λ g. not (g == f)) claims
