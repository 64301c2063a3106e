-- Which flows of a node go on while jobs are handed out, and by which event.
use Rattle.std.specs.Prelude.{◌≡◌, ◌==◌, ◌&&◌, ℕ, Bool, false, List, [], ◌∷◌, Option, Some, None, is_some, if◌then◌else◌, option_and_then, slice_get}
use Rattle.std.specs.Option.{option_or}
use Rattle.std.specs.List.{list_any}
use Rattle.net_base.specs.declared.causes.Event.{Event}
use Rattle.flow_machine.specs.declared.flows.Checkpoint.{Checkpoint}
use Rattle.flow_machine.specs.declared.flows.FlowState.{FlowState}
use Rattle.net_model.specs.Environment.{Environment}
use Rattle.net_model.specs.State.{NodeState}
use Rattle.net_model.specs.Enabled.{enabled_event, picked}
use Rattle.net_model.specs.Steps.{checkpoint_of}
use Rattle.ledger_acts.specs.Jobs.{job_at}

-- whether a flow of the node waits for a job that was handed out: claims are the flows whose jobs were
abbrev pub is_held : {F : Type 0} → Environment F → ℕ → NodeState F → List ℕ → Option (Checkpoint F) → Bool
is_held w me s claims None = false
is_held w me s claims (Some at) = list_any (λ f. f == at.flow) claims && is_some (job_at w me s at)

-- the event by which a flow goes on that waits for no job which was handed out
abbrev pub free_event : {F : Type 0} → Environment F → ℕ → NodeState F → List ℕ → ℕ → FlowState F → Option Event
free_event w me s claims now flow = if is_held w me s claims (checkpoint_of flow) then None else enabled_event s.sessions now flow

-- the event by which the first such flow of the list goes on
abbrev pub first_free : {F : Type 0} → Environment F → ℕ → NodeState F → List ℕ → ℕ → List (FlowState F) → Option Event
first_free w me s claims now [] = None
first_free w me s claims now (flow ∷ flows) = option_or (free_event w me s claims now flow) (first_free w me s claims now flows)

-- the event by which the picked flow goes on, or the first that can
abbrev pub picked_free : {F : Type 0} → Environment F → ℕ → NodeState F → List ℕ → ℕ → Option ℕ → Option Event
picked_free w me s claims now (Some f) = option_and_then (free_event w me s claims now) (slice_get s.flows f)
picked_free w me s claims now None = first_free w me s claims now s.flows

-- ---- a law

-- where nothing is claimed it is the machine's own choice
abbrev pub UnclaimedIsPicked : (F : Type 0) → Type 0
UnclaimedIsPicked F = (w : Environment F) (me : ℕ) (s : NodeState F) (now : ℕ) (pick : Option ℕ) → picked_free w me s [] now pick ≡ picked s.sessions now pick s.flows
