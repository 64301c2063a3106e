-- By which event a flow goes on, and what becomes of it.
use Rattle.std.specs.Prelude.{◌≡◌, ℕ, ◌+◌, ◌≤◌, List, [], ◌∷◌, length, nat_lt, if◌then◌else◌, slice_get, Option, Some, None, IfSome, option_map}
use Rattle.std.specs.Option.{option_or, option_and_then, unwrap_or}
use Rattle.net_base.specs.declared.names.Key.{Key}
use Rattle.net_base.specs.declared.causes.Cause.{Cause}
use Rattle.net_base.specs.declared.causes.Event.{Event}
use Rattle.net_base.specs.declared.causes.Event.TheVariants as event
use Rattle.ledger_types.specs.declared.change.LedgerChange.{LedgerChange}
use Rattle.ledger_types.specs.declared.value.Value.{Value}
use Rattle.ledger_tables.specs.Ledgers.{Ledger}
use Rattle.session_wire.specs.declared.body.Body.{Body}
use Rattle.session_wire.specs.declared.body.Body.TheVariants as body_of
use Rattle.session_wire.specs.declared.change.SessionChange.{SessionChange}
use Rattle.session_wire.specs.Sessions.{Session}
use Rattle.flow_machine.specs.declared.acts.Act.{Act}
use Rattle.flow_machine.specs.declared.acts.Resumed.{Resumed}
use Rattle.flow_machine.specs.declared.acts.Resumed.TheVariants as resumed
use Rattle.flow_machine.specs.declared.flows.Checkpoint.{Checkpoint}
use Rattle.flow_machine.specs.declared.flows.FlowState.{FlowState}
use Rattle.flow_machine.specs.declared.flows.FlowState.TheVariants as state
use Rattle.flow_machine.specs.Limits.{IsResumed}
use Rattle.flow_machine.specs.Stacks.{Frames}
use Rattle.transition_record.specs.Changes.{IsSession, session_text, IsLedger}
use Rattle.net_model.specs.Environment.{Environment, party}
use Rattle.net_model.specs.State.{NodeState, Effect, nothing}
use Rattle.net_model.specs.Steps.{Done, place, receives, last_items}
use Rattle.net_model.specs.Enabled.{enabled_event, effect_on, part_of}
use Rattle.flow_records.specs.declared.step.FlowAfter.{FlowAfter}
use Rattle.flow_records.specs.declared.step.Step.{Step}
use Rattle.flow_records.specs.Steps.{effect_by, owner_of, ends_with, IsAfter}
use Rattle.session_acts.specs.declared.acts.Performed.{Performed}
use Rattle.node_ledger.specs.Ledgered.{ledger_in, HoldsLedger}

-- ---- the event

-- the event by which the flow of a number goes on, where it is there
abbrev pub event_there : {F : Type 0} → List Session → ℕ → List (FlowState F) → ℕ → Option Event
event_there sessions now flows number = option_and_then (enabled_event sessions now) (slice_get flows number)

-- the event by which the first of the flows of these numbers goes on that can
abbrev pub first_of : {F : Type 0} → List Session → ℕ → List (FlowState F) → List ℕ → Option Event
first_of sessions now flows [] = None
first_of sessions now flows (number ∷ numbers) = option_or (event_there sessions now flows number) (first_of sessions now flows numbers)

-- the number of the flow that an event changes
abbrev pub flow_in : Event → ℕ
flow_in (event.Start f class args) = f
flow_in (event.Move f) = f
flow_in (event.Lapse f) = f
flow_in (event.Answer key) = 0
flow_in (event.Arrive key direction number) = 0

-- ---- the flow

-- the flow at its next step, which waits on this act over these frames
abbrev pub next_state : {F : Type 0} → Checkpoint F → Act F → Frames F → FlowState F
next_state at waiting stack = state.Live (record { flow = at.flow; step = at.step + 1; class = at.class; waiting = waiting; stack = stack })

-- the flow at its next step, once a frame above these was resumed
abbrev pub gone_on : {F : Type 0} → Environment F → ℕ → ℕ → Checkpoint F → F → List F → Resumed → FlowState F
gone_on w me now at frame below with =
    let made = w.machine.next frame with (place w me at.flow at.step now) in
    next_state at made.1 (record { top = made.0; below = below })

-- the flow once its subflow began above the others, or once it was told that its stack has 8 frames
abbrev pub called : {F : Type 0} → Environment F → ℕ → ℕ → Checkpoint F → F → FlowState F
called w me now at frame =
    if nat_lt (length at.stack.below) 7 then gone_on w me now at frame (at.stack.top ∷ at.stack.below) resumed.Started
    else gone_on w me now at at.stack.top at.stack.below (resumed.Refused 49)

-- the flow once its top frame returned a value to those below it; at the bottom it has ended
abbrev pub returned : {F : Type 0} → Environment F → ℕ → ℕ → Checkpoint F → Value → List F → FlowState F
returned w me now at value [] = state.Ended (at.step + 1) at.class value
returned w me now at value (frame ∷ below) = gone_on w me now at frame below (resumed.Returned value)

-- the flow that begins
abbrev pub first_state : {F : Type 0} → ℕ → ℕ → F × Act F → FlowState F
first_state f class made = state.Live (record { flow = f; step = 0; class = class; waiting = made.1; stack = record { top = made.0; below = [] } })

-- the flow that begins as that of a number
abbrev pub first_after : {F : Type 0} → ℕ → ℕ → F × Act F → FlowAfter F
first_after f class made = record { number = f; state = first_state f class made }

-- the flow of a number that answers an Init, none where its class is unknown
abbrev pub begun_for : {F : Type 0} → Environment F → ℕ → ℕ → ℕ → Key → Body → Option (FlowAfter F)
begun_for w me now f key (body_of.Init class first) = option_map (first_after f class) (w.machine.begun class key (place w me f 0 now))
begun_for w me now f key _ = None

-- ---- an act

-- the next item of a session, or else that the moment has come
abbrev pub takes_or_lapses : Option Session → Done
takes_or_lapses session = unwrap_or (receives session) (resumed.Lapsed, nothing)

-- what was done for a flow is within its limits, and short
pub record IsDone (flow : ℕ) (p : Performed) : Type 0 where
  pub result : IsResumed p.with
  pub session : IsSession flow None p.change
  pub short : length (session_text p.change) ≤ 50000

-- a step is within its limits, and accepts no item
pub record IsBounded {F : Type 0} (within : F → Type 0) (step : Step F) : Type 0 where
  pub flow : IfSome step.flow (IsAfter within)
  pub session : IsSession (owner_of step.flow) None step.session
  pub ledger : IsLedger (owner_of step.flow) (ends_with step.flow) step.ledger
  pub short : length (session_text step.session) ≤ 50000

-- the step by which the flow of a number becomes this, and by which this changes
abbrev pub changed_by : {F : Type 0} → Cause → ℕ → FlowState F → SessionChange → LedgerChange → Step F
changed_by cause number new session ledger = record { cause = cause; flow = Some (record { number = number; state = new }); session = session; ledger = ledger }

-- the effect of a step
abbrev pub effect_in : {F : Type 0} → Step F → Effect F
effect_in step = effect_by step.flow step.session step.ledger

-- a step has this effect, within its limits
pub record Becomes {F : Type 0} (within : F → Type 0) (e : Effect F) (step : Step F) : Type 0 where
  pub effect : effect_in step ≡ e
  pub limits : IsBounded within step

-- the flow is over as this, and each of its sessions is told by this item
abbrev pub over : {F : Type 0} → ℕ → List Session → Checkpoint F → FlowState F → Body → Effect F
over me sessions at new last = record { flow = part_of at.flow new; change = last_items me sessions at.flow last }

-- a step lets a flow go on as its act means, over these sessions and whatever ledger the tables hold, by whichever event the act is performed
pub record Performs {F : Type 0} (w : Environment F) (me now : ℕ) (within : F → Type 0) (sessions : List Session) (tables : Ledger) (at : Checkpoint F) (step : Step F) : Type 0 where
  pub limits : IsBounded within step
  pub by : (s : NodeState F) (e : Event) → s.sessions ≡ sessions → HoldsLedger (party me) (ledger_in s) tables → enabled_event sessions now (state.Live at) ≡ Some e → effect_on w me s now (state.Live at) e ≡ Some (effect_in step)
