-- Which act is enabled, and by which event it is performed.
use Rattle.std.specs.Prelude.{◌≡◌, ℕ, Option, Some, None, IsSome, option_and_then, MatchOption, if◌then◌else◌, nat_le, List, [], ◌∷◌, slice_get}
use Rattle.std.specs.Option.{option_or}
use Rattle.net_base.specs.declared.causes.Event.{Event}
use Rattle.net_base.specs.declared.causes.Event.TheVariants as event
use Rattle.flow_machine.specs.declared.acts.Act.{Act}
use Rattle.flow_machine.specs.declared.acts.Act.TheVariants as act
use Rattle.flow_machine.specs.declared.flows.FlowState.{FlowState}
use Rattle.flow_machine.specs.declared.flows.FlowState.TheVariants as state
use Rattle.session_wire.specs.Sessions.{Session}
use Rattle.session_wire.specs.Rules.{owned, waits_for}
use Rattle.net_model.specs.Environment.{Environment}
use Rattle.net_model.specs.Sound.{IsNumbered}
use Rattle.net_model.specs.State.{NodeState, FlowPart, now_live, now_ended, now_failed, Effect}
use Rattle.net_model.specs.Steps.{effect_of, performed, lapsed, lapses, checkpoint_of}

-- the event that performs an act of flow f at a moment, where the act is enabled
abbrev pub enabling : {F : Type 0} → List Session → ℕ → ℕ → Act F → Option Event
enabling sessions f now (act.Sleep until) = if nat_le until now then Some (event.Lapse f) else None
enabling sessions f now (act.Receive key) = if waits_for (owned f key sessions) then None else Some (event.Move f)
enabling sessions f now (act.ReceiveBy key until) =
    if waits_for (owned f key sessions) then (if nat_le until now then Some (event.Lapse f) else None)
    else Some (event.Move f)
enabling sessions f now _ = Some (event.Move f)

-- the event by which a flow goes on at a moment, where it is live on an act that is enabled
abbrev pub enabled_event : {F : Type 0} → List Session → ℕ → FlowState F → Option Event
enabled_event sessions now (state.Live at) = enabling sessions at.flow now at.waiting
enabled_event sessions now _ = None

-- the event by which the first flow of the list goes on that can
abbrev pub first_event : {F : Type 0} → List Session → ℕ → List (FlowState F) → Option Event
first_event sessions now [] = None
first_event sessions now (flow ∷ flows) = option_or (enabled_event sessions now flow) (first_event sessions now flows)

-- the event by which the picked flow goes on, or the first that can
abbrev pub picked : {F : Type 0} → List Session → ℕ → Option ℕ → List (FlowState F) → Option Event
picked sessions now (Some f) flows = option_and_then (enabled_event sessions now) (slice_get flows f)
picked sessions now None flows = first_event sessions now flows

-- what becomes of flow f where it is this
abbrev pub part_of : {F : Type 0} → ℕ → FlowState F → FlowPart F
part_of f (state.Live at) = now_live at
part_of f (state.Ended step class value) = now_ended f step class value
part_of f (state.Failed step class code) = now_failed f step class code

-- the effect of a Move or a Lapse of a flow that is this
abbrev pub effect_on : {F : Type 0} → Environment F → ℕ → NodeState F → ℕ → FlowState F → Event → Option (Effect F)
effect_on w me s now flow (event.Move f) = option_and_then (λ at. performed w me s now at at.waiting) (checkpoint_of flow)
effect_on w me s now flow (event.Lapse f) = option_and_then (λ at. lapsed w me now at (lapses s now at.flow at.waiting)) (checkpoint_of flow)
effect_on w me s now flow _ = None

-- ---- laws

-- a flow that keeps its own number goes on, by the event that performs its act, exactly where that event has an effect
abbrev pub EnabledIsDefined : (F : Type 0) → Type 0
EnabledIsDefined F = (w : Environment F) (me : ℕ) (s : NodeState F) (now f : ℕ) (flow : FlowState F) → slice_get s.flows f ≡ Some flow → IsNumbered f flow
    → MatchOption (enabled_event s.sessions now flow) ((effect_of w me s now (event.Move f) None ≡ None) × (effect_of w me s now (event.Lapse f) None ≡ None)) (λ e. IsSome (effect_of w me s now e None))
