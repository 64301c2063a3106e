-- Records that tell of a flow or of none, and of what changes in the sessions and in the ledger.
use Rattle.std.specs.Prelude.{◌≡◌, ◌≤◌, ℕ, Bool, true, false, List, [], length, filter, Option, Some, None, IfSome, MatchOption, Result, if◌then◌else◌}
use Rattle.net_base.specs.declared.causes.Cause.{Cause}
use Rattle.ledger_types.specs.declared.change.LedgerChange.{LedgerChange}
use Rattle.session_wire.specs.declared.body.Body.{Body}
use Rattle.session_wire.specs.declared.body.Body.TheVariants as body
use Rattle.session_wire.specs.declared.change.SentItem.{SentItem}
use Rattle.session_wire.specs.declared.change.SessionChange.{SessionChange}
use Rattle.session_wire.specs.declared.effect.Effect.{Effect as Spoken}
use Rattle.session_wire.specs.declared.effect.FlowPart.{FlowPart as SpokenPart}
use Rattle.session_wire.specs.declared.effect.FlowPart.TheVariants as part
use Rattle.flow_machine.specs.declared.flows.FlowState.{FlowState}
use Rattle.transition_record.specs.Causes.{IsCause, came_key_of}
use Rattle.transition_record.specs.Changes.{IsFlowPart, part_text, part_flow, part_over, IsSessionPart, IsSession, session_text, IsLedger}
use Rattle.net_model.specs.State.{FlowPart, no_flow, Change, Effect, Record}
use Rattle.net_model.specs.Enabled.{part_of}
use Rattle.net_model.specs.Sound.{IsNumbered}
use Rattle.flow_records.specs.declared.step.FlowAfter.{FlowAfter}
use Rattle.flow_records.specs.declared.step.Step.{Step}
use Rattle.flow_records.specs.Records.{flow_part, IsFlow}
use Rattle.flow_records.specs.Spelling.{is_over}

-- ---- a step

-- what becomes of the flow, none where no flow changes
abbrev pub part_after : {F : Type 0} → Option (FlowAfter F) → FlowPart F
part_after None = no_flow
part_after (Some after) = part_of after.number after.state

-- what changes in the sessions and in the ledger, in the words of the network machine
abbrev pub whole_part : SessionChange → LedgerChange → Change
whole_part session ledger = record { opened = session.opened; sent = session.sent; came = session.came; taken = session.taken; recorded = ledger.recorded; locked = ledger.locked; booked = ledger.booked }

-- this is the flow afterwards, and this changes in the sessions and in the ledger
abbrev pub effect_by : {F : Type 0} → Option (FlowAfter F) → SessionChange → LedgerChange → Effect F
effect_by flow session ledger = record { flow = part_after flow; change = whole_part session ledger }

-- the record of a step
abbrev pub step_record : {F : Type 0} → Step F → Record F
step_record step = record { cause = step.cause; effect = effect_by step.flow step.session step.ledger }

-- ---- limits

-- the flow that owns what a step makes, 0 where it changes none
abbrev pub owner_of : {F : Type 0} → Option (FlowAfter F) → ℕ
owner_of None = 0
owner_of (Some after) = after.number

-- whether the flow is over with the step
abbrev pub ends_with : {F : Type 0} → Option (FlowAfter F) → Bool
ends_with None = false
ends_with (Some after) = is_over after.state

-- a flow within the limits of its frames, that keeps its number while it lives
abbrev pub IsAfter : {F : Type 0} → (F → Type 0) → FlowAfter F → Type 0
IsAfter within after = IsFlow within after.state × IsNumbered after.number after.state

-- the limits of a step, by those of frames
abbrev pub IsStep : {F : Type 0} → (F → Type 0) → Step F → Type 0
IsStep within step = IsCause step.cause × IfSome step.flow (IsAfter within) × IsSession (owner_of step.flow) (came_key_of step.cause.event) step.session × IsLedger (owner_of step.flow) (ends_with step.flow) step.ledger

-- the step of which a record tells, none exactly where there is no record
abbrev pub TellsStep : {F : Type 0} → (F → Type 0) → Option (Record F) → Option (Step F) → Type 0
TellsStep within told r = MatchOption r (told ≡ None) (λ step. (told ≡ Some (step_record step)) × IsStep within step)

-- ---- spelling

-- nothing changes of the ledger, by this flow, which is over or not
abbrev pub no_ledger : ℕ → Bool → LedgerChange
no_ledger owner over = record { recorded = None; locked = []; owner = owner; ended = over; booked = None }

-- the effect of which these are the flow, the sessions and the ledger
abbrev pub spoken_by : SpokenPart → SessionChange → LedgerChange → Spoken
spoken_by flow session ledger = record { flow = flow; session = session; ledger = ledger }

-- what is spelt of the flow: it is read as that flow again, or as none, and is short
pub record IsPartAfter {F : Type 0} (frame_at : List ℕ → Result (F × List ℕ) ℕ) (flow : Option (FlowAfter F)) (p : SpokenPart) : Type 0 where
  pub limits : IsFlowPart p
  pub flow_is : part_flow p ≡ owner_of flow
  pub over_is : part_over p ≡ ends_with flow
  pub means : flow_part frame_at p ≡ Some (part_after flow)
  pub short : length (part_text p) ≤ 300000

-- ---- reading

-- whether a part tells of no flow
abbrev pub is_absent : SpokenPart → Bool
is_absent part.Absent = true
is_absent (part.Live checkpoint) = false
is_absent (part.Ended flow step class value) = false
is_absent (part.Failed flow step class code) = false

-- the flow that was told, or that a part tells of none; none where it should tell of a flow and doesn't
abbrev pub after_told : {F : Type 0} → Bool → Option (ℕ × FlowState F) → Option (Option (FlowAfter F))
after_told absent None = if absent then Some None else None
after_told absent (Some s) = Some (Some (record { number = s.0; state = s.1 }))

-- a step of its parts
abbrev pub step_with : {F : Type 0} → Cause → SessionChange → LedgerChange → Option (FlowAfter F) → Step F
step_with cause session ledger flow = record { cause = cause; flow = flow; session = session; ledger = ledger }

-- the flow of which a part tells, or that it tells of none; none exactly where its checkpoint is none of the flow set's
abbrev pub TellsAfter : {F : Type 0} → (F → Type 0) → Option (FlowPart F) → Option (Option (FlowAfter F)) → Type 0
TellsAfter within told r = MatchOption r (told ≡ None) (λ flow. (told ≡ Some (part_after flow)) × IfSome flow (IsAfter within))

-- ---- laws

-- whether an item carries a value
abbrev pub carries_value : Body → Bool
carries_value (body.Init class first) = true
carries_value body.Confirm = false
carries_value (body.Reject code) = false
carries_value (body.Data value) = true
carries_value (body.Error code) = false
carries_value body.End = false

-- where at most three of the items that are sent carry a value, what changes in the sessions is spelt in at most 50,000 bytes
abbrev pub FewValuesAreShort : Type 0
FewValuesAreShort = (s : SessionChange) → IsSessionPart s → length (filter (λ (item : SentItem). carries_value item.body) s.sent) ≤ 3 → length (session_text s) ≤ 50000
