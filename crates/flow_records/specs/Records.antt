-- What the bytes of a record tell of, over a flow set.
use Rattle.std.specs.Prelude.{◌<◌, ◌^◌, ℕ, List, [], ◌∷◌, length, nat_le, Option, Some, None, option_map, option_and_then, Result, Ok, Err, if◌then◌else◌}
use Rattle.net_base.specs.declared.causes.Cause.{Cause}
use Rattle.ledger_types.specs.Values.{IsValue}
use Rattle.session_wire.specs.declared.effect.Effect.{Effect as Spoken}
use Rattle.session_wire.specs.declared.effect.FlowPart.{FlowPart as SpokenPart}
use Rattle.session_wire.specs.declared.effect.FlowPart.TheVariants as part
use Rattle.flow_machine.specs.declared.flows.FlowState.{FlowState}
use Rattle.flow_machine.specs.declared.flows.FlowState.TheVariants as state
use Rattle.flow_machine.specs.Checkpoints.{IsCheckpoint, checkpoint_at}
use Rattle.transition_record.specs.Records.{record_at}
use Rattle.net_model.specs.State.{FlowPart, no_flow, now_live, now_ended, now_failed, Change, Record}

-- ---- reading

-- the value where no byte is behind it
abbrev pub if_last : {X : Type 0} → X → List ℕ → Option X
if_last x [] = Some x
if_last x (b ∷ rest) = None

-- the value that was read, where nothing is left behind it
abbrev pub whole : {X : Type 0} → Result (X × List ℕ) ℕ → Option X
whole (Ok x) = if_last x.0 x.1
whole (Err n) = None

-- what becomes of a flow, its checkpoint read as one of the flow set's, where it is one
abbrev pub flow_part : {F : Type 0} → (List ℕ → Result (F × List ℕ) ℕ) → SpokenPart → Option (FlowPart F)
flow_part frame_at part.Absent = Some no_flow
flow_part frame_at (part.Live checkpoint) = option_map now_live (whole (checkpoint_at frame_at checkpoint))
flow_part frame_at (part.Ended flow step class value) = Some (now_ended flow step class value)
flow_part frame_at (part.Failed flow step class code) = Some (now_failed flow step class code)

-- what a cause changes beside its flow
abbrev pub change_of : Spoken → Change
change_of e = record { opened = e.session.opened; sent = e.session.sent; came = e.session.came; taken = e.session.taken; recorded = e.ledger.recorded; locked = e.ledger.locked; booked = e.ledger.booked }

-- a record over a flow set, where its checkpoint is one of the set's
abbrev pub record_over : {F : Type 0} → (List ℕ → Result (F × List ℕ) ℕ) → Cause → Spoken → Option (Record F)
record_over frame_at cause e = option_map (λ flow. record { cause = cause; effect = record { flow = flow; change = change_of e } }) (flow_part frame_at e.flow)

-- The record whose bytes these are, at most 524,288 of them, its checkpoint read as one of the flow set's. None where they are no
-- record, or the checkpoint is none of the set's.
unfoldable pub record_of : {F : Type 0} → (List ℕ → Result (F × List ℕ) ℕ) → List ℕ → Option (Record F)
record_of frame_at bytes = if nat_le (length bytes) 524288 then option_and_then (λ r. record_over frame_at r.cause r.effect) (whole (record_at bytes)) else None

-- ---- a flow

-- the limits of a flow, by those of frames
abbrev pub IsFlow : {F : Type 0} → (F → Type 0) → FlowState F → Type 0
IsFlow within (state.Live at) = IsCheckpoint within at
IsFlow within (state.Ended step class value) = (step < 2 ^ 32) × ((class < 2 ^ 16) × IsValue value)
IsFlow within (state.Failed step class code) = (step < 2 ^ 32) × ((class < 2 ^ 16) × (code < 2 ^ 16))
