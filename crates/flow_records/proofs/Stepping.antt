-- Of which step a record tells.
use Rattle.std.proofs.Common.{◌≡◌, ℕ, List, Option, Some, None, Result, sym, ◌∙◌, ap, option_map}
use Rattle.std.specs.Prelude.{IfSome}
use Rattle.net_base.specs.declared.causes.Cause.{Cause}
use Rattle.session_wire.specs.declared.effect.Effect.{Effect as Spoken}
use Rattle.transition_record.specs.Causes.{IsCause, came_key_of}
use Rattle.transition_record.specs.Changes.{part_flow, part_over, IsSession, IsLedger}
use Rattle.net_model.specs.State.{FlowPart, Change, Record}
use Rattle.flow_records.specs.declared.step.FlowAfter.{FlowAfter}
use Rattle.flow_records.specs.Records.{flow_part, change_of, record_over}
use Rattle.flow_records.specs.Steps.{owner_of, ends_with, step_with, TellsAfter, TellsStep}

-- a part of a record over this change
abbrev with_part : {F : Type 0} → Cause → Change → FlowPart F → Record F
with_part cause c p = record { cause = cause; effect = record { flow = p; change = c } }

-- the step of the parts of an effect is that of which its record tells
pub step_is : {F : Type 0} (frame_at : List ℕ → Result (F × List ℕ) ℕ) (within : F → Type 0) (cause : Cause) (e : Spoken) (r : Option (Option (FlowAfter F))) → IsCause cause → IsSession (part_flow e.flow) (came_key_of cause.event) e.session → IsLedger (part_flow e.flow) (part_over e.flow) e.ledger → TellsAfter within (flow_part frame_at e.flow) r → IfSome r (λ flow. (owner_of flow ≡ part_flow e.flow) × (ends_with flow ≡ part_over e.flow)) → TellsStep within (record_over frame_at cause e) (option_map (step_with cause e.session e.ledger) r)
step_is {F} frame_at within cause e None hc hs hl h own = ap (option_map (with_part cause (change_of e))) h
step_is {F} frame_at within cause e (Some flow) hc hs hl h own =
    (ap (option_map (with_part cause (change_of e))) h.0, (hc, h.1, (hs.0, (hs.1.0 ∙ sym own.0, hs.1.1)), (hl.0, (hl.1.0 ∙ sym own.0, hl.1.1 ∙ sym own.1))))
