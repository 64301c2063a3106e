-- The spelling of records: a cause and its effect.
use Rattle.std.proofs.Common.{◌≡◌, ◌≤◌, ℕ, List, [], ◌++◌, length, Result, Ok, Err, refl, sym, ◌∙◌}
use Rattle.std.proofs.lemmas.List.{append-nil}
use Rattle.net_base.specs.declared.causes.Cause.{Cause}
use Rattle.net_base.specs.declared.fault.DecodeFault.{DecodeFault}
use Rattle.net_base.specs.declared.fault.DecodeFault.TheVariants as decoding
use Rattle.net_base.specs.Laws.{Laws, cancels}
use Rattle.net_base.specs.Combining.{mapped_at, iso_laws, pair_at, pair_laws}
use Rattle.net_base.specs.Framing.{both_at, both_laws}
use Rattle.ledger_types.specs.declared.change.LedgerChange.{LedgerChange}
use Rattle.session_wire.specs.declared.change.SessionChange.{SessionChange}
use Rattle.session_wire.specs.declared.effect.Effect.{Effect}
use Rattle.session_wire.specs.declared.effect.FlowPart.{FlowPart}
use Rattle.transition_record.specs.declared.record.Record.{Record}
use Rattle.transition_record.specs.Causes.{IsCause, cause_text, cause_at, cause_laws, came_key_of}
use Rattle.transition_record.specs.Changes.{IsFlowPart, part_text, part_at, part_laws, part_flow, part_over, IsSession, session_text, session_at, session_laws, IsLedger, ledger_text, ledger_at, ledger_laws}

-- the limits of an effect of a cause. Both owners are the flow of which the effect tells, or 0; that flow has ended as the
-- ledger's change says; and the accepted item's session is the cause's.
abbrev pub IsEffect : Cause → Effect → Type 0
IsEffect cause effect = IsFlowPart effect.flow × (IsSession (part_flow effect.flow) (came_key_of cause.event) effect.session × IsLedger (part_flow effect.flow) (part_over effect.flow) effect.ledger)

-- the spelling of an effect
abbrev pub effect_text : Effect → List ℕ
effect_text e = part_text e.flow ++ (session_text e.session ++ ledger_text e.ledger)

-- the spelling of a record
abbrev pub record_text : Cause → Effect → List ℕ
record_text cause effect = cause_text cause ++ effect_text effect

-- A cause and its effect, of which a record can be made: each part is within its limits, and the record has at most
-- 524,288 bytes.
pub record IsRecord (cause : Cause) (effect : Effect) : Type 0 where
  pub limits : IsCause cause × IsEffect cause effect
  pub short : length (record_text cause effect) ≤ 524288

-- ---- reading

-- the cause and the effect, apart
abbrev record_of : Cause × (FlowPart × (SessionChange × LedgerChange)) → Record
record_of p = record { cause = p.0; effect = record { flow = p.1.0; session = p.1.1.0; ledger = p.1.1.1 } }

-- the limits of a record of any length
abbrev pub IsUnbounded : Record → Type 0
IsUnbounded r = IsCause r.cause × IsEffect r.cause r.effect

-- the spelling of a record of any length
abbrev pub unbounded_text : Record → List ℕ
unbounded_text r = record_text r.cause r.effect

-- reading what a cause changes
abbrev effect_at : Cause → List ℕ → Result ((FlowPart × (SessionChange × LedgerChange)) × List ℕ) ℕ
effect_at cause = both_at part_at (λ flow. pair_at (session_at (part_flow flow) (came_key_of cause.event)) (ledger_at (part_flow flow) (part_over flow)))

-- reading a record
unfoldable pub record_at : List ℕ → Result (Record × List ℕ) ℕ
record_at = mapped_at record_of (both_at cause_at effect_at)

-- the laws of records
pub record_laws : Laws IsUnbounded unbounded_text record_at
unfolding record_at
record_laws =
    iso_laws record_of (λ r. (r.cause, (r.effect.flow, (r.effect.session, r.effect.ledger)))) (λ _. refl) (λ _. refl)
    (both_laws cause_laws (λ cause h. both_laws part_laws (λ flow hf. pair_laws (session_laws (part_flow flow) (came_key_of cause.event)) (ledger_laws (part_flow flow) (part_over flow)))))

-- ---- what reading a record answers

-- the record whose bytes these are; Malformed at 0 where they spell none; or want of memory
abbrev pub GivesRecord : Result (Cause × Effect) DecodeFault → List ℕ → Type 0
GivesRecord (Ok p) bytes = IsRecord p.0 p.1 × (bytes ≡ record_text p.0 p.1)
GivesRecord (Err decoding.Memory) bytes = Unit {0}
GivesRecord (Err (decoding.Malformed at)) bytes = (at ≡ 0) × ((cause : Cause) (effect : Effect) → IsRecord cause effect → bytes ≡ record_text cause effect → ⊥)

-- one record, or want of memory
abbrev pub GivesBack : Cause → Effect → Result (Cause × Effect) DecodeFault → Type 0
GivesBack cause effect (Ok p) = ◌≡◌ {A = Cause × Effect} p (cause, effect)
GivesBack cause effect (Err decoding.Memory) = Unit {0}
GivesBack cause effect (Err (decoding.Malformed at)) = ⊥

-- each record has its own bytes
pub same_record : (r s : Record) → IsUnbounded r → IsUnbounded s → unbounded_text r ≡ unbounded_text s → r ≡ s
same_record r s h k same = (cancels record_laws r s [] [] h k (append-nil (unbounded_text r) ∙ same ∙ sym (append-nil (unbounded_text s)))).0
