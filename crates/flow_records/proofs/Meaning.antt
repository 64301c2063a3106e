-- What the bytes of a record mean over a flow set.
use Rattle.std.proofs.Common.{◌≡◌, ◌≤◌, ℕ, Bool, true, false, List, length, Option, Some, None, Result, Ok, Err, refl, sym, ap, subst, ◌∙◌, nat_le, option_and_then, if◌then◌else◌, option_map}
use Rattle.std.specs.Prelude.{IfOk}
use Rattle.std.proofs.lemmas.Bool.{leb-true, le-leb}
use Rattle.net_base.specs.declared.causes.Cause.{Cause}
use Rattle.net_base.specs.Reading.{IsBytes}
use Rattle.ledger_types.specs.declared.change.LedgerChange.{LedgerChange}
use Rattle.session_wire.specs.declared.change.SessionChange.{SessionChange}
use Rattle.session_wire.specs.declared.effect.Effect.{Effect as Spoken}
use Rattle.transition_record.specs.Records.{IsRecord, record_text, record_at, record_laws}
use Rattle.session_wire.specs.declared.effect.FlowPart.{FlowPart as SpokenPart}
use Rattle.transition_record.specs.Causes.{IsCause, came_key_of}
use Rattle.transition_record.specs.Changes.{IsSession, IsLedger, session_text}
use Rattle.net_model.specs.State.{FlowPart}
use Rattle.flow_records.specs.Records.{whole, record_over, record_of}
use Rattle.flow_records.specs.declared.step.FlowAfter.{FlowAfter}
use Rattle.flow_records.specs.Steps.{whole_part, effect_by, owner_of, ends_with, spoken_by, IsPartAfter}
use Rattle.flow_records.proofs.Sizes.{spoken_fits}
use Rattle.flow_records.proofs.Whole.{whole_again, whole_takes}

-- the bytes of a record mean that record over the flow set
pub spelt_means : {F : Type 0} (frame_at : List ℕ → Result (F × List ℕ) ℕ) (bytes : List ℕ) (cause : Cause) (e : Spoken) → IsRecord cause e → bytes ≡ record_text cause e → record_of frame_at bytes ≡ record_over frame_at cause e
unfolding record_of
spelt_means {F} frame_at bytes cause e h is =
    let read = ap (λ (b : List ℕ). whole (record_at b)) is ∙ whole_again record_laws (record { cause = cause; effect = e }) h.limits in
    let few : nat_le (length bytes) 524288 ≡ true = le-leb (length bytes) 524288 (rw is h.short) in
    rw (few, read) refl

-- a test that both ends give nothing
either_none : {X : Type 0} (b : Bool) (o : Option X) → (b ≡ true → o ≡ None) → (if b then o else None) ≡ None
either_none true o h = h refl
either_none false o h = refl

-- nothing follows where nothing is
follows_none : {X Y : Type 0} (o : Option X) (f : X → Option Y) → ((x : X) → o ≡ Some x → ⊥) → option_and_then f o ≡ None
follows_none None f none = refl
follows_none (Some x) f none = absurd (none x refl)

-- what are no record's bytes mean none
pub unspelt_means : {F : Type 0} (frame_at : List ℕ → Result (F × List ℕ) ℕ) (bytes : List ℕ) → IsBytes bytes → ((cause : Cause) (e : Spoken) → IsRecord cause e → bytes ≡ record_text cause e → ⊥) → record_of frame_at bytes ≡ None
unfolding record_of
unspelt_means {F} frame_at bytes fits none =
    either_none (nat_le (length bytes) 524288) (option_and_then (λ r. record_over frame_at r.cause r.effect) (whole (record_at bytes))) (λ few.
    follows_none (whole (record_at bytes)) (λ r. record_over frame_at r.cause r.effect) (λ r e.
    let t = whole_takes record_laws bytes r fits e in
    none r.cause r.effect (record { limits = t.0; short = subst (λ (l : List ℕ). length l ≤ 524288) t.1 (leb-true (length bytes) 524288 few) }) t.1))

-- ---- steps

-- what is spelt of a step makes a record
pub step_is_record : {F : Type 0} (frame_at : List ℕ → Result (F × List ℕ) ℕ) (cause : Cause) (flow : Option (FlowAfter F)) (p : SpokenPart) (s : SessionChange) (l : LedgerChange) → IsCause cause → IsPartAfter frame_at flow p → IsSession (owner_of flow) (came_key_of cause.event) s → IsLedger (owner_of flow) (ends_with flow) l → length (session_text s) ≤ 50000 → IsRecord cause (spoken_by p s l)
step_is_record frame_at cause flow p s l hc h hs hl few = record {
  limits = (hc, (h.limits, ((hs.0, (hs.1.0 ∙ sym h.flow_is, hs.1.1)), (hl.0, (hl.1.0 ∙ sym h.flow_is, hl.1.1 ∙ sym h.over_is)))));
  short = spoken_fits cause p s l hc hl.0 h.short few;
}

-- whose bytes mean that step
step_means : {F : Type 0} (frame_at : List ℕ → Result (F × List ℕ) ℕ) (cause : Cause) (flow : Option (FlowAfter F)) (p : SpokenPart) (s : SessionChange) (l : LedgerChange) → IsCause cause → IsPartAfter frame_at flow p → IsSession (owner_of flow) (came_key_of cause.event) s → IsLedger (owner_of flow) (ends_with flow) l → length (session_text s) ≤ 50000 → (bytes : List ℕ) → bytes ≡ record_text cause (spoken_by p s l) → record_of frame_at bytes ≡ Some (record { cause = cause; effect = effect_by flow s l })
step_means {F} frame_at cause flow p s l hc h hs hl few bytes is =
    spelt_means frame_at bytes cause (spoken_by p s l) (step_is_record frame_at cause flow p s l hc h hs hl few) is ∙ ap (λ (o : Option (FlowPart F)). option_map (λ x. record { cause = cause; effect = record { flow = x; change = whole_part s l } }) o) h.means

-- so do those that were written
pub step_written : {F E : Type 0} (frame_at : List ℕ → Result (F × List ℕ) ℕ) (cause : Cause) (flow : Option (FlowAfter F)) (p : SpokenPart) (s : SessionChange) (l : LedgerChange) → IsCause cause → IsPartAfter frame_at flow p → IsSession (owner_of flow) (came_key_of cause.event) s → IsLedger (owner_of flow) (ends_with flow) l → length (session_text s) ≤ 50000 → (r : Result (List ℕ) E) → IfOk r (λ bytes. bytes ≡ record_text cause (spoken_by p s l)) → IfOk r (λ bytes. record_of frame_at bytes ≡ Some (record { cause = cause; effect = effect_by flow s l }))
step_written frame_at cause flow p s l hc h hs hl few (Ok bytes) is = step_means frame_at cause flow p s l hc h hs hl few bytes is
step_written frame_at cause flow p s l hc h hs hl few (Err e) is = is
