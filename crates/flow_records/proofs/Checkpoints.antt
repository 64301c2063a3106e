-- What is spelt of a flow is read as that flow again, and is short.
use Rattle.std.proofs.Common.{◌≡◌, ◌<◌, ◌≤◌, ◌^◌, ℕ, List, length, Option, Some, None, Result, IfSome, refl, sym, ap, subst, ◌∙◌, arith, option_map}
use Rattle.ledger_types.specs.declared.value.Value.{Value}
use Rattle.ledger_types.specs.Values.{IsValue}
use Rattle.net_base.specs.Laws.{LawsIf}
use Rattle.net_base.specs.Parts.{DecodesIfSpelt}
use Rattle.session_wire.specs.declared.effect.FlowPart.TheVariants as part
use Rattle.flow_machine.specs.declared.act_spelling.FrameBytes.{FrameBytes}
use Rattle.flow_machine.specs.declared.flows.Checkpoint.{Checkpoint}
use Rattle.flow_machine.specs.declared.flows.FlowState.TheVariants as state
use Rattle.flow_machine.specs.Machine.{Machine}
use Rattle.flow_machine.specs.Flows.{SpellsContent}
use Rattle.flow_machine.specs.Acts.{IsFrameBytes, frame_bytes, SameBytes}
use Rattle.flow_machine.specs.Checkpoints.{IsCheckpoint, checkpoint_text, checkpoint_at, checkpoint_laws, checkpoint_with, checkpoint_same}
use Rattle.transition_record.specs.Changes.{IsCheckpointText, checkpoint_flow, checkpoint_flow_is}
use Rattle.net_model.specs.State.{now_live}
use Rattle.flow_records.specs.Records.{whole}
use Rattle.flow_records.specs.Spelling.{IsPartOf}
use Rattle.flow_records.proofs.Whole.{whole_again}
use Rattle.flow_records.proofs.Sizes.{content_fits, checkpoint_fits, ended_fits, failed_fits}

-- the bytes of a flow set's checkpoint are those of some checkpoint of plain bytes
is_some_checkpoint : {F : Type 0} (within : F → Type 0) (spelling : F → List ℕ) (m : Machine F) → SpellsContent within spelling m → (c : Checkpoint F) → IsCheckpoint within c → IsCheckpointText (checkpoint_text spelling c)
is_some_checkpoint {F} within spelling m frames c h =
    let see : F → FrameBytes = λ f. record { 0 = m.content f } in
    let same : SameBytes within spelling IsFrameBytes frame_bytes see = λ f hf. (frames.short f hf, sym (frames.framed f hf)) in
    let t = checkpoint_same within spelling IsFrameBytes frame_bytes see same c h in
    (checkpoint_with see c, (t.0, sym t.1))

-- of a live flow
pub live_is : {F : Type 0} (within : F → Type 0) (spelling : F → List ℕ) (reading : List ℕ → Result (F × List ℕ) ℕ) (m : Machine F) {exact : Type 0} → LawsIf exact within spelling reading → SpellsContent within spelling m → (number : ℕ) (c : Checkpoint F) (bytes : List ℕ) → IsCheckpoint within c → c.flow ≡ number → bytes ≡ checkpoint_text spelling c → IsPartOf reading number (state.Live c) (part.Live bytes)
live_is {F} within spelling reading m {exact} laws frames number c bytes h own is =
    let text = checkpoint_text spelling c in
    let few : length text ≤ 294942 = checkpoint_fits within spelling (content_fits within spelling m frames) c h in
    let read : whole (checkpoint_at reading text) ≡ Some c = whole_again (checkpoint_laws laws) c h in
    let spelt : IsPartOf reading number (state.Live c) (part.Live text) = record {
      limits = is_some_checkpoint within spelling m frames c h;
      flow_is = checkpoint_flow_is spelling c h.0 ∙ own;
      over_is = refl;
      means = ap (λ (o : Option (Checkpoint F)). option_map now_live o) read;
      short = omega (arith, few);
    } in
    subst (λ (b : List ℕ). IsPartOf reading number (state.Live c) (part.Live b)) (sym is) spelt

-- of one that has ended
pub ended_is : {F : Type 0} (reading : List ℕ → Result (F × List ℕ) ℕ) (number step class : ℕ) (v : Value) → number < 2 ^ 32 → step < 2 ^ 32 → class < 2 ^ 16 → IsValue v → IsPartOf reading number (state.Ended step class v) (part.Ended number step class v)
ended_is reading number step class v hn hs hc hv = record {
  limits = (hn, (hs, (hc, hv)));
  flow_is = refl;
  over_is = refl;
  means = refl;
  short = ended_fits number step class v hv;
}

-- of one that has failed
pub failed_is : {F : Type 0} (reading : List ℕ → Result (F × List ℕ) ℕ) (number step class code : ℕ) → number < 2 ^ 32 → step < 2 ^ 32 → class < 2 ^ 16 → code < 2 ^ 16 → IsPartOf reading number (state.Failed step class code) (part.Failed number step class code)
failed_is reading number step class code hn hs hc hv = record {
  limits = (hn, (hs, (hc, hv)));
  flow_is = refl;
  over_is = refl;
  means = refl;
  short = failed_fits number step class code;
}

-- what all of the bytes are decoded to is the flow's of which they tell
pub decoded_own : {F : Type 0} (within : F → Type 0) (spelling : F → List ℕ) (bytes : List ℕ) (r : Option (Checkpoint F)) → DecodesIfSpelt (IsCheckpoint within) (checkpoint_text spelling) r bytes → IfSome r (λ at. at.flow ≡ checkpoint_flow bytes)
decoded_own within spelling bytes (Some c) h = sym (ap checkpoint_flow h.1 ∙ checkpoint_flow_is spelling c h.0.0)
decoded_own within spelling bytes None h = tt
