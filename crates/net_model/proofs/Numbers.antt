-- Each live flow keeps its own number, and what an effect makes of the flows.
use Rattle.std.proofs.Common.{◌≡◌, ℕ, zero, suc, ◌+◌, ◌<◌, List, [], ◌∷◌, ◌++◌, length, slice_set, refl, ap, subst, arith, ◌∙◌}
use Rattle.std.proofs.lemmas.Bool.{ne_eqb, eq-eqb}
use Rattle.flow_machine.specs.declared.flows.FlowState.{FlowState}
use Rattle.flow_machine.specs.declared.flows.FlowState.TheVariants.{Live, Ended, Failed}
use Rattle.net_model.specs.State.{placed, flows_on}
use Rattle.net_model.specs.Enabled.{part_of}
use Rattle.net_model.specs.Sound.{IsNumbered, AreNumbered}

pub numbered_push : {F : Type 0} (f : ℕ) (flows : List (FlowState F)) (flow : FlowState F) → AreNumbered f flows → IsNumbered (f + length flows) flow → AreNumbered f (flows ++ flow ∷ [])
numbered_push f [] flow h k = (subst (λ n. IsNumbered n flow) (omega arith) k, tt)
numbered_push f (x ∷ flows) flow h k = (h.0, numbered_push (f + 1) flows flow h.1 (subst (λ n. IsNumbered n flow) (omega arith) k))

pub numbered_set : {F : Type 0} (f i : ℕ) (flows : List (FlowState F)) (flow : FlowState F) → AreNumbered f flows → IsNumbered (f + i) flow → AreNumbered f (slice_set flows i flow)
numbered_set f i [] flow h k = h
numbered_set f zero (x ∷ flows) flow h k = (subst (λ n. IsNumbered n flow) (omega arith) k, h.1)
numbered_set f (suc i) (x ∷ flows) flow h k = (h.0, numbered_set (f + 1) i flows flow h.1 (subst (λ n. IsNumbered n flow) (omega arith) k))

placed_old : {F : Type 0} (flows : List (FlowState F)) (f : ℕ) (flow : FlowState F) → f < length flows → placed flows f flow ≡ slice_set flows f flow
placed_old flows f flow h = rw (ne_eqb f (length flows) (λ e. omega arith)) refl

-- a flow of the table is set in its place
pub set_on : {F : Type 0} (flows : List (FlowState F)) (f : ℕ) (flow : FlowState F) → f < length flows → IsNumbered f flow → flows_on (part_of f flow) flows ≡ slice_set flows f flow
set_on flows f (Live at) h n = placed_old flows at.flow (Live at) (omega arith) ∙ ap (λ k. slice_set flows k (Live at)) n
set_on flows f (Ended step class value) h n = placed_old flows f (Ended step class value) h
set_on flows f (Failed step class code) h n = placed_old flows f (Failed step class code) h

-- a flow of the next number is added
pub push_on : {F : Type 0} (flows : List (FlowState F)) (f : ℕ) (flow : FlowState F) → f ≡ length flows → placed flows f flow ≡ flows ++ flow ∷ []
push_on flows f flow h = rw (eq-eqb f (length flows) h) refl
