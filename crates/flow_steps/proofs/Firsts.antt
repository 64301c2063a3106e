-- What the first event tells of the flows before it.
use Rattle.std.proofs.Common.{◌≡◌, ℕ, zero, suc, ◌+◌, ◌<◌, ◌≤◌, List, [], ◌∷◌, length, take, drop, ◌-◌, slice_get, Option, Some, None, refl, sym, ◌∙◌, ap, arith}
use Rattle.std.specs.Prelude.{slice_index_or, IfSome}
use Rattle.std.specs.Option.{option_or, option_and_then}
use Rattle.std.proofs.lemmas.List.{get_or_default, length-drop}
use Rattle.std.specs.List.Sorted.{IsNonDecreasingBy}
use Rattle.std.proofs.Math.Seq.{take-length}
use Rattle.net_base.specs.declared.causes.Event.{Event}
use Rattle.session_wire.specs.Sessions.{Session}
use Rattle.flow_machine.specs.declared.flows.FlowState.{FlowState}
use Rattle.flow_machine.specs.declared.flows.FlowState.TheVariants.{Live, Ended, Failed}
use Rattle.checkpoints.specs.Tables.{IsRising}
use Rattle.net_model.specs.Enabled.{enabled_event, first_event}
use Rattle.net_model.specs.Sound.{IsNumbered, AreNumbered}
use Rattle.flow_steps.specs.Going.{first_of, flow_in}
use Rattle.flow_steps.specs.Idle.{IdleBelow}
use Rattle.flow_steps.proofs.Picks.{enabling_own}

-- numbers that rise do so whatever is read past their end
pub rising_by : (xs : List ℕ) → IsRising xs → IsNonDecreasingBy (λ (n : ℕ). n) xs
rising_by xs up i j d le lt = omega (arith, up i j le lt, get_or_default xs i d 0 (omega (arith, le, lt)), get_or_default xs j d 0 lt)

-- the numbers behind a place
pub behind_place : (n : ℕ) (xs : List ℕ) → take (length xs - n) (drop n xs) ≡ drop n xs
behind_place n xs = ap (λ (k : ℕ). take k (drop n xs)) (sym (length-drop n xs)) ∙ take-length (drop n xs)

-- flows that cannot go on may be passed over
pub passed_over : {F : Type 0} (sessions : List Session) (now : ℕ) (all : List (FlowState F)) (idle place : ℕ) (numbers : List ℕ) → ((k : ℕ) → k < place → slice_index_or numbers k 0 < idle) → place ≤ length numbers
    → IdleBelow sessions now all idle → first_of sessions now all (drop place numbers) ≡ first_of sessions now all numbers
passed_over sessions now all idle zero numbers below within none = refl
passed_over sessions now all idle (suc place) [] below within none = refl
passed_over sessions now all idle (suc place) (n ∷ numbers) below within none =
    passed_over sessions now all idle place numbers (λ k l. below (suc k) (omega (arith, l))) (omega (arith, within)) none
    ∙ sym (ap (λ (o : Option Event). option_or o (first_of sessions now all numbers)) (none n (below 0 (omega arith))))

module _ {F : Type 0} (sessions : List Session) (now : ℕ) where
  -- the flow of an event has the number of its place
  event_own : (n : ℕ) (x : FlowState F) (e : Event) → IsNumbered n x → enabled_event sessions now x ≡ Some e → flow_in e ≡ n
  event_own n (Live at) e own by = (enabling_own sessions at.flow now at.waiting e by).flow ∙ own
  event_own n (Ended step class value) e own by = cc
  event_own n (Failed step class code) e own by = cc

  none_before : (n : ℕ) (flows : List (FlowState F)) (e : Event) (k : ℕ) → AreNumbered n flows → first_event sessions now flows ≡ Some e → n + k < flow_in e → option_and_then (enabled_event sessions now) (slice_get flows k) ≡ None
  none_before n [] e k own h l = cc
  none_before n (x ∷ xs) e k own h l = by (enabled_event sessions now x) refl h k l (λ rest j m. none_before (n + 1) xs e j own.1 rest m)
    where
      by : (o : Option Event) → enabled_event sessions now x ≡ o → option_or o (first_event sessions now xs) ≡ Some e → (k : ℕ) → n + k < flow_in e
          → (first_event sessions now xs ≡ Some e → (j : ℕ) → n + 1 + j < flow_in e → option_and_then (enabled_event sessions now) (slice_get xs j) ≡ None)
          → option_and_then (enabled_event sessions now) (slice_get (x ∷ xs) k) ≡ None
      by (Some d) is here k l later = absurd (omega (arith, l, event_own n x e own.0 (is ∙ here)))
      by None is here zero l later = is
      by None is here (suc k) l later = later here k (omega (arith, l))

  -- before the flow of the first event none can go on
  pub idle_before : (flows : List (FlowState F)) (o : Option Event) → AreNumbered 0 flows → first_event sessions now flows ≡ o → IfSome o (λ e. IdleBelow sessions now flows (flow_in e))
  idle_before flows None own h = tt
  idle_before flows (Some e) own h = λ g l. none_before 0 flows e g own h (omega (arith, l))
