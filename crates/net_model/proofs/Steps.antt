-- Single steps of a node.
use Rattle.std.proofs.Common.{◌≡◌, ℕ, ◌+◌, ◌<◌, ◌≤◌, ◌^◌, ◌==◌, ◌&&◌, Option, Some, nat_le, nat_lt, max, option_map, refl, arith}
use Rattle.std.proofs.lemmas.Bool.{and_parts, and_from, eqb-true, eq-eqb, lt-ltb, le-leb}
use Rattle.net_base.specs.declared.causes.Cause.{Cause}
use Rattle.net_base.specs.declared.causes.Event.{Event}
use Rattle.session_wire.specs.Sessions.{Sent}
use Rattle.net_model.specs.Environment.{Environment}
use Rattle.net_model.specs.State.{NodeState, Effect, apply_effect}
use Rattle.net_model.specs.Steps.{effect_of, body_in, stamp_in, in_order, node_step, next_cause}
use Rattle.net_model.proofs.Basics.{from_cond, from_map, apply_stamp}

module _ {F : Type 0} (w : Environment F) (me : ℕ) (s : NodeState F) where
  -- the stamp of a step is above the last one, and apply_stamp in the new state
  pub step_stamp : (cause : Cause) (item : Option Sent) (done : NodeState F × Effect F) → node_step w me s cause item ≡ Some done → (done.0.stamp ≡ cause.stamp) × (s.stamp < cause.stamp)
  unfolding node_step
  step_stamp cause item done h =
      from_cond ((done.0.stamp ≡ cause.stamp) × (s.stamp < cause.stamp)) (in_order s cause (stamp_in item)) (option_map (λ e. (apply_effect s cause e, e)) (effect_of w me s cause.moment.0 cause.event (body_in item))) done h
      (λ tested rest.
      let next = eqb-true cause.stamp (max s.stamp (stamp_in item) + 1) (and_parts (cause.stamp == max s.stamp (stamp_in item) + 1) (nat_lt cause.stamp (2 ^ 63) && nat_le s.moment cause.moment.0) tested).0 in
      let above : s.stamp < cause.stamp = omega (arith, next) in
      from_map (λ d. (d.0.stamp ≡ cause.stamp) × (s.stamp < cause.stamp)) (λ e. (apply_effect s cause e, e)) (effect_of w me s cause.moment.0 cause.event (body_in item)) done rest (λ e is. (apply_stamp s cause e, above)))

  -- the next cause is a step where its event has an effect
  pub steps_on : (now : ℕ) (event : Event) (item : Option Sent) (e : Effect F) → max s.stamp (stamp_in item) + 1 < 2 ^ 63 → s.moment ≤ now → effect_of w me s now event (body_in item) ≡ Some e
      → node_step w me s (next_cause s now event item) item ≡ Some (apply_effect s (next_cause s now event item) e, e)
  unfolding node_step
  steps_on now event item e small by is =
      let stamp = max s.stamp (stamp_in item) + 1 in
      rw (and_from _ _ (eq-eqb stamp stamp refl) (and_from _ _ (lt-ltb stamp (2 ^ 63) small) (le-leb s.moment now by)), is) refl
