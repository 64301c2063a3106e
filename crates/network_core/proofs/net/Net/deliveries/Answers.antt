use Rattle.net_model.specs.Environment.{judge_without_contracts, meaning}
use Rattle.std.proofs.Common.{◌≡◌, ◌+◌, ◌<◌, Some, None, true, refl, arith, ap, sym, ◌∙◌, length, Ok, Option}
use Rattle.network_core.specs.Worlds.{NetSeen}
use Rattle.network_core.specs.declared.refusal.Refusal.TheVariants as refusal
use Rattle.network_core.specs.declared.steps.Outcome.{Outcome}
use Rattle.network_core.specs.declared.steps.Outcome.TheVariants as outcome
use Rattle.network_core.specs.Drains.{room}
use Rattle.network_core.specs.Rounds.{DeliversAt, HandStops, HandsStop, InOrder, Turns}
use Rattle.network_core.proofs.Draining.{Counts, order_still, order_more, order_of, hands_stop_at, turns_made, turns_short, turns_err, turns_full, turns_moved, turns_quiet}
use Rattle.network_core.proofs.Driving.{drives_none, drives_map, drives_then, drives_counted}
use Rattle.network_core.proofs.net.Net.deliveries.Goals.{in-Quiet, in-Moved}
use Rattle.std.specs.contracts.alloc.AllocError.{the_row}
use Rattle.network_core.proofs.net.Net.deliveries.Goals as goal

pub places-init : goal.places-init
places-init g c = record {
  drives = λ judge. drives_none (meaning g.F.FlowSet.machine g.F.Spelt.reading judge) _ _ (λ W s w v. InOrder (DeliversAt s) 0 0 w v) refl (λ W s w. (refl, refl));
  fell = λ e. cc;
  count = refl;
  within = omega arith;
}

-- the place is one of the network
pub deliveries_at-requires : goal.deliveries_at-requires
deliveries_at-requires g c = omega (arith, c.places.invariant.count, ap (λ (z : NetSeen). length z.nodes) c.self.view_is, c.self.inside.nodes.ok.0, c.len-count.ensures, c.places-test.true)

pub returns-in_err-deliveries_at-clause-drives : goal.returns-in_err-deliveries_at-clause-drives
returns-in_err-deliveries_at-clause-drives g c =
    let p = c.places.place in
    let before = c.places.invariant in
    let lt : p < length c.places.self.nodes = omega (arith, c.places.invariant.count, ap (λ (z : NetSeen). length z.nodes) c.self.view_is, c.self.inside.nodes.ok.0, c.len-count.ensures, c.places-test.true) in
    λ judge. drives_then (meaning g.F.FlowSet.machine g.F.Spelt.reading judge) _ _ _ (λ W s w v. (s.count w ≡ length c.args.self.now.nodes) × Counts c.places.any_moved (InOrder (DeliversAt s) p) w v) (λ W s w v. Turns c.deliveries_at.result (DeliversAt s p) (HandStops s p) w v) (λ W s w v. Turns c.from_residual.result (InOrder (DeliversAt s) (s.count w)) (HandsStop s) w v)
    (λ W s laws w u v a b. turns_short (InOrder (DeliversAt s) (s.count w)) (HandsStop s) w v c.from_residual.result c.from_residual.ensures.0 (hands_stop_at s None p c.places.any_moved w u v (omega (arith, a.0, before.count, lt)) a.1 (turns_err (DeliversAt s p) (HandStops s p) u v c.deliveries_at.result _ c.in_err-deliveries_at.was b)))
    (drives_counted (meaning g.F.FlowSet.machine g.F.Spelt.reading judge) _ _ (λ W s w v. Counts c.places.any_moved (InOrder (DeliversAt s) p) w v) (before.drives judge))
    (c.deliveries_at.ensures.drives judge)

pub returns-in-Full-clause-drives : goal.returns-in-Full-clause-drives
returns-in-Full-clause-drives g c =
    let p = c.places.place in
    let before = c.places.invariant in
    let lt : p < length c.places.self.nodes = omega (arith, c.places.invariant.count, ap (λ (z : NetSeen). length z.nodes) c.self.view_is, c.self.inside.nodes.ok.0, c.len-count.ensures, c.places-test.true) in
    let full : Option Outcome = Some (outcome.Refused refusal.Full) in
    λ judge. drives_then (meaning g.F.FlowSet.machine g.F.Spelt.reading judge) _ _ _ (λ W s w v. (s.count w ≡ length c.args.self.now.nodes) × Counts c.places.any_moved (InOrder (DeliversAt s) p) w v) (λ W s w v. Turns c.deliveries_at.result (DeliversAt s p) (HandStops s p) w v) (λ W s w v. HandsStop s full w v)
    (λ W s laws w u v a b. hands_stop_at s full p c.places.any_moved w u v (omega (arith, a.0, before.count, lt)) a.1 (turns_full (DeliversAt s p) (HandStops s p) u v c.deliveries_at.result _ c.in_ok-deliveries_at.was c.in-Full.is b))
    (drives_counted (meaning g.F.FlowSet.machine g.F.Spelt.reading judge) _ _ (λ W s w v. Counts c.places.any_moved (InOrder (DeliversAt s) p) w v) (before.drives judge))
    (c.deliveries_at.ensures.drives judge)

pub places-preserved : goal.places-preserved
places-preserved g c =
    let before = c.places.invariant in
    let p = c.places.place in
    let lt : p < length c.places.self.nodes = omega (arith, c.places.invariant.count, ap (λ (z : NetSeen). length z.nodes) c.self.view_is, c.self.inside.nodes.ok.0, c.len-count.ensures, c.places-test.true) in
    let fell : c.match-branch-2.any_moved ≡ true → room c.deliveries_at.new.self < room c.args.self.now =
    elim c.match-branch-2.branch [
      | in-Quiet w ↦ λ e. omega (arith, before.fell (sym w.any_moved-is ∙ e), (c.deliveries_at.ensures.drives judge_without_contracts).left)
      | in-Moved w ↦ λ e. omega (arith, c.in_ok-deliveries_at.ensures.moved w.in-Moved.is, (before.drives judge_without_contracts).left)
    ] in
    record {
      drives =
          λ judge. drives_then (meaning g.F.FlowSet.machine g.F.Spelt.reading judge) _ _ _ (λ W s w v. Counts c.places.any_moved (InOrder (DeliversAt s) p) w v) (λ W s w v. Turns c.deliveries_at.result (DeliversAt s p) (HandStops s p) w v) (λ W s w v. Counts c.match-branch-2.any_moved (InOrder (DeliversAt s) (p + 1)) w v)
          (λ W s laws w u v a h. elim c.match-branch-2.branch [
            | in-Quiet b ↦ order_still (DeliversAt s) p w u v c.places.any_moved c.match-branch-2.any_moved b.any_moved-is a (turns_quiet (DeliversAt s p) (HandStops s p) u v c.deliveries_at.result _ c.in_ok-deliveries_at.was b.in-Quiet.is h)
            | in-Moved b ↦ order_more (DeliversAt s) p w u v c.places.any_moved c.match-branch-2.any_moved b.any_moved-is a (turns_moved (DeliversAt s p) (HandStops s p) u v c.deliveries_at.result _ c.in_ok-deliveries_at.was b.in-Moved.is h)
          ])
          (before.drives judge) (c.deliveries_at.ensures.drives judge);
      within = omega (arith, lt, before.count);
      fell = fell;
      count = (c.deliveries_at.ensures.drives judge_without_contracts).count ∙ before.count;
    }

pub returns-clause-drives : goal.returns-clause-drives
returns-clause-drives g c =
    let p = c.places.place in
    let all : length c.args.self.now.nodes ≡ p = omega (arith, ap (λ (z : NetSeen). length z.nodes) c.self.view_is, c.self.inside.nodes.ok.0, c.len-count.ensures, c.places-test.false, c.places.invariant.within) in
    λ judge. drives_map (meaning g.F.FlowSet.machine g.F.Spelt.reading judge) _ _ (λ W s w v. (s.count w ≡ length c.args.self.now.nodes) × Counts c.places.any_moved (InOrder (DeliversAt s) p) w v) (λ W s w v. Turns {E = the_row.Denot} (Ok c.turning_of.result) (InOrder (DeliversAt s) (s.count w)) (HandsStop s) w v)
    (λ W s laws w v a. turns_made the_row.Denot (InOrder (DeliversAt s) (s.count w)) (HandsStop s) w v c.places.any_moved c.turning_of.result c.turning_of.ensures.more c.turning_of.ensures.moved c.turning_of.ensures.quiet (order_of (DeliversAt s) p (s.count w) c.places.any_moved w v (a.0 ∙ all) a.1))
    (drives_counted (meaning g.F.FlowSet.machine g.F.Spelt.reading judge) _ _ (λ W s w v. Counts c.places.any_moved (InOrder (DeliversAt s) p) w v) (c.places.invariant.drives judge))
