use Rattle.net_model.specs.Environment.{meaning}
use Rattle.std.proofs.Common.{◌≡◌, ◌+◌, ◌<◌, Some, None, true, refl, arith, ap, sym, ◌∙◌, length, Ok, Option}
use Rattle.network_core.specs.Worlds.{NetSeen}
use Rattle.network_core.specs.declared.refusal.Refusal.TheVariants as refusal
use Rattle.network_core.specs.declared.steps.Outcome.{Outcome}
use Rattle.network_core.specs.declared.steps.Outcome.TheVariants as outcome
use Rattle.network_core.specs.Drains.{room}
use Rattle.network_core.specs.Rounds.{TurnsAt, StopsAt, TurnsStop, InOrder, Turns}
use Rattle.network_core.proofs.Draining.{Counts, order_still, order_more, order_of, turns_stop_at, turns_made, turns_short, turns_err, turns_full, turns_moved, turns_quiet}
use Rattle.network_core.proofs.Driving.{drives_none, drives_map, drives_then, drives_counted}
use Rattle.network_core.proofs.net.Net.turns.Goals.{in-Quiet, in-Moved}
use Rattle.std.specs.contracts.alloc.AllocError.{the_row}
use Rattle.network_core.proofs.net.Net.turns.Goals as goal

pub places-init : goal.places-init
places-init g c = record {
  drives = drives_none (meaning g.F.FlowSet.machine g.F.Spelt.reading (g.J.Judge.judges c.args.contracts.now)) _ _ (λ W s w v. InOrder (TurnsAt s) 0 0 w v) refl (λ W s w. (refl, refl));
  fell = λ e. cc;
  count = refl;
  within = omega arith;
}

-- the place is one of the network
pub turns_at-requires : goal.turns_at-requires
turns_at-requires g c = omega (arith, c.places.invariant.count, ap (λ (z : NetSeen). length z.nodes) c.self.view_is, c.self.inside.nodes.ok.0, c.len-count.ensures, c.places-test.true)

pub returns-in_err-turns_at-clause-drives : goal.returns-in_err-turns_at-clause-drives
returns-in_err-turns_at-clause-drives g c =
    let p = c.places.place in
    let before = c.places.invariant in
    let lt : p < length c.places.self.nodes = omega (arith, c.places.invariant.count, ap (λ (z : NetSeen). length z.nodes) c.self.view_is, c.self.inside.nodes.ok.0, c.len-count.ensures, c.places-test.true) in
    drives_then (meaning g.F.FlowSet.machine g.F.Spelt.reading (g.J.Judge.judges c.args.contracts.now)) _ _ _ (λ W s w v. (s.count w ≡ length c.args.self.now.nodes) × Counts c.places.any_moved (InOrder (TurnsAt s) p) w v) (λ W s w v. Turns c.turns_at.result (TurnsAt s p) (StopsAt s p) w v) (λ W s w v. Turns c.from_residual.result (InOrder (TurnsAt s) (s.count w)) (TurnsStop s) w v)
    (λ W s laws w u v a b. turns_short (InOrder (TurnsAt s) (s.count w)) (TurnsStop s) w v c.from_residual.result c.from_residual.ensures.0 (turns_stop_at s None p c.places.any_moved w u v (omega (arith, a.0, before.count, lt)) a.1 (turns_err (TurnsAt s p) (StopsAt s p) u v c.turns_at.result _ c.in_err-turns_at.was b)))
    (drives_counted (meaning g.F.FlowSet.machine g.F.Spelt.reading (g.J.Judge.judges c.args.contracts.now)) _ _ (λ W s w v. Counts c.places.any_moved (InOrder (TurnsAt s) p) w v) before.drives)
    c.turns_at.ensures.drives

pub returns-in-Full-clause-drives : goal.returns-in-Full-clause-drives
returns-in-Full-clause-drives g c =
    let p = c.places.place in
    let before = c.places.invariant in
    let lt : p < length c.places.self.nodes = omega (arith, c.places.invariant.count, ap (λ (z : NetSeen). length z.nodes) c.self.view_is, c.self.inside.nodes.ok.0, c.len-count.ensures, c.places-test.true) in
    let full : Option Outcome = Some (outcome.Refused refusal.Full) in
    drives_then (meaning g.F.FlowSet.machine g.F.Spelt.reading (g.J.Judge.judges c.args.contracts.now)) _ _ _ (λ W s w v. (s.count w ≡ length c.args.self.now.nodes) × Counts c.places.any_moved (InOrder (TurnsAt s) p) w v) (λ W s w v. Turns c.turns_at.result (TurnsAt s p) (StopsAt s p) w v) (λ W s w v. TurnsStop s full w v)
    (λ W s laws w u v a b. turns_stop_at s full p c.places.any_moved w u v (omega (arith, a.0, before.count, lt)) a.1 (turns_full (TurnsAt s p) (StopsAt s p) u v c.turns_at.result _ c.in_ok-turns_at.was c.in-Full.is b))
    (drives_counted (meaning g.F.FlowSet.machine g.F.Spelt.reading (g.J.Judge.judges c.args.contracts.now)) _ _ (λ W s w v. Counts c.places.any_moved (InOrder (TurnsAt s) p) w v) before.drives)
    c.turns_at.ensures.drives

pub places-preserved : goal.places-preserved
places-preserved g c =
    let before = c.places.invariant in
    let p = c.places.place in
    let lt : p < length c.places.self.nodes = omega (arith, c.places.invariant.count, ap (λ (z : NetSeen). length z.nodes) c.self.view_is, c.self.inside.nodes.ok.0, c.len-count.ensures, c.places-test.true) in
    let fell : c.match-branch-2.any_moved ≡ true → room c.turns_at.new.self < room c.args.self.now =
    elim c.match-branch-2.branch [
      | in-Quiet w ↦ λ e. omega (arith, before.fell (sym w.any_moved-is ∙ e), c.turns_at.ensures.drives.left)
      | in-Moved w ↦ λ e. omega (arith, c.in_ok-turns_at.ensures.moved w.in-Moved.is, before.drives.left)
    ] in
    record {
      drives =
          drives_then (meaning g.F.FlowSet.machine g.F.Spelt.reading (g.J.Judge.judges c.args.contracts.now)) _ _ _ (λ W s w v. Counts c.places.any_moved (InOrder (TurnsAt s) p) w v) (λ W s w v. Turns c.turns_at.result (TurnsAt s p) (StopsAt s p) w v) (λ W s w v. Counts c.match-branch-2.any_moved (InOrder (TurnsAt s) (p + 1)) w v)
          (λ W s laws w u v a h. elim c.match-branch-2.branch [
            | in-Quiet b ↦ order_still (TurnsAt s) p w u v c.places.any_moved c.match-branch-2.any_moved b.any_moved-is a (turns_quiet (TurnsAt s p) (StopsAt s p) u v c.turns_at.result _ c.in_ok-turns_at.was b.in-Quiet.is h)
            | in-Moved b ↦ order_more (TurnsAt s) p w u v c.places.any_moved c.match-branch-2.any_moved b.any_moved-is a (turns_moved (TurnsAt s p) (StopsAt s p) u v c.turns_at.result _ c.in_ok-turns_at.was b.in-Moved.is h)
          ])
          before.drives c.turns_at.ensures.drives;
      within = omega (arith, lt, before.count);
      fell = fell;
      count = c.turns_at.ensures.drives.count ∙ before.count;
    }

pub returns-clause-drives : goal.returns-clause-drives
returns-clause-drives g c =
    let p = c.places.place in
    let all : length c.args.self.now.nodes ≡ p = omega (arith, ap (λ (z : NetSeen). length z.nodes) c.self.view_is, c.self.inside.nodes.ok.0, c.len-count.ensures, c.places-test.false, c.places.invariant.within) in
    drives_map (meaning g.F.FlowSet.machine g.F.Spelt.reading (g.J.Judge.judges c.args.contracts.now)) _ _ (λ W s w v. (s.count w ≡ length c.args.self.now.nodes) × Counts c.places.any_moved (InOrder (TurnsAt s) p) w v) (λ W s w v. Turns {E = the_row.Denot} (Ok c.turning_of.result) (InOrder (TurnsAt s) (s.count w)) (TurnsStop s) w v)
    (λ W s laws w v a. turns_made the_row.Denot (InOrder (TurnsAt s) (s.count w)) (TurnsStop s) w v c.places.any_moved c.turning_of.result c.turning_of.ensures.more c.turning_of.ensures.moved c.turning_of.ensures.quiet (order_of (TurnsAt s) p (s.count w) c.places.any_moved w v (a.0 ∙ all) a.1))
    (drives_counted (meaning g.F.FlowSet.machine g.F.Spelt.reading (g.J.Judge.judges c.args.contracts.now)) _ _ (λ W s w v. Counts c.places.any_moved (InOrder (TurnsAt s) p) w v) c.places.invariant.drives)
