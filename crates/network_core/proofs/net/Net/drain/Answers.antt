use Rattle.net_model.specs.Environment.{meaning}
use Rattle.std.proofs.Common.{true, Some, None, Option, refl, sym, subst}
use Rattle.network_core.specs.declared.refusal.Refusal.TheVariants as refusal
use Rattle.network_core.specs.declared.steps.Outcome.{Outcome}
use Rattle.network_core.specs.declared.steps.Outcome.TheVariants as outcome
use Rattle.network_core.specs.Drains.{Drains}
use Rattle.network_core.specs.Rounds.{Round, RoundStops, DrainStops, Turns}
use Rattle.network_core.proofs.Draining.{SomeRounds, rounds_more, drain_stops, turns_err, turns_full, turns_moved, turns_quiet}
use Rattle.network_core.proofs.Driving.{drives_none, drives_map, drives_then, drains_quiet, drains_stopped}
use Rattle.network_core.proofs.Turning.{drain_short}
use Rattle.network_core.proofs.net.Net.drain.Goals as goal

pub rounds-init : goal.rounds-init
rounds-init g c = drives_none (meaning g.F.FlowSet.machine g.F.Spelt.reading (g.J.Judge.judges c.args.contracts.now)) _ _ (λ W s w v. SomeRounds s w v) refl (λ W s w. (0, refl))

pub returns-in_err-round : goal.returns-in_err-round
returns-in_err-round g c =
    subst (λ (o : Option Outcome). Drains (meaning g.F.FlowSet.machine g.F.Spelt.reading (g.J.Judge.judges c.args.contracts.now)) c.args.self.now o c.round.new.self) (sym (drain_short c.from_residual.result c.from_residual.ensures.0))
    (drains_stopped (meaning g.F.FlowSet.machine g.F.Spelt.reading (g.J.Judge.judges c.args.contracts.now)) _ _ None (λ is. cc)
    (drives_then (meaning g.F.FlowSet.machine g.F.Spelt.reading (g.J.Judge.judges c.args.contracts.now)) _ _ _ (λ W s w v. SomeRounds s w v) (λ W s w v. Turns c.round.result (Round s) (RoundStops s) w v) (λ W s w v. DrainStops s None w v)
    (λ W s laws w u v a b. drain_stops s None w u v a (turns_err (Round s) (RoundStops s) u v c.round.result _ c.in_err-round.was b))
    c.rounds.invariant c.round.ensures.drives))

pub returns-in-Full : goal.returns-in-Full
returns-in-Full g c =
    let full : Option Outcome = Some (outcome.Refused refusal.Full) in
    drains_stopped (meaning g.F.FlowSet.machine g.F.Spelt.reading (g.J.Judge.judges c.args.contracts.now)) _ _ (Some (outcome.Drained true)) (λ is. cc)
    (drives_then (meaning g.F.FlowSet.machine g.F.Spelt.reading (g.J.Judge.judges c.args.contracts.now)) _ _ _ (λ W s w v. SomeRounds s w v) (λ W s w v. Turns c.round.result (Round s) (RoundStops s) w v) (λ W s w v. DrainStops s full w v)
    (λ W s laws w u v a b. drain_stops s full w u v a (turns_full (Round s) (RoundStops s) u v c.round.result _ c.in_ok-round.was c.in-Full.is b))
    c.rounds.invariant c.round.ensures.drives)

pub returns-in-Quiet : goal.returns-in-Quiet
returns-in-Quiet g c =
    drains_quiet (meaning g.F.FlowSet.machine g.F.Spelt.reading (g.J.Judge.judges c.args.contracts.now)) _ _ _ c.rounds.invariant
    (drives_map (meaning g.F.FlowSet.machine g.F.Spelt.reading (g.J.Judge.judges c.args.contracts.now)) _ _ (λ W s w v. Turns c.round.result (Round s) (RoundStops s) w v) (λ W s w v. Round s 0 w v)
    (λ W s laws w v h. turns_quiet (Round s) (RoundStops s) w v c.round.result _ c.in_ok-round.was c.in-Quiet.is h)
    c.round.ensures.drives)

pub rounds-preserved : goal.rounds-preserved
rounds-preserved g c =
    drives_then (meaning g.F.FlowSet.machine g.F.Spelt.reading (g.J.Judge.judges c.args.contracts.now)) _ _ _ (λ W s w v. SomeRounds s w v) (λ W s w v. Turns c.round.result (Round s) (RoundStops s) w v) (λ W s w v. SomeRounds s w v)
    (λ W s laws w u v a b. rounds_more s w u v a (turns_moved (Round s) (RoundStops s) u v c.round.result _ c.in_ok-round.was c.in-Moved.is b))
    c.rounds.invariant c.round.ensures.drives
