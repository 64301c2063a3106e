use Rattle.net_model.specs.Environment.{meaning}
use Rattle.std.proofs.Common.{◌<◌, None, Some, Ok, true, refl, arith, ap, sym, ◌∙◌, Option}
use Rattle.network_core.specs.declared.refusal.Refusal.TheVariants as refusal
use Rattle.network_core.specs.declared.steps.Outcome.{Outcome}
use Rattle.network_core.specs.declared.steps.Outcome.TheVariants as outcome
use Rattle.network_core.specs.Answers.{said}
use Rattle.network_core.specs.Rounds.{Moves, TurnsAt, StopsAt, Turns}
use Rattle.network_core.proofs.Draining.{Counts, moves_more, stops_at, ends_at, turns_made, turns_short, not_full, not_moved, was_full, was_moved, quiet_is_no_full}
use Rattle.network_core.proofs.Driving.{drives_none, drives_then}
use Rattle.network_core.proofs.Turning.{drives_turn, narrows, narrows_moved, count_turn}
use Rattle.std.specs.contracts.alloc.AllocError.{the_row}
use Rattle.network_core.proofs.net.Net.turns_at.Goals as goal

pub turns-init : goal.turns-init
turns-init g c = record {
  drives = drives_none (meaning g.F.FlowSet.machine g.F.Spelt.reading (g.J.Judge.judges c.args.contracts.now)) _ _ (λ W s w v. Moves s c.args.place 0 w v) refl (λ W s w. refl);
  fell = λ e. cc;
  count = refl;
}

pub returns-in_err-outcome-clause-drives : goal.returns-in_err-outcome-clause-drives
returns-in_err-outcome-clause-drives g c =
    let p = c.args.place in
    drives_then (meaning g.F.FlowSet.machine g.F.Spelt.reading (g.J.Judge.judges c.args.contracts.now)) _ _ _ (λ W s w v. Counts c.turns.moved (Moves s p) w v) (λ W s w v. (p < s.count w) × s.turn p w None v) (λ W s w v. Turns c.from_residual.result (TurnsAt s p) (StopsAt s p) w v)
    (λ W s laws w u v a b. turns_short (TurnsAt s p) (StopsAt s p) w v c.from_residual.result c.from_residual.ensures.0 (stops_at s p c.turns.moved None w u v a b.1))
    c.turns.invariant.drives
    (drives_turn (meaning g.F.FlowSet.machine g.F.Spelt.reading (g.J.Judge.judges c.args.contracts.now)) p c.turns.self c.turn.new.self c.turn.result None (omega (arith, c.requires, c.turns.invariant.count)) c.turn.ensures.clock c.turn.ensures.serves (ap said c.in_err-outcome.was))

pub turns-smaller : goal.turns-smaller
turns-smaller g c =
    let moved = was_moved c.in_ok-outcome.outcome (sym c.turned.ensures ∙ c.in-Moved.is) in
    narrows_moved (meaning g.F.FlowSet.machine g.F.Spelt.reading (g.J.Judge.judges c.args.contracts.now)) c.turns.self.now c.args.place None c.turns.self c.turn.new.self c.turn.result _ _ c.turn.ensures.serves c.in_ok-outcome.was moved.1

pub turns-preserved : goal.turns-preserved
turns-preserved g c =
    let p = c.args.place in
    let o = c.in_ok-outcome.outcome in
    let moved = was_moved o (sym c.turned.ensures ∙ c.in-Moved.is) in
    let less = narrows_moved (meaning g.F.FlowSet.machine g.F.Spelt.reading (g.J.Judge.judges c.args.contracts.now)) c.turns.self.now p None c.turns.self c.turn.new.self c.turn.result _ _ c.turn.ensures.serves c.in_ok-outcome.was moved.1 in
    record {
      drives =
          drives_then (meaning g.F.FlowSet.machine g.F.Spelt.reading (g.J.Judge.judges c.args.contracts.now)) _ _ _ (λ W s w v. Counts c.turns.moved (Moves s p) w v) (λ W s w v. (p < s.count w) × s.turn p w (Some o) v) (λ W s w v. Counts true (Moves s p) w v)
          (λ W s laws w u v a b. moves_more s p c.turns.moved w u v o moved.0 a b.1 moved.1)
          c.turns.invariant.drives
          (drives_turn (meaning g.F.FlowSet.machine g.F.Spelt.reading (g.J.Judge.judges c.args.contracts.now)) p c.turns.self c.turn.new.self c.turn.result (Some o) (omega (arith, c.requires, c.turns.invariant.count)) c.turn.ensures.clock c.turn.ensures.serves (ap said c.in_ok-outcome.was));
      fell = λ e. omega (arith, c.turns.invariant.drives.left, less);
      count = count_turn (meaning g.F.FlowSet.machine g.F.Spelt.reading (g.J.Judge.judges c.args.contracts.now)) c.turns.self.now None p c.turns.self c.turn.new.self c.turn.result c.turn.ensures.serves ∙ c.turns.invariant.count;
    }

pub returns-in-Full-clause-drives : goal.returns-in-Full-clause-drives
returns-in-Full-clause-drives g c =
    let p = c.args.place in
    let full : Option Outcome = Some (outcome.Refused refusal.Full) in
    drives_then (meaning g.F.FlowSet.machine g.F.Spelt.reading (g.J.Judge.judges c.args.contracts.now)) _ _ _ (λ W s w v. Counts c.turns.moved (Moves s p) w v) (λ W s w v. (p < s.count w) × s.turn p w full v) (λ W s w v. StopsAt s p full w v)
    (λ W s laws w u v a b. stops_at s p c.turns.moved full w u v a b.1)
    c.turns.invariant.drives
    (drives_turn (meaning g.F.FlowSet.machine g.F.Spelt.reading (g.J.Judge.judges c.args.contracts.now)) p c.turns.self c.turn.new.self c.turn.result full (omega (arith, c.requires, c.turns.invariant.count)) c.turn.ensures.clock c.turn.ensures.serves (ap said c.in_ok-outcome.was ∙ ap Some (was_full c.in_ok-outcome.outcome (sym c.turned.ensures ∙ c.in-Full.is))))

pub returns-in-Quiet-clause-drives : goal.returns-in-Quiet-clause-drives
returns-in-Quiet-clause-drives g c =
    let p = c.args.place in
    let o = c.in_ok-outcome.outcome in
    let unmoved = not_moved o (sym c.turned.ensures ∙ c.in-Quiet.is) in
    let unfull = not_full o _ c.turned.ensures (quiet_is_no_full _ c.in-Quiet.is) in
    drives_then (meaning g.F.FlowSet.machine g.F.Spelt.reading (g.J.Judge.judges c.args.contracts.now)) _ _ _ (λ W s w v. Counts c.turns.moved (Moves s p) w v) (λ W s w v. (p < s.count w) × s.turn p w (Some o) v) (λ W s w v. Turns {E = the_row.Denot} (Ok c.turning_of.result) (TurnsAt s p) (StopsAt s p) w v)
    (λ W s laws w u v a b. turns_made the_row.Denot (TurnsAt s p) (StopsAt s p) w v c.turns.moved c.turning_of.result c.turning_of.ensures.more c.turning_of.ensures.moved c.turning_of.ensures.quiet (ends_at s laws p c.turns.moved o w u v b.0 unmoved unfull a b.1))
    c.turns.invariant.drives
    (drives_turn (meaning g.F.FlowSet.machine g.F.Spelt.reading (g.J.Judge.judges c.args.contracts.now)) p c.turns.self c.turn.new.self c.turn.result (Some o) (omega (arith, c.requires, c.turns.invariant.count)) c.turn.ensures.clock c.turn.ensures.serves (ap said c.in_ok-outcome.was))

pub returns-in-Quiet-clause-moved : goal.returns-in-Quiet-clause-moved
returns-in-Quiet-clause-moved g c is =
    let before = c.turns.invariant.fell (c.turning_of.ensures.moved is) in
    let less = narrows (meaning g.F.FlowSet.machine g.F.Spelt.reading (g.J.Judge.judges c.args.contracts.now)) c.turns.self.now c.args.place None c.turns.self c.turn.new.self c.turn.result c.turn.ensures.serves in
    omega (arith, before, less)
