use Rattle.net_model.specs.Environment.{judge_without_contracts, meaning, unjudged}
use Rattle.std.proofs.Common.{◌≡◌, ◌+◌, ◌<◌, None, Some, Ok, false, true, refl, arith, ap, sym, ◌∙◌, length, slice_get, Option}
use Rattle.std.specs.contracts.alloc.AllocError.{the_row}
use Rattle.network_core.specs.declared.refusal.Refusal.TheVariants as refusal
use Rattle.network_core.specs.declared.steps.Outcome.{Outcome}
use Rattle.network_core.specs.declared.steps.Outcome.TheVariants as outcome
use Rattle.network_core.specs.Answers.{said}
use Rattle.network_core.specs.Drains.{room, takes}
use Rattle.network_core.specs.Rounds.{DeliversAt, Hands, HandStops, Turns}
use Rattle.network_core.proofs.Draining.{Counts, hand_stops, hands_over, hands_noted, hands_took, heard_full, heard_noted, heard_over, heard_took, turns_made, turns_short}
use Rattle.network_core.proofs.Driving.{drives_map, drives_none, drives_then}
use Rattle.network_core.proofs.Turning.{all_delivered, drives_hand, hand_falls}
use Rattle.network_core.proofs.Judging.{hand_serves_any}
use Rattle.std.specs.Option.{option_map}
use Rattle.std.proofs.lemmas.Option.{slice_get_read, slice_get-map}
use Rattle.waiting_frames.specs.Waiting.{WaitingSeen}
use Rattle.network_core.specs.Worlds.{NetSeen}
use Rattle.network_core.proofs.net.Net.deliveries_at.Goals.{in-Noted, in-Took}
use Rattle.network_core.proofs.net.Net.deliveries_at.Goals as goal

pub frames-init : goal.frames-init
frames-init g c = record {
  drives = λ judge. drives_none (meaning g.F.FlowSet.machine g.F.Spelt.reading judge) _ _ (λ W s w v. Hands s c.args.place 0 0 w v) refl (λ W s w. (refl, refl));
  fell = λ e. cc;
  count = refl;
  within = omega arith;
}

pub returns-in_err-outcome-clause-drives : goal.returns-in_err-outcome-clause-drives
returns-in_err-outcome-clause-drives g c =
    let p = c.args.place in
    λ judge. drives_then (meaning g.F.FlowSet.machine g.F.Spelt.reading judge) _ _ _ (λ W s w v. Counts c.frames.moved (Hands s p c.frames.counter) w v) (λ W s w v. (p < s.count w) × s.hand p w None v) (λ W s w v. Turns c.from_residual.result (DeliversAt s p) (HandStops s p) w v)
    (λ W s laws w u v a b. turns_short (DeliversAt s p) (HandStops s p) w v c.from_residual.result c.from_residual.ensures.0 (hand_stops s p c.frames.counter c.frames.moved None w u v a b.1))
    (c.frames.invariant.drives judge)
    (drives_hand (meaning g.F.FlowSet.machine g.F.Spelt.reading judge) p c.frames.self c.hand.new.self c.hand.result None (omega (arith, c.requires, c.frames.invariant.count)) (hand_serves_any g.F.FlowSet.machine g.F.Spelt.reading judge false p 0 c.frames.self c.hand.new.self c.hand.result c.hand.ensures) (ap said c.in_err-outcome.was))

pub returns-in-Full-clause-drives : goal.returns-in-Full-clause-drives
returns-in-Full-clause-drives g c =
    let p = c.args.place in
    let full : Option Outcome = Some (outcome.Refused refusal.Full) in
    λ judge. drives_then (meaning g.F.FlowSet.machine g.F.Spelt.reading judge) _ _ _ (λ W s w v. Counts c.frames.moved (Hands s p c.frames.counter) w v) (λ W s w v. (p < s.count w) × s.hand p w full v) (λ W s w v. HandStops s p full w v)
    (λ W s laws w u v a b. hand_stops s p c.frames.counter c.frames.moved full w u v a b.1)
    (c.frames.invariant.drives judge)
    (drives_hand (meaning g.F.FlowSet.machine g.F.Spelt.reading judge) p c.frames.self c.hand.new.self c.hand.result full (omega (arith, c.requires, c.frames.invariant.count)) (hand_serves_any g.F.FlowSet.machine g.F.Spelt.reading judge false p 0 c.frames.self c.hand.new.self c.hand.result c.hand.ensures) (ap said c.in_ok-outcome.was ∙ ap Some (heard_full c.in_ok-outcome.outcome (sym c.heard.ensures ∙ c.in-Full.is))))

pub returns-in-Over-clause-drives : goal.returns-in-Over-clause-drives
returns-in-Over-clause-drives g c =
    let p = c.args.place in
    let o = c.in_ok-outcome.outcome in
    let over = heard_over o (sym c.heard.ensures ∙ c.in-Over.is) in
    λ judge. drives_then (meaning g.F.FlowSet.machine g.F.Spelt.reading judge) _ _ _ (λ W s w v. Counts c.frames.moved (Hands s p c.frames.counter) w v) (λ W s w v. (p < s.count w) × s.hand p w (Some o) v) (λ W s w v. Turns {E = the_row.Denot} (Ok c.turning_of.result) (DeliversAt s p) (HandStops s p) w v)
    (λ W s laws w u v a b. turns_made the_row.Denot (DeliversAt s p) (HandStops s p) w v c.frames.moved c.turning_of.result c.turning_of.ensures.more c.turning_of.ensures.moved c.turning_of.ensures.quiet (hands_over s laws p c.frames.counter over.0 c.frames.moved w u v o b.0 over.1 over.2 a b.1))
    (c.frames.invariant.drives judge)
    (drives_hand (meaning g.F.FlowSet.machine g.F.Spelt.reading judge) p c.frames.self c.hand.new.self c.hand.result (Some o) (omega (arith, c.requires, c.frames.invariant.count)) (hand_serves_any g.F.FlowSet.machine g.F.Spelt.reading judge false p 0 c.frames.self c.hand.new.self c.hand.result c.hand.ensures) (ap said c.in_ok-outcome.was))

pub returns-in-Over-clause-moved : goal.returns-in-Over-clause-moved
returns-in-Over-clause-moved g c is =
    let before = c.frames.invariant.fell (c.turning_of.ensures.moved is) in
    let one = drives_hand (unjudged g.F.FlowSet.machine g.F.Spelt.reading) c.args.place c.frames.self c.hand.new.self c.hand.result (Some c.in_ok-outcome.outcome) (omega (arith, c.requires, c.frames.invariant.count)) c.hand.ensures (ap said c.in_ok-outcome.was) in
    omega (arith, before, one.left)

pub frames-preserved : goal.frames-preserved
frames-preserved g c =
    let p = c.args.place in
    let o = c.in_ok-outcome.outcome in
    let d = c.frames.counter in
    let before = c.frames.invariant in
    let one = drives_hand (unjudged g.F.FlowSet.machine g.F.Spelt.reading) p c.frames.self c.hand.new.self c.hand.result (Some o) (omega (arith, c.requires, before.count)) c.hand.ensures (ap said c.in_ok-outcome.was) in
    let fell : c.match-heard.moved ≡ true → room c.hand.new.self < room c.args.self.now =
    elim c.match-heard.branch [
      | in-Noted w ↦ λ e. omega (arith, before.fell (sym w.moved-is ∙ e), one.left)
      | in-Took w ↦ λ e.
          let took = heard_took o (sym c.heard.ensures ∙ w.in-Took.is) in
          omega (arith, hand_falls (unjudged g.F.FlowSet.machine g.F.Spelt.reading) p c.frames.self c.hand.new.self c.hand.result o c.hand.ensures c.in_ok-outcome.was (ap (λ (z : Outcome). takes (Some z)) took.1), (before.drives judge_without_contracts).left)
    ] in
    record {
      drives =
          λ judge. drives_then (meaning g.F.FlowSet.machine g.F.Spelt.reading judge) _ _ _ (λ W s w v. Counts c.frames.moved (Hands s p d) w v) (λ W s w v. (p < s.count w) × s.hand p w (Some o) v) (λ W s w v. Counts c.match-heard.moved (Hands s p (d + 1)) w v)
          (λ W s laws w u v a b. elim c.match-heard.branch [
            | in-Noted z ↦
                let noted = heard_noted o (sym c.heard.ensures ∙ z.in-Noted.is) in
                rw z.moved-is (hands_noted s p d c.frames.moved w u v o noted.0 noted.1 a b.1)
            | in-Took z ↦
                let took = heard_took o (sym c.heard.ensures ∙ z.in-Took.is) in
                rw z.moved-is (hands_took s p d took.0 c.frames.moved w u v o took.1 a b.1)
          ])
          (before.drives judge)
          (drives_hand (meaning g.F.FlowSet.machine g.F.Spelt.reading judge) p c.frames.self c.hand.new.self c.hand.result (Some o) (omega (arith, c.requires, before.count)) (hand_serves_any g.F.FlowSet.machine g.F.Spelt.reading judge false p 0 c.frames.self c.hand.new.self c.hand.result c.hand.ensures) (ap said c.in_ok-outcome.was));
      fell = fell;
      count = one.count ∙ before.count;
      within = omega arith;
    }

-- each frame that waited was delivered
pub returns-clause-drives : goal.returns-clause-drives
returns-clause-drives g c =
    let items = c.self.inside.waiting.items in
    let p = c.args.place in
    let inside : p < length items = omega (arith, c.requires, ap (λ (z : NetSeen). length z.nodes) c.self.view_is, c.self.invariant.4) in
    let at = slice_get_read items (length items) p c.index.result.now refl inside c.index.ensures in
    let frames = c.index.result.now.frames in
    let there : slice_get c.args.self.now.waiting p ≡ Some frames = ap (λ (z : NetSeen). slice_get z.waiting p) (sym c.self.view_is) ∙ slice_get-map (λ (w : WaitingSeen). w.frames) items p ∙ ap (λ o. option_map (λ (w : WaitingSeen). w.frames) o) at in
    let count : length frames ≡ c.frames.counter = omega (arith, c.len-count.ensures, c.frames-test.false, c.frames.invariant.within) in
    λ judge. drives_map (meaning g.F.FlowSet.machine g.F.Spelt.reading judge) _ _ (λ W s w v. Counts c.frames.moved (DeliversAt s p) w v) (λ W s w v. Turns {E = the_row.Denot} (Ok c.turning_of-2.result) (DeliversAt s p) (HandStops s p) w v)
    (λ W s laws w v h. turns_made the_row.Denot (DeliversAt s p) (HandStops s p) w v c.frames.moved c.turning_of-2.result c.turning_of-2.ensures.more c.turning_of-2.ensures.moved c.turning_of-2.ensures.quiet h)
    (all_delivered (meaning g.F.FlowSet.machine g.F.Spelt.reading judge) c.args.self.now c.frames.self p c.frames.counter c.frames.moved frames there count (c.frames.invariant.drives judge))
