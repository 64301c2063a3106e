use Rattle.net_model.specs.Environment.{meaning, unjudged}
use Rattle.std.specs.contracts.alloc.AllocError.{the_row}
use Rattle.network_core.specs.declared.steps.Step.TheVariants as step
use Rattle.std.proofs.Common.{inl, inr, Ok, refl, sym, ◌∙◌, ap, arith, true, false, Some, None}
use Rattle.network_core.specs.declared.refusal.Refusal.TheVariants as refusal
use Rattle.network_core.specs.declared.steps.Outcome.TheVariants as outcome
use Rattle.network_core.specs.Rounds.{drain_outcome}
use Rattle.network_core.proofs.Places.{start_world, turn_world, cut_within, clock_world, lose_world}
use Rattle.network_core.proofs.Booting.{boot_world}
use Rattle.network_core.proofs.Delivering.{post_world, hand_world}
use Rattle.network_core.proofs.Driving.{same_count}
use Rattle.network_core.proofs.Turning.{drained_as}
use Rattle.network_core.proofs.Judging.{start_serves_any, hand_serves_any}
use Rattle.network_core.proofs.Pairing.{pair_step, pair_drain}
use Rattle.network_core.specs.Answers.{StartServes, TurnServes, CutServes, BootServes}
use Rattle.network_core.proofs.net.Net.apply.Goals as goal

pub returns-in-Clock-clause-serves : goal.returns-in-Clock-clause-serves
returns-in-Clock-clause-serves g c = rw c.in-Clock.is (clock_world (meaning g.F.FlowSet.machine g.F.Spelt.reading (g.J.Judge.judges c.args.contracts.now)) c.args.self.now c.clock.new.self c.in-Clock.to.0 c.clock.result c.clock.ensures)

pub returns-in-Start-clause-serves : goal.returns-in-Start-clause-serves
returns-in-Start-clause-serves g c = rw c.in-Start.is (start_world (meaning g.F.FlowSet.machine g.F.Spelt.reading (g.J.Judge.judges c.args.contracts.now)) c.in-Start.node c.args.self.now c.start.new.self c.start.result c.in-Start.class c.in-Start.args c.start.ensures.clock (start_serves_any g.F.FlowSet.machine g.F.Spelt.reading (g.J.Judge.judges c.args.contracts.now) c.in-Start.node c.args.self.now.now c.in-Start.class c.in-Start.args c.args.self.now c.start.new.self c.start.result c.start.ensures.serves))

pub returns-in-Turn-clause-serves : goal.returns-in-Turn-clause-serves
returns-in-Turn-clause-serves g c = rw c.in-Turn.is (turn_world (meaning g.F.FlowSet.machine g.F.Spelt.reading (g.J.Judge.judges c.args.contracts.now)) c.in-Turn.node c.args.self.now c.turn.new.self c.turn.result c.in-Turn.pick c.turn.ensures.clock c.turn.ensures.serves)

pub returns-else-outcome-gt3-clause-serves : goal.returns-else-outcome-gt3-clause-serves
returns-else-outcome-gt3-clause-serves g c =
    rw c.in-Cut.is (cut_within (meaning g.F.FlowSet.machine g.F.Spelt.reading (g.J.Judge.judges c.args.contracts.now)) c.in-Cut.node c.args.self.now c.cut.new.self c.cut.result c.in-Cut.calls c.in-Cut.outcome (omega (arith, c.if-outcome-gt3.false)) c.cut.ensures.clock c.cut.ensures.serves)

pub returns-in-Boot-clause-serves : goal.returns-in-Boot-clause-serves
returns-in-Boot-clause-serves g c = rw c.in-Boot.is (boot_world (meaning g.F.FlowSet.machine g.F.Spelt.reading (g.J.Judge.judges c.args.contracts.now)) c.in-Boot.node c.args.self.now c.boot.new.self c.boot.result c.boot.ensures.clock c.boot.ensures.serves)

pub returns-in-Ok-clause-serves : goal.returns-in-Ok-clause-serves
returns-in-Ok-clause-serves g c = rw c.in-Drain.is (drained_as (meaning g.F.FlowSet.machine g.F.Spelt.reading (g.J.Judge.judges c.args.contracts.now)) c.args.self.now c.drain.new.self c.drain.result (Some (outcome.Drained c.in-Ok.full)) (ap drain_outcome c.in-Ok.is) c.drain.ensures).world

pub returns-in-Err-clause-serves : goal.returns-in-Err-clause-serves
returns-in-Err-clause-serves g c = rw c.in-Drain.is (drained_as (meaning g.F.FlowSet.machine g.F.Spelt.reading (g.J.Judge.judges c.args.contracts.now)) c.args.self.now c.drain.new.self c.drain.result None (ap drain_outcome c.in-Err.is) c.drain.ensures).world

pub returns-in-Start-clause-count : goal.returns-in-Start-clause-count
returns-in-Start-clause-count g c = same_count c.in-Start.node c.args.self.now c.start.new.self c.start.result (λ n r k. StartServes (unjudged g.F.FlowSet.machine g.F.Spelt.reading) c.args.self.now.now c.in-Start.class c.in-Start.args n r k) c.start.ensures.serves

pub returns-in-Turn-clause-count : goal.returns-in-Turn-clause-count
returns-in-Turn-clause-count g c = same_count c.in-Turn.node c.args.self.now c.turn.new.self c.turn.result (λ n r k. TurnServes (meaning g.F.FlowSet.machine g.F.Spelt.reading (g.J.Judge.judges c.args.contracts.now)) c.args.self.now.now c.in-Turn.pick n r k) c.turn.ensures.serves

pub returns-else-outcome-gt3-clause-count : goal.returns-else-outcome-gt3-clause-count
returns-else-outcome-gt3-clause-count g c = same_count c.in-Cut.node c.args.self.now c.cut.new.self c.cut.result (λ n r k. CutServes c.in-Cut.calls c.in-Cut.outcome n r k) c.cut.ensures.serves

pub returns-in-Boot-clause-count : goal.returns-in-Boot-clause-count
returns-in-Boot-clause-count g c = same_count c.in-Boot.node c.args.self.now c.boot.new.self c.boot.result (λ n r k. BootServes g.F.Spelt.reading n r k) c.boot.ensures.serves

pub returns-in-Post-clause-serves : goal.returns-in-Post-clause-serves
returns-in-Post-clause-serves g c = rw c.in-Post.is (post_world (meaning g.F.FlowSet.machine g.F.Spelt.reading (g.J.Judge.judges c.args.contracts.now)) c.in-Post.node c.args.self.now c.post.new.self c.post.result c.post.ensures)

pub returns-in-Deliver-clause-serves : goal.returns-in-Deliver-clause-serves
returns-in-Deliver-clause-serves g c = rw c.in-Deliver.is (hand_world (meaning g.F.FlowSet.machine g.F.Spelt.reading (g.J.Judge.judges c.args.contracts.now)) false c.in-Deliver.node c.in-Deliver.at c.args.self.now c.hand.new.self c.hand.result (hand_serves_any g.F.FlowSet.machine g.F.Spelt.reading (g.J.Judge.judges c.args.contracts.now) false c.in-Deliver.node c.in-Deliver.at c.args.self.now c.hand.new.self c.hand.result c.hand.ensures))

pub returns-in-Repeat-clause-serves : goal.returns-in-Repeat-clause-serves
returns-in-Repeat-clause-serves g c = rw c.in-Repeat.is (hand_world (meaning g.F.FlowSet.machine g.F.Spelt.reading (g.J.Judge.judges c.args.contracts.now)) true c.in-Repeat.node c.in-Repeat.at c.args.self.now c.hand-in-Repeat.new.self c.hand-in-Repeat.result (hand_serves_any g.F.FlowSet.machine g.F.Spelt.reading (g.J.Judge.judges c.args.contracts.now) true c.in-Repeat.node c.in-Repeat.at c.args.self.now c.hand-in-Repeat.new.self c.hand-in-Repeat.result c.hand-in-Repeat.ensures))

pub returns-in-Lose-clause-serves : goal.returns-in-Lose-clause-serves
returns-in-Lose-clause-serves g c = rw c.in-Lose.is (lose_world (meaning g.F.FlowSet.machine g.F.Spelt.reading (g.J.Judge.judges c.args.contracts.now)) c.in-Lose.node c.in-Lose.at c.args.self.now c.lose.new.self c.lose.result c.lose.ensures)

-- ---- over any disks

pub returns-in-Clock-clause-answers : goal.returns-in-Clock-clause-answers
returns-in-Clock-clause-answers g c = rw c.in-Clock.is (c.clock.result, refl, c.clock.ensures)

pub returns-in-Start-clause-answers : goal.returns-in-Start-clause-answers
returns-in-Start-clause-answers g c = rw c.in-Start.is (start_serves_any g.F.FlowSet.machine g.F.Spelt.reading (g.J.Judge.judges c.args.contracts.now) c.in-Start.node c.args.self.now.now c.in-Start.class c.in-Start.args c.args.self.now c.start.new.self c.start.result c.start.ensures.serves, c.start.ensures.clock)

pub returns-in-Turn-clause-answers : goal.returns-in-Turn-clause-answers
returns-in-Turn-clause-answers g c = rw c.in-Turn.is (c.turn.ensures.serves, c.turn.ensures.clock)

pub returns-in-Post-clause-answers : goal.returns-in-Post-clause-answers
returns-in-Post-clause-answers g c = rw c.in-Post.is c.post.ensures

pub returns-in-Deliver-clause-answers : goal.returns-in-Deliver-clause-answers
returns-in-Deliver-clause-answers g c = rw c.in-Deliver.is (hand_serves_any g.F.FlowSet.machine g.F.Spelt.reading (g.J.Judge.judges c.args.contracts.now) false c.in-Deliver.node c.in-Deliver.at c.args.self.now c.hand.new.self c.hand.result c.hand.ensures)

pub returns-in-Repeat-clause-answers : goal.returns-in-Repeat-clause-answers
returns-in-Repeat-clause-answers g c = rw c.in-Repeat.is (hand_serves_any g.F.FlowSet.machine g.F.Spelt.reading (g.J.Judge.judges c.args.contracts.now) true c.in-Repeat.node c.in-Repeat.at c.args.self.now c.hand-in-Repeat.new.self c.hand-in-Repeat.result c.hand-in-Repeat.ensures)

pub returns-in-Lose-clause-answers : goal.returns-in-Lose-clause-answers
returns-in-Lose-clause-answers g c = rw c.in-Lose.is c.lose.ensures

pub returns-else-outcome-gt3-clause-answers : goal.returns-else-outcome-gt3-clause-answers
returns-else-outcome-gt3-clause-answers g c = rw c.in-Cut.is (inr (omega (arith, c.if-outcome-gt3.false), c.cut.ensures.serves, c.cut.ensures.clock))

pub returns-in-Boot-clause-answers : goal.returns-in-Boot-clause-answers
returns-in-Boot-clause-answers g c = rw c.in-Boot.is (c.boot.ensures.serves, c.boot.ensures.clock)

pub returns-in-Ok-clause-answers : goal.returns-in-Ok-clause-answers
returns-in-Ok-clause-answers g c = rw c.in-Drain.is ((drained_as (meaning g.F.FlowSet.machine g.F.Spelt.reading (g.J.Judge.judges c.args.contracts.now)) c.args.self.now c.drain.new.self c.drain.result (Some (outcome.Drained c.in-Ok.full)) (ap drain_outcome c.in-Ok.is) c.drain.ensures).seen, c.drain.ensures.clock)

pub returns-in-Err-clause-answers : goal.returns-in-Err-clause-answers
returns-in-Err-clause-answers g c = rw c.in-Drain.is ((drained_as (meaning g.F.FlowSet.machine g.F.Spelt.reading (g.J.Judge.judges c.args.contracts.now)) c.args.self.now c.drain.new.self c.drain.result None (ap drain_outcome c.in-Err.is) c.drain.ensures).seen, c.drain.ensures.clock)

-- ---- networks with their worlds

pub returns-in-Clock-clause-pairs : goal.returns-in-Clock-clause-pairs
returns-in-Clock-clause-pairs g c = pair_step (meaning g.F.FlowSet.machine g.F.Spelt.reading (g.J.Judge.judges c.args.contracts.now)) _ _ _ c.args.step.now (λ drain. let no = sym c.in-Clock.is ∙ drain in cc) (returns-in-Clock-clause-serves g c) (returns-in-Clock-clause-answers g c)

pub returns-in-Start-clause-pairs : goal.returns-in-Start-clause-pairs
returns-in-Start-clause-pairs g c = pair_step (meaning g.F.FlowSet.machine g.F.Spelt.reading (g.J.Judge.judges c.args.contracts.now)) _ _ _ c.args.step.now (λ drain. let no = sym c.in-Start.is ∙ drain in cc) (returns-in-Start-clause-serves g c) (returns-in-Start-clause-answers g c)

pub returns-in-Turn-clause-pairs : goal.returns-in-Turn-clause-pairs
returns-in-Turn-clause-pairs g c = pair_step (meaning g.F.FlowSet.machine g.F.Spelt.reading (g.J.Judge.judges c.args.contracts.now)) _ _ _ c.args.step.now (λ drain. let no = sym c.in-Turn.is ∙ drain in cc) (returns-in-Turn-clause-serves g c) (returns-in-Turn-clause-answers g c)

pub returns-in-Post-clause-pairs : goal.returns-in-Post-clause-pairs
returns-in-Post-clause-pairs g c = pair_step (meaning g.F.FlowSet.machine g.F.Spelt.reading (g.J.Judge.judges c.args.contracts.now)) _ _ _ c.args.step.now (λ drain. let no = sym c.in-Post.is ∙ drain in cc) (returns-in-Post-clause-serves g c) (returns-in-Post-clause-answers g c)

pub returns-in-Deliver-clause-pairs : goal.returns-in-Deliver-clause-pairs
returns-in-Deliver-clause-pairs g c = pair_step (meaning g.F.FlowSet.machine g.F.Spelt.reading (g.J.Judge.judges c.args.contracts.now)) _ _ _ c.args.step.now (λ drain. let no = sym c.in-Deliver.is ∙ drain in cc) (returns-in-Deliver-clause-serves g c) (returns-in-Deliver-clause-answers g c)

pub returns-in-Repeat-clause-pairs : goal.returns-in-Repeat-clause-pairs
returns-in-Repeat-clause-pairs g c = pair_step (meaning g.F.FlowSet.machine g.F.Spelt.reading (g.J.Judge.judges c.args.contracts.now)) _ _ _ c.args.step.now (λ drain. let no = sym c.in-Repeat.is ∙ drain in cc) (returns-in-Repeat-clause-serves g c) (returns-in-Repeat-clause-answers g c)

pub returns-in-Lose-clause-pairs : goal.returns-in-Lose-clause-pairs
returns-in-Lose-clause-pairs g c = pair_step (meaning g.F.FlowSet.machine g.F.Spelt.reading (g.J.Judge.judges c.args.contracts.now)) _ _ _ c.args.step.now (λ drain. let no = sym c.in-Lose.is ∙ drain in cc) (returns-in-Lose-clause-serves g c) (returns-in-Lose-clause-answers g c)

pub returns-in-Boot-clause-pairs : goal.returns-in-Boot-clause-pairs
returns-in-Boot-clause-pairs g c = pair_step (meaning g.F.FlowSet.machine g.F.Spelt.reading (g.J.Judge.judges c.args.contracts.now)) _ _ _ c.args.step.now (λ drain. let no = sym c.in-Boot.is ∙ drain in cc) (returns-in-Boot-clause-serves g c) (returns-in-Boot-clause-answers g c)

pub returns-else-outcome-gt3-clause-pairs : goal.returns-else-outcome-gt3-clause-pairs
returns-else-outcome-gt3-clause-pairs g c = pair_step (meaning g.F.FlowSet.machine g.F.Spelt.reading (g.J.Judge.judges c.args.contracts.now)) _ _ _ c.args.step.now (λ drain. let no = sym c.in-Cut.is ∙ drain in cc) (returns-else-outcome-gt3-clause-serves g c) (returns-else-outcome-gt3-clause-answers g c)

pub returns-in-Ok-clause-pairs : goal.returns-in-Ok-clause-pairs
returns-in-Ok-clause-pairs g c = rw c.in-Drain.is (pair_drain (meaning g.F.FlowSet.machine g.F.Spelt.reading (g.J.Judge.judges c.args.contracts.now)) c.args.self.now c.drain.new.self (Some (outcome.Drained c.in-Ok.full)) c.drain.ensures.clock (drained_as (meaning g.F.FlowSet.machine g.F.Spelt.reading (g.J.Judge.judges c.args.contracts.now)) c.args.self.now c.drain.new.self c.drain.result (Some (outcome.Drained c.in-Ok.full)) (ap drain_outcome c.in-Ok.is) c.drain.ensures).pairs)

pub returns-in-Err-clause-pairs : goal.returns-in-Err-clause-pairs
returns-in-Err-clause-pairs g c = rw c.in-Drain.is (pair_drain (meaning g.F.FlowSet.machine g.F.Spelt.reading (g.J.Judge.judges c.args.contracts.now)) c.args.self.now c.drain.new.self None c.drain.ensures.clock (drained_as (meaning g.F.FlowSet.machine g.F.Spelt.reading (g.J.Judge.judges c.args.contracts.now)) c.args.self.now c.drain.new.self c.drain.result None (ap drain_outcome c.in-Err.is) c.drain.ensures).pairs)

pub returns-then-outcome-gt3-clause-pairs : goal.returns-then-outcome-gt3-clause-pairs
returns-then-outcome-gt3-clause-pairs g c = rw c.in-Cut.is (pair_step {E = the_row.Denot} (meaning g.F.FlowSet.machine g.F.Spelt.reading (g.J.Judge.judges c.args.contracts.now)) c.args.self.now c.args.self.now (Ok (outcome.Refused refusal.Syntax)) (step.Cut c.in-Cut.node c.in-Cut.calls c.in-Cut.outcome) (λ drain. cc) (λ id w shows coherent. (w, shows, coherent, inl (c.if-outcome-gt3.true, refl, refl))) (inl (c.if-outcome-gt3.true, refl, refl)))
