use Rattle.std.proofs.Common.{None, arith}
use Rattle.net_model.specs.Environment.{environment, meaning}
use Rattle.work_law.proofs.Calls.{turns_are}
use Rattle.flow_workers.proofs.Histories.{turn_keeps, worked_few}
use Rattle.flow_workers.proofs.Stepped.{is_out}
use Rattle.flow_workers.proofs.desk.Desk.turn.Goals as goal

pub overflow_add-self : goal.overflow_add-self
overflow_add-self g c =
    let few = worked_few _ _ _ _ _ _ c.self.inside.commits c.self.invariant.1.1 in
    omega (arith, few, c.turn_count.ensures.few)

pub turn_of-requires : goal.turn_of-requires
turn_of-requires g c =
    let m = meaning g.F.FlowSet.machine g.F.Spelt.reading g.J.Call.judge in
    is_out (environment m c.self.inside.node.node.identity) c.now.result.0 None _ _ _ c.turn-answer.result (c.turn-answer.ensures.turn g.J.Call.judge)

pub invariant_of-self : goal.invariant_of-self
invariant_of-self g c =
    let inv = c.self.invariant in
    let m = meaning g.F.FlowSet.machine g.F.Spelt.reading g.J.Call.judge in (
      inv.0,
      turn_keeps m g.J.Call.now g.J.Call.came c.self.inside.place c.now.result.0 c.now.ensures _ _ _ c.self.inside.commits _ _ c.turn-answer.result inv.1 c.turn-answer.ensures.by
          (turns_are m c.now.result.0 _ _ c.turn-answer.result _ (c.turn-answer.ensures.turn g.J.Call.judge)) (omega (arith, c.turn_count.ensures.count)),
    )
