use Rattle.std.proofs.Common.{arith, sym}
use Rattle.net_model.specs.Environment.{meaning}
use Rattle.work_law.proofs.Calls.{settles_are}
use Rattle.flow_workers.proofs.Histories.{settle_keeps, worked_few}
use Rattle.flow_workers.proofs.desk.Desk.settle.Goals as goal

pub overflow_add-self : goal.overflow_add-self
overflow_add-self g c =
    let few = worked_few _ _ _ _ _ _ c.self.inside.commits c.self.invariant.1.1 in
    omega (arith, few, c.settle_count-count.ensures.few)

pub settle-answer-requires-clause-run : goal.settle-answer-requires-clause-run
settle-answer-requires-clause-run g c = rw c.contracts.ensures c.requires

pub invariant_of-self : goal.invariant_of-self
invariant_of-self g c =
    let inv = c.self.invariant in
    let m = meaning g.F.FlowSet.machine g.F.Spelt.reading g.J.Call.judge in (
      inv.0,
      settle_keeps m g.J.Call.now g.J.Call.came c.self.inside.place c.now.result.0 c.now.ensures _ _ _ c.self.inside.commits _ c.args.done.job c.settle-answer.result inv.1 c.settle-answer.ensures.by
          (settles_are m c.now.result.0 c.args.done.job _ c.settle-answer.result _ (rw (sym c.contracts.ensures) c.settle-answer.ensures.settle)) (omega (arith, c.settle_count-count.ensures.count)),
    )
