use Rattle.std.proofs.Common.{[], ◌∷◌, arith, sym, ◌∙◌}
use Rattle.net_model.specs.Environment.{meaning}
use Rattle.work_law.proofs.Calls.{takes_are}
use Rattle.wire_rows.proofs.Steps.{moves_kept, moves_pulled}
use Rattle.wire_rows.proofs.Drains.{moves_any}
use Rattle.flow_workers.proofs.Histories.{moves_keep, take_keeps, worked_few}
use Rattle.flow_workers.proofs.desk.Desk.receive.Goals as goal

pub overflow_add-self : goal.overflow_add-self
overflow_add-self g c =
    let few = worked_few _ _ _ _ _ _ c.self.inside.commits c.self.invariant.1.1 in
    omega (arith, few, c.heard-count.ensures.few)

-- nothing was pulled
pub invariant_of-self : goal.invariant_of-self
invariant_of-self g c =
    let inv = c.self.invariant in
    let m = meaning g.F.FlowSet.machine g.F.Spelt.reading g.J.Call.judge in
    (c.pull_from.ensures.of ∙ c.inboxes.ensures, moves_keep m g.J.Call.now g.J.Call.came c.self.inside.place _ _ _ _ inv.1 (moves_kept _ _ _ _ c.in_default.ensures.none))

-- the frame is lost
pub invariant_of-self-then-chance-eq0 : goal.invariant_of-self-then-chance-eq0
invariant_of-self-then-chance-eq0 g c =
    let inv = c.self.invariant in
    let m = meaning g.F.FlowSet.machine g.F.Spelt.reading g.J.Call.judge in
    (c.pull_from.ensures.of ∙ c.inboxes.ensures, moves_keep m g.J.Call.now g.J.Call.came c.self.inside.place _ _ _ _ inv.1 (moves_any c.self.inside.place c.self.inside.place (c.in-Some.frame ∷ []) [] _ _ (moves_pulled c.self.inside.place (c.in-Some.frame ∷ []) _ _ c.in-Some.ensures.pulled)))

-- it is taken
pub invariant_of-self-2 : goal.invariant_of-self-2
invariant_of-self-2 g c =
    let inv = c.self.invariant in
    let m = meaning g.F.FlowSet.machine g.F.Spelt.reading g.J.Call.judge in (
      c.post_ack.ensures.of ∙ c.inboxes-3.ensures,
      take_keeps m g.J.Call.now g.J.Call.came c.self.inside.place c.now.result.0 c.now.ensures _ _ c.in-Some.frame _ _ _ _ _ c.self.inside.commits _ c.take-answer.result inv.1 c.take-answer.ensures.by
          (takes_are _ _ _ _ _ _ _ _ c.heard-count.ensures.counted (rw (sym c.as_slice.ensures) c.take-answer.ensures.take)) (moves_pulled c.self.inside.place (c.in-Some.frame ∷ []) _ _ c.in-Some.ensures.pulled) c.post_again.ensures.moves c.post_ack.ensures.moves c.heard-count.ensures.ack (omega (arith, c.heard-count.ensures.commits)),
    )
