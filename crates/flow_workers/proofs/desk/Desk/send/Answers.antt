use Rattle.std.proofs.Common.{sym, ◌∙◌}
use Rattle.net_model.specs.Environment.{meaning}
use Rattle.work_law.proofs.Calls.{sends_are}
use Rattle.flow_workers.proofs.Histories.{send_keeps}
use Rattle.flow_workers.proofs.desk.Desk.send.Goals as goal

pub invariant_of-self : goal.invariant_of-self
invariant_of-self g c =
    let inv = c.self.invariant in
    let m = meaning g.F.FlowSet.machine g.F.Spelt.reading g.J.Call.judge in
    (c.post_first.ensures.of ∙ c.inboxes.ensures, send_keeps m g.J.Call.now g.J.Call.came c.self.inside.place _ c.in-Ok.frames _ _ _ inv.1 (sends_are _ _ _ (rw (sym c.node.ensures) c.in-Ok.ensures)) c.post_first.ensures.moves)
