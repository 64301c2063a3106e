use Rattle.std.proofs.Common.{◌≡◌, Ok, false, sym, ◌∙◌, ap, subst}
use Rattle.node_core.specs.States.{disk_in, journal_in, acked_in, IsWhole, seen_up}
use Rattle.node_core.specs.Seen.{NodeSeen, CutAnswers, Tied}
use Rattle.node_core.proofs.Nodes.{where_ok, cut_down, cut_later}
use Rattle.node_core.proofs.node.Node.cut_power.Goals as goal

pub returns-then-calls-eq0 : goal.returns-then-calls-eq0
returns-then-calls-eq0 g c =
    let id = c.self.inside.identity in
    let here : seen_up id c.in-Up.up ≡ c.args.self.now = ap (λ s. record { identity = id; disk = disk_in g.D.Disk.seen s; journal = journal_in s; acked = acked_in s }) (sym c.in-Up.is) ∙ c.self.view_is in
    let failed = sym c.if-is_err.ensures.value in
    let memory : c.in-Up.up.journal.disk.of_file ≡ false = where_ok _ c.arm.result failed c.arm.ensures.memory in
    subst (λ (o : NodeSeen). CutAnswers {T = Unit {0}} c.args.calls c.args.outcome o (Ok tt) (record { identity = id; disk = disk_in g.D.Disk.seen c.cut_now.new.state; journal = journal_in c.cut_now.new.state; acked = acked_in c.cut_now.new.state })) here
    (cut_down g.D.Disk.seen id c.args.calls c.args.outcome _ c.in-Up.up c.arm.new.self c.go_down.new.state c.cut_now.new.state c.if-calls-eq0.true memory (where_ok _ c.arm.result failed c.arm.ensures.armed) c.go_down.ensures.disk c.cut_now.ensures.cut c.cut_now.ensures.down)

pub returns-else-calls-eq0 : goal.returns-else-calls-eq0
returns-else-calls-eq0 g c =
    let id = c.self.inside.identity in
    let here : seen_up id c.in-Up.up ≡ c.args.self.now = ap (λ s. record { identity = id; disk = disk_in g.D.Disk.seen s; journal = journal_in s; acked = acked_in s }) (sym c.in-Up.is) ∙ c.self.view_is in
    let tied : Tied id c.in-Up.up.journal c.in-Up.up.bodies = subst (IsWhole id) c.in-Up.is c.self.invariant.1 in
    let failed = sym c.if-is_err.ensures.value in
    let memory : c.in-Up.up.journal.disk.of_file ≡ false = where_ok _ c.arm.result failed c.arm.ensures.memory in
    subst (λ (o : NodeSeen). CutAnswers {T = Unit {0}} c.args.calls c.args.outcome o (Ok tt) (seen_up id c.arm.new.self)) here
    (cut_later id c.args.calls c.args.outcome c.max.result c.in-Up.up c.arm.new.self c.if-calls-eq0.false c.max.ensures tied memory c.arm.ensures.bodies c.arm.ensures.acked (where_ok _ c.arm.result failed c.arm.ensures.armed))
