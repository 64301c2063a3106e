use Rattle.std.proofs.Common.{◌≡◌, sym, ◌∙◌, ap, subst}
use Rattle.net_model.specs.Environment.{environment, unjudged}
use Rattle.node_core.specs.States.{disk_in, journal_in, acked_in, seen_up}
use Rattle.node_core.specs.Seen.{NodeSeen}
use Rattle.node_core.specs.Takes.{TakeAnswers}
use Rattle.node_core.proofs.Nodes.{fell, after_fault, after_answer}
use Rattle.node_core.proofs.node.Node.take.Goals as goal

pub returns-then-is_fault-clause-take : goal.returns-then-is_fault-clause-take
returns-then-is_fault-clause-take g c =
    let id = c.self.inside.identity in
    let here : seen_up id c.in-Up.up ≡ c.args.self.now = ap (λ s. record { identity = id; disk = disk_in g.D.Disk.seen s; journal = journal_in s; acked = acked_in s }) (sym c.in-Up.is) ∙ c.self.view_is in
    let after = after_fault id c.take-answer.result c.take-answer.new.self (sym c.is_fault.ensures ∙ c.if-is_fault.true) ∙ sym (fell g.D.Disk.seen id c.take-answer.new.self c.go_down.new.state c.go_down.ensures.disk c.go_down.ensures.down) in
    subst (λ (o : NodeSeen). TakeAnswers (environment (unjudged g.F.FlowSet.machine g.F.Spelt.reading) o.identity) c.args.now.0 c.args.bytes.now o c.take-answer.result (record { identity = id; disk = disk_in g.D.Disk.seen c.go_down.new.state; journal = journal_in c.go_down.new.state; acked = acked_in c.go_down.new.state })) here
    (subst (λ (n : NodeSeen). TakeAnswers (environment (unjudged g.F.FlowSet.machine g.F.Spelt.reading) id) c.args.now.0 c.args.bytes.now (seen_up id c.in-Up.up) c.take-answer.result n) after c.take-answer.ensures.takes)

pub returns-else-is_fault-clause-take : goal.returns-else-is_fault-clause-take
returns-else-is_fault-clause-take g c =
    let id = c.self.inside.identity in
    let here : seen_up id c.in-Up.up ≡ c.args.self.now = ap (λ s. record { identity = id; disk = disk_in g.D.Disk.seen s; journal = journal_in s; acked = acked_in s }) (sym c.in-Up.is) ∙ c.self.view_is in
    let after = after_answer id c.take-answer.result c.take-answer.new.self (sym c.is_fault.ensures ∙ c.if-is_fault.false) in
    subst (λ (o : NodeSeen). TakeAnswers (environment (unjudged g.F.FlowSet.machine g.F.Spelt.reading) o.identity) c.args.now.0 c.args.bytes.now o c.take-answer.result (seen_up id c.take-answer.new.self)) here
    (subst (λ (n : NodeSeen). TakeAnswers (environment (unjudged g.F.FlowSet.machine g.F.Spelt.reading) id) c.args.now.0 c.args.bytes.now (seen_up id c.in-Up.up) c.take-answer.result n) after c.take-answer.ensures.takes)
