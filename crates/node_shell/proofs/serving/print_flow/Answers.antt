use Rattle.std.proofs.Common.{ap, ◌∙◌, sym}
use Rattle.std.specs.List.{slice_get}
use Rattle.node_shell.specs.declared.replies.Reply.TheVariants.{Printed}
use Rattle.node_shell.specs.Responds.{PrintsFlow}
use Rattle.node_shell.proofs.Shown.{found_at, seen_down, seen_up, flow_none, flow_some}
use Rattle.node_shell.proofs.serving.print_flow.Goals as goal

pub returns-in-None-clause-asks : goal.returns-in-None-clause-asks
returns-in-None-clause-asks g c =
    let net = c.args.net.now in
    let reply = c.refused-in-None.result in
    let at = found_at net.nodes c.nodes.result.now c.args.place _ c.in-Some.node.now c.nodes.ensures.nodes (sym c.in-Some.ensures.lookup.0) c.in-Some.ensures.lookup.1 in
    seen_down net c.args.place reply (PrintsFlow g.F.Spelt.reading c.args.flow reply) c.in-Some.node.now at c.in-None.ensures c.refused-in-None.ensures

pub returns-in-None-2-clause-asks : goal.returns-in-None-2-clause-asks
returns-in-None-2-clause-asks g c =
    let f = g.F.Spelt.reading in
    let net = c.args.net.now in
    let reply = c.refused-in-None-2.result in
    let at = found_at net.nodes c.nodes.result.now c.args.place _ c.in-Some.node.now c.nodes.ensures.nodes (sym c.in-Some.ensures.lookup.0) c.in-Some.ensures.lookup.1 in
    let up = c.in-Some-flows.ensures in
    let none = rw c.in-None-2.is at c.in_ok-flow_text-in-Some-flows.ensures in
    seen_up net c.args.place reply (PrintsFlow f c.args.flow reply) c.in-Some.node.now up.0 at up.1 (flow_none f c.args.flow reply up.0 (sym (ap (λ l. slice_get l c.args.flow) up.2) ∙ none) c.refused-in-None-2.ensures)

pub returns-in-Some-2-clause-asks : goal.returns-in-Some-2-clause-asks
returns-in-Some-2-clause-asks g c =
    let f = g.F.Spelt.reading in
    let net = c.args.net.now in
    let reply = Printed c.in-Some-2.line in
    let at = found_at net.nodes c.nodes.result.now c.args.place _ c.in-Some.node.now c.nodes.ensures.nodes (sym c.in-Some.ensures.lookup.0) c.in-Some.ensures.lookup.1 in
    let up = c.in-Some-flows.ensures in
    let some = rw c.in-Some-2.is at c.in_ok-flow_text-in-Some-flows.ensures in
    seen_up net c.args.place reply (PrintsFlow f c.args.flow reply) c.in-Some.node.now up.0 at up.1 (flow_some f c.args.flow reply up.0 some.0 (sym (ap (λ l. slice_get l c.args.flow) up.2) ∙ some.1) some.2)
