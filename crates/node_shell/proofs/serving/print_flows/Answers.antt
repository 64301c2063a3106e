use Rattle.std.proofs.Common.{ap, ◌∙◌, sym}
use Rattle.net_model.specs.Print.{flows_text}
use Rattle.node_shell.specs.declared.replies.Reply.TheVariants.{Printed}
use Rattle.node_shell.specs.Responds.{PrintsFlows}
use Rattle.node_shell.proofs.Shown.{found_at, seen_down, seen_up}
use Rattle.node_shell.proofs.serving.print_flows.Goals as goal

pub returns-in-None-clause-asks : goal.returns-in-None-clause-asks
returns-in-None-clause-asks g c =
    let net = c.args.net.now in
    let at = found_at net.nodes c.nodes.result.now c.args.place _ c.in-Some.node.now c.nodes.ensures.nodes (sym c.in-Some.ensures.lookup.0) c.in-Some.ensures.lookup.1 in
    seen_down net c.args.place c.refused-in-None.result (PrintsFlows g.F.Spelt.reading c.refused-in-None.result) c.in-Some.node.now at c.in-None.ensures c.refused-in-None.ensures

pub returns-in_ok-flows_text-in-Some-flows-clause-asks : goal.returns-in_ok-flows_text-in-Some-flows-clause-asks
returns-in_ok-flows_text-in-Some-flows-clause-asks g c =
    let net = c.args.net.now in
    let at = found_at net.nodes c.nodes.result.now c.args.place _ c.in-Some.node.now c.nodes.ensures.nodes (sym c.in-Some.ensures.lookup.0) c.in-Some.ensures.lookup.1 in
    let up = c.in-Some-flows.ensures in
    let reply = Printed c.in_ok-flows_text-in-Some-flows.field-0 in
    seen_up net c.args.place reply (PrintsFlows g.F.Spelt.reading reply) c.in-Some.node.now up.0 at up.1 (c.in_ok-flows_text-in-Some-flows.ensures ∙ ap (λ l. flows_text l) up.2)
