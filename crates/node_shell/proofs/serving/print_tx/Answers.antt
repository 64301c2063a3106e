use Rattle.std.proofs.Common.{ap, ◌∙◌, sym}
use Rattle.node_shell.specs.declared.replies.Reply.TheVariants.{Printed}
use Rattle.node_shell.specs.Lines.{named_in}
use Rattle.node_shell.specs.Responds.{PrintsTx}
use Rattle.node_shell.proofs.Shown.{found_at, seen_down, seen_up, tx_none, tx_some}
use Rattle.node_shell.proofs.serving.print_tx.Goals as goal

pub returns-in-None-clause-asks : goal.returns-in-None-clause-asks
returns-in-None-clause-asks g c =
    let net = c.args.net.now in
    let reply = c.refused-in-None.result in
    let at = found_at net.nodes c.nodes.result.now c.args.place _ c.in-Some.node.now c.nodes.ensures.nodes (sym c.in-Some.ensures.lookup.0) c.in-Some.ensures.lookup.1 in
    seen_down net c.args.place reply (PrintsTx g.F.Spelt.reading c.args.name.now reply) c.in-Some.node.now at c.in-None.ensures c.refused-in-None.ensures

pub returns-in-None-2-clause-asks : goal.returns-in-None-2-clause-asks
returns-in-None-2-clause-asks g c =
    let f = g.F.Spelt.reading in
    let named = c.args.name.now in
    let net = c.args.net.now in
    let n = c.in-Some.node.now in
    let reply = c.refused-in-None-2.result in
    let at = found_at net.nodes c.nodes.result.now c.args.place _ n c.nodes.ensures.nodes (sym c.in-Some.ensures.lookup.0) c.in-Some.ensures.lookup.1 in
    let up = c.in-Some-ledger.ensures in
    let tables = c.in-Some-ledger.ledger.now in
    let none = rw c.in-None-2.is at c.in_ok-tx_line-in-Some-ledger.ensures in
    seen_up net c.args.place reply (PrintsTx f named reply) n up.0 at up.1 (tx_none f n.identity.party up.0 tables up.2 reply named (ap (λ s. named_in named s.list) (sym c.store.ensures) ∙ none) c.refused-in-None-2.ensures)

pub returns-in-Some-2-clause-asks : goal.returns-in-Some-2-clause-asks
returns-in-Some-2-clause-asks g c =
    let f = g.F.Spelt.reading in
    let named = c.args.name.now in
    let net = c.args.net.now in
    let n = c.in-Some.node.now in
    let reply = Printed c.in-Some-2.line in
    let at = found_at net.nodes c.nodes.result.now c.args.place _ n c.nodes.ensures.nodes (sym c.in-Some.ensures.lookup.0) c.in-Some.ensures.lookup.1 in
    let up = c.in-Some-ledger.ensures in
    let tables = c.in-Some-ledger.ledger.now in
    let some = rw c.in-Some-2.is at c.in_ok-tx_line-in-Some-ledger.ensures in
    seen_up net c.args.place reply (PrintsTx f named reply) n up.0 at up.1 (tx_some f n.identity.party up.0 tables up.2 reply named some.0 (ap (λ s. named_in named s.list) (sym c.store.ensures) ∙ some.1) some.2)
