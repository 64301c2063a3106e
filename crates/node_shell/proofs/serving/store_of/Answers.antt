use Rattle.std.proofs.Common.{ap, ◌∙◌, sym}
use Rattle.node_shell.proofs.Shown.{found_at}
use Rattle.node_shell.proofs.Filling.{seen_down, seen_up}
use Rattle.node_shell.proofs.serving.store_of.Goals as goal

pub returns-in-None-ledger : goal.returns-in-None-ledger
returns-in-None-ledger g c =
    let net = c.args.net.now in
    let n = c.in-Some.node.now in
    let at = found_at net.nodes c.nodes.result.now c.args.place _ n c.nodes.ensures.nodes (sym c.in-Some.ensures.lookup.0) c.in-Some.ensures.lookup.1 in
    seen_down g.F.Spelt.reading net c.args.place n at c.in-None-ledger.ensures

pub returns-in-Some-ledger : goal.returns-in-Some-ledger
returns-in-Some-ledger g c =
    let net = c.args.net.now in
    let n = c.in-Some.node.now in
    let up = c.in-Some-ledger.ensures in
    let tables = c.in-Some-ledger.ledger.now in
    let at = found_at net.nodes c.nodes.result.now c.args.place _ n c.nodes.ensures.nodes (sym c.in-Some.ensures.lookup.0) c.in-Some.ensures.lookup.1 in
    ap (λ s. s.list) c.store.ensures ∙ seen_up g.F.Spelt.reading net c.args.place n up.0 n.identity.party tables at up.1 up.2
