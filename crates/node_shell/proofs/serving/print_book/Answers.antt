use Rattle.std.proofs.Common.{ap, ◌∙◌, sym}
use Rattle.shell_report.specs.LedgerText.{book_text}
use Rattle.node_shell.specs.declared.replies.Reply.TheVariants.{Printed}
use Rattle.node_shell.specs.Responds.{PrintsBook}
use Rattle.node_shell.proofs.Shown.{found_at, seen_down, seen_up, book_of_tables}
use Rattle.node_shell.proofs.serving.print_book.Goals as goal

pub returns-in-None-clause-asks : goal.returns-in-None-clause-asks
returns-in-None-clause-asks g c =
    let net = c.args.net.now in
    let reply = c.refused-in-None.result in
    let at = found_at net.nodes c.nodes.result.now c.args.place _ c.in-Some.node.now c.nodes.ensures.nodes (sym c.in-Some.ensures.lookup.0) c.in-Some.ensures.lookup.1 in
    seen_down net c.args.place reply (PrintsBook g.F.Spelt.reading reply) c.in-Some.node.now at c.in-None.ensures c.refused-in-None.ensures

pub returns-in_ok-book_text-in-Some-ledger-clause-asks : goal.returns-in_ok-book_text-in-Some-ledger-clause-asks
returns-in_ok-book_text-in-Some-ledger-clause-asks g c =
    let f = g.F.Spelt.reading in
    let net = c.args.net.now in
    let n = c.in-Some.node.now in
    let at = found_at net.nodes c.nodes.result.now c.args.place _ n c.nodes.ensures.nodes (sym c.in-Some.ensures.lookup.0) c.in-Some.ensures.lookup.1 in
    let up = c.in-Some-ledger.ensures in
    let tables = c.in-Some-ledger.ledger.now in
    let reply = Printed c.in_ok-book_text-in-Some-ledger.field-0 in
    let text = c.in_ok-book_text-in-Some-ledger.ensures ∙ ap (λ b. book_text b.entries) c.book.ensures.lent in
    seen_up net c.args.place reply (PrintsBook f reply) n up.0 at up.1 (book_of_tables f n.identity.party up.0 tables up.2 reply text)
