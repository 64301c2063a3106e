use Rattle.std.proofs.Common.{sym}
use Rattle.node_shell.specs.Replies.{IsRefused}
use Rattle.node_shell.proofs.Shown.{found_at, up_not_none, down_none, seen_down, seen_refused}
use Rattle.node_shell.proofs.serving.refuse_at.Goals as goal
use Rattle.node_shell.proofs.serving.refuse_at.Goals.{then-is_up, else-is_up}

pub returns-after-is_up-clause-asks : goal.returns-after-is_up-clause-asks
returns-after-is_up-clause-asks g c =
    let net = c.args.net.now in
    let p = c.args.place in
    let n = c.in-Some.node.now in
    let reply = c.refused-in-Some.result in
    let at = found_at net.nodes c.nodes.result.now p _ n c.nodes.ensures.nodes (sym c.in-Some.ensures.lookup.0) c.in-Some.ensures.lookup.1 in
    elim c.if-is_up.branch [
      | then-is_up b ↦ seen_refused net p reply c.args.why n at (up_not_none c.is_up.result n.journal c.is_up.ensures b.if-is_up.true) (rw b.refused-is at c.refused-in-Some.ensures)
      | else-is_up b ↦ seen_down net p reply (λ bodies. IsRefused c.args.why reply) n at (down_none c.is_up.result n.journal c.is_up.ensures b.if-is_up.false) (rw b.refused-is at c.refused-in-Some.ensures)
    ]
