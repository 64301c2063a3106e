use Rattle.std.proofs.Common.{◌<◌, ◌≡◌, ap, arith}
use Rattle.crossbeam_queue.specs.Passes.{view}
use Rattle.wire_queue.proofs.Wires.{forks}
use Rattle.wire_queue.proofs.inbox.Inbox.split.Goals as goal

pub another-other-requires-clause-rule : goal.another-other-requires-clause-rule
another-other-requires-clause-rule c =
    let same : (view c.pass.inside.pass).shares ≡ c.args.pass.now.seen.shares = ap (λ p. p.seen.shares) c.pass.view_is in
    let two : 1 < (view c.pass.inside.pass).shares = omega (arith, same, c.requires.shares) in
    forks _ _ two
