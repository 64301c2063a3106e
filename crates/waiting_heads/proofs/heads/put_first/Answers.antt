use Rattle.std.proofs.Common.{◌≡◌, ◌∙◌, ap, arith, length}
use Rattle.waiting_heads.specs.Heads.{joined_all, turned_by}
use Rattle.waiting_heads.proofs.Turns.{put_first}
use Rattle.waiting_heads.proofs.heads.put_first.Goals as goal

pub returns : goal.returns
returns c =
    let inv = c.turns.invariant in
    let old = c.args.waiting.now.frames in
    let all : c.turns.counter ≡ length old = omega (arith, inv.below, c.turns-test.false, c.len-behind.ensures) in
    put_first c.args.frames.items old c.turns.waiting.frames (inv.frames ∙ ap (λ n. turned_by n (joined_all c.args.frames.items old)) all)
