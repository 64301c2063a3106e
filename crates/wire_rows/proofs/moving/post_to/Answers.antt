use Rattle.std.proofs.Common.{◌<◌, length, refl, ◌∙◌, arith}
use Rattle.wire_rows.proofs.Moved.{moved_in, same_inboxes, goes_post, pass_at}
use Rattle.wire_rows.proofs.Steps.{post_at}
use Rattle.wire_rows.proofs.moving.post_to.Goals as goal

pub returns-clause-of : goal.returns-clause-of
returns-clause-of g c =
    let below : c.args.out.to.0 < length c.args.inboxes.now = omega (arith, c.if-to-inboxes.false) in
    let there = pass_at c.args.passes.now.items c.args.inboxes.now c.args.out.to.0 c.index_mut-pass.result.now c.requires below c.index_mut-pass.ensures.value in
    same_inboxes c.args.out.to.0 c.args.passes.now.items c.index_mut-pass.result.now c.post.new.pass there c.post.ensures.of ∙ c.requires

pub returns-clause-moves : goal.returns-clause-moves
returns-clause-moves g c at =
    let below : c.args.out.to.0 < length c.args.inboxes.now = omega (arith, c.if-to-inboxes.false) in
    let there = pass_at c.args.passes.now.items c.args.inboxes.now c.args.out.to.0 c.index_mut-pass.result.now c.requires below c.index_mut-pass.ensures.value in
    moved_in at c.args.out.to.0 _ _ c.args.passes.now.items c.index_mut-pass.result.now c.post.new.pass there
    (goes_post c.post.result c.args.out.to.0 c.args.out _ _ refl c.post.ensures.posted c.post.ensures.same) (λ r be x h. absurd h)

pub returns-clause-posted : goal.returns-clause-posted
returns-clause-posted g c =
    let below : c.args.out.to.0 < length c.args.inboxes.now = omega (arith, c.if-to-inboxes.false) in
    let there = pass_at c.args.passes.now.items c.args.inboxes.now c.args.out.to.0 c.index_mut-pass.result.now c.requires below c.index_mut-pass.ensures.value in
    post_at c.post.result c.args.out.to.0 c.args.out.bytes c.args.passes.now.items c.index_mut-pass.result.now c.post.new.pass there c.post.ensures.posted c.post.ensures.same c.post.ensures.full
