use Rattle.std.proofs.Common.{◌<◌, length, ◌∙◌, arith}
use Rattle.net_base.proofs.Lists.{get_map}
use Rattle.wire_rows.proofs.Moved.{moved_in, same_inboxes, goes_copy, pass_at}
use Rattle.wire_rows.proofs.Steps.{post_at}
use Rattle.wire_rows.proofs.moving.post_back.Goals as goal

pub returns-clause-of : goal.returns-clause-of
returns-clause-of g c =
    let below : c.args.at < length c.args.inboxes.now = omega (arith, c.if-at-inboxes.false) in
    let there = pass_at c.args.passes.now.items c.args.inboxes.now c.args.at c.index_mut-pass.result.now c.requires.of below c.index_mut-pass.ensures.value in
    same_inboxes c.args.at c.args.passes.now.items c.index_mut-pass.result.now c.post.new.pass there c.post.ensures.of ∙ c.requires.of

pub returns-clause-moves : goal.returns-clause-moves
returns-clause-moves g c =
    let below : c.args.at < length c.args.inboxes.now = omega (arith, c.if-at-inboxes.false) in
    let there = pass_at c.args.passes.now.items c.args.inboxes.now c.args.at c.index_mut-pass.result.now c.requires.of below c.index_mut-pass.ensures.value in
    let had = c.requires.had _ (get_map (λ p. p.seen) c.args.passes.now.items c.args.at c.index_mut-pass.result.now there) in
    moved_in c.args.at c.args.at _ _ c.args.passes.now.items c.index_mut-pass.result.now c.post.new.pass there
    (goes_copy c.post.result c.args.at _ _ _ had c.post.ensures.posted c.post.ensures.same) (λ r be x h. absurd h)

pub returns-clause-posted : goal.returns-clause-posted
returns-clause-posted g c =
    let below : c.args.at < length c.args.inboxes.now = omega (arith, c.if-at-inboxes.false) in
    let there = pass_at c.args.passes.now.items c.args.inboxes.now c.args.at c.index_mut-pass.result.now c.requires.of below c.index_mut-pass.ensures.value in
    post_at c.post.result c.args.at c.args.frame c.args.passes.now.items c.index_mut-pass.result.now c.post.new.pass there c.post.ensures.posted c.post.ensures.same c.post.ensures.full
