use Rattle.std.proofs.Common.{◌<◌, length, ◌∙◌, arith}
use Rattle.wire_rows.proofs.Moved.{same_inboxes, pass_at, pulled_has, pulled_whole}
use Rattle.wire_rows.proofs.Steps.{pull_none, pull_empty, pull_some}
use Rattle.wire_rows.proofs.moving.pull_from.Goals as goal

pub returns-clause-of : goal.returns-clause-of
returns-clause-of g c =
    let below : c.args.at < length c.args.inboxes.now = omega (arith, c.if-at-inboxes.false) in
    let there = pass_at c.args.passes.now.items c.args.inboxes.now c.args.at c.index_mut-pass.result.now c.requires below c.index_mut-pass.ensures.value in
    same_inboxes c.args.at c.args.passes.now.items c.index_mut-pass.result.now c.pull.new.pass there c.pull.ensures.of ∙ c.requires

pub returns-clause-none : goal.returns-clause-none
returns-clause-none g c =
    let below : c.args.at < length c.args.inboxes.now = omega (arith, c.if-at-inboxes.false) in
    let there = pass_at c.args.passes.now.items c.args.inboxes.now c.args.at c.index_mut-pass.result.now c.requires below c.index_mut-pass.ensures.value in
    pull_none c.pull.result c.args.at c.args.passes.now.items c.index_mut-pass.result.now c.pull.new.pass there c.pull.ensures.same

pub returns-clause-pulled : goal.returns-clause-pulled
returns-clause-pulled g c =
    let below : c.args.at < length c.args.inboxes.now = omega (arith, c.if-at-inboxes.false) in
    let there = pass_at c.args.passes.now.items c.args.inboxes.now c.args.at c.index_mut-pass.result.now c.requires below c.index_mut-pass.ensures.value in
    pull_some c.pull.result c.args.at c.args.passes.now.items c.index_mut-pass.result.now c.pull.new.pass there c.pull.ensures.pulled

pub returns-clause-has : goal.returns-clause-has
returns-clause-has g c =
    let below : c.args.at < length c.args.inboxes.now = omega (arith, c.if-at-inboxes.false) in
    let there = pass_at c.args.passes.now.items c.args.inboxes.now c.args.at c.index_mut-pass.result.now c.requires below c.index_mut-pass.ensures.value in
    pulled_has c.pull.result c.args.at c.args.passes.now.items c.index_mut-pass.result.now c.pull.new.pass there c.pull.ensures.pulled

pub returns-clause-whole : goal.returns-clause-whole
returns-clause-whole g c =
    let below : c.args.at < length c.args.inboxes.now = omega (arith, c.if-at-inboxes.false) in
    let there = pass_at c.args.passes.now.items c.args.inboxes.now c.args.at c.index_mut-pass.result.now c.requires below c.index_mut-pass.ensures.value in
    pulled_whole c.args.at c.args.passes.now.items c.index_mut-pass.result.now c.pull.new.pass there c.pull.ensures.origins

pub returns-clause-empty : goal.returns-clause-empty
returns-clause-empty g c =
    let below : c.args.at < length c.args.inboxes.now = omega (arith, c.if-at-inboxes.false) in
    let there = pass_at c.args.passes.now.items c.args.inboxes.now c.args.at c.index_mut-pass.result.now c.requires below c.index_mut-pass.ensures.value in
    pull_empty c.pull.result c.args.at c.args.passes.now.items c.index_mut-pass.result.now c.pull.new.pass there c.pull.ensures.empty
