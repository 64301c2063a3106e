use Rattle.std.proofs.Common.{length, refl, ◌∙◌, arith, add-one}
use Rattle.std.proofs.lemmas.Option.{slice_get_read}
use Rattle.node_tables.specs.Journals.{causes_of}
use Rattle.node_shell.proofs.Shown.{lent_lists, one_more_lent, causes_step}
use Rattle.node_shell.proofs.serving.all_causes.Goals as goal

pub loop-node-preserved : goal.loop-node-preserved
loop-node-preserved g c =
    let f = g.F.Spelt.reading in
    let ns = c.args.nodes.now in
    let i = c.loop-node.node-index in
    let lists = c.loop-node.lists.items in
    let at = slice_get_read ns (length ns) i c.node-item.result refl (omega (arith, c.loop-node-test.true)) c.node-item.is in
    let bodies = c.in-Some.ensures.0 in
    let pushed = one_more_lent lists c.push.new.self.items c.in-Some.causes (causes_of f bodies) c.in_ok-push.ensures.items c.in-Some.ensures.2 in
    rw (pushed, add-one) (causes_step f ns i c.node-item.result (lent_lists lists) bodies at c.in-Some.ensures.1 ∙ c.loop-node.invariant)
