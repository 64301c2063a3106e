use Rattle.std.proofs.Common.{◌<◌, inr, refl, arith, length}
use Rattle.std.proofs.lemmas.Option.{slice_get_read}
use Rattle.network_core.proofs.net.Net.start.Goals as goal

pub returns-clause-serves : goal.returns-clause-serves
returns-clause-serves g c =
    let items = c.self.inside.nodes.items in
    let inside : c.args.place < length items = omega (arith, c.if-place-len.false, c.len.ensures, c.self.inside.nodes.ok.0) in
    let at = slice_get_read items (length items) c.args.place c.index_mut-node.result.now refl inside c.index_mut-node.ensures.value in
    rw (← c.self.view_is) (inr (c.index_mut-node.result.now, c.start_at.new.node, at, refl, refl, c.start_at.ensures.serves))
