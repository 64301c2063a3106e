use Rattle.std.proofs.Common.{◌<◌, refl, arith, length}
use Rattle.std.proofs.lemmas.Option.{slice_get_read}
use Rattle.network_core.proofs.Loops.{boots_more, boots_stop}
use Rattle.network_core.proofs.begin.boot_all.Goals as goal

pub places-preserved : goal.places-preserved
places-preserved g c =
    let items = c.places.nodes.items in
    let inside : c.places.place < length items = omega (arith, c.places-test.true, c.len-place-end.ensures, c.args.nodes.now.ok.0, c.places.invariant.count) in
    let at = slice_get_read items (length items) c.places.place c.index_mut-node.result.now refl inside c.index_mut-node.ensures.value in
    boots_more g.F.Spelt.reading c.args.nodes.now.items c.places.place c.places.last.0 c.in-Ok.moment.0 _ items c.index_mut-node.result.now c.boot_one.new.node c.boot_one.result c.in-Ok.moment c.places.invariant at c.boot_one.ensures.boots c.in-Ok.is c.in-Ok.ensures.last c.max.ensures

pub returns-in-Err-clause-err : goal.returns-in-Err-clause-err
returns-in-Err-clause-err g c =
    let items = c.places.nodes.items in
    let within : c.places.place < length c.args.nodes.now.items = omega (arith, c.places-test.true, c.len-place-end.ensures, c.args.nodes.now.ok.0) in
    let inside : c.places.place < length items = omega (arith, within, c.places.invariant.count) in
    let at = slice_get_read items (length items) c.places.place c.index_mut-node.result.now refl inside c.index_mut-node.ensures.value in
    boots_stop g.F.Spelt.reading c.args.nodes.now.items c.places.place c.places.last.0 items c.index_mut-node.result.now c.boot_one.new.node c.boot_one.result c.in-Err.why c.places.invariant at c.boot_one.ensures.boots c.in-Err.is within
