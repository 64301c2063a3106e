use Rattle.std.proofs.Common.{◌<◌, inr, refl, arith, length, map, slice_set}
use Rattle.std.proofs.lemmas.Option.{slice_get_read}
use Rattle.net_base.proofs.Lists.{all_get, set_length}
use Rattle.node_core.specs.Seen.{NodeSeen, IsBy}
use Rattle.network_core.proofs.Booting.{all_by, clock_boot}
use Rattle.network_core.proofs.net.Net.boot.Goals as goal

pub invariant_of-self : goal.invariant_of-self
invariant_of-self g c =
    let items = c.self.inside.nodes.items in
    let by = all_by g.F.Spelt.reading items c.args.place c.boot_at-outcome.new.node c.self.inside.now.0 c.last_moment-last.result.0 _ c.self.invariant.0 c.last_moment-last.ensures c.max.ensures in
    let same = set_length items c.args.place c.boot_at-outcome.new.node in
    (by, c.self.invariant.1, omega (arith, c.self.invariant.2, same), omega (arith, c.self.invariant.3, same), omega (arith, c.self.invariant.4, same))

pub returns-clause-serves : goal.returns-clause-serves
returns-clause-serves g c =
    let items = c.self.inside.nodes.items in
    let inside : c.args.place < length items = omega (arith, c.if-place-len.false, c.len.ensures, c.self.inside.nodes.ok.0) in
    let at = slice_get_read items (length items) c.args.place c.index_mut-node.result.now refl inside c.index_mut-node.ensures.value in
    rw (← c.self.view_is) (inr (c.index_mut-node.result.now, c.boot_at-outcome.new.node, at, refl, refl, c.boot_at-outcome.ensures))

pub returns-clause-clock : goal.returns-clause-clock
returns-clause-clock g c =
    let items = c.self.inside.nodes.items in
    let inside : c.args.place < length items = omega (arith, c.if-place-len.false, c.len.ensures, c.self.inside.nodes.ok.0) in
    let at = slice_get_read items (length items) c.args.place c.index_mut-node.result.now refl inside c.index_mut-node.ensures.value in
    let node = c.index_mut-node.result.now in
    let by = all_get (λ (k : NodeSeen). IsBy g.F.Spelt.reading k.journal c.self.inside.now.0) items c.args.place node c.self.invariant.0 at in
    rw (← c.self.view_is) (clock_boot g.F.Spelt.reading c.args.place (record { nodes = items; waiting = map (λ w. w.frames) c.self.inside.waiting.items; now = c.self.inside.now.0 }) (record { nodes = slice_set items c.args.place c.boot_at-outcome.new.node; waiting = map (λ w. w.frames) c.self.inside.waiting.items; now = c.max.result }) node c.boot_at-outcome.new.node c.last_moment-last.result.0 c.boot_at-outcome.result at refl by c.boot_at-outcome.ensures c.last_moment-last.ensures c.max.ensures)
