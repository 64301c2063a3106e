use Rattle.std.proofs.Common.{◌≡◌, ◌<◌, length, map, drop, Some, refl, arith, ◌∙◌}
use Rattle.std.specs.Prelude.{option_map}
use Rattle.std.specs.List.{slice_get}
use Rattle.std.proofs.lemmas.Option.{slice_get_read}
use Rattle.std.proofs.lemmas.List.{drop-set-lt, length-map}
use Rattle.node_disks.specs.Pair.{pair_seen}
use Rattle.node_shell.proofs.Readying.{stay_in_same, stay_in_more, stay_in_memory, falls_same, falls_more, one_more_fails, one_more_rises, named_none, named_more, named_stays}
use Rattle.node_shell.proofs.openings.attach_all.Goals as goal

pub returns-in-Err-clause-stay : goal.returns-in-Err-clause-stay
returns-in-Err-clause-stay g c =
    let folder = option_map (λ s. s.now) c.args.dir in
    let items = c.nodes.disks.items in
    let all = c.args.disks.now.items in
    let count = c.nodes.invariant.3.count in
    let inside : c.nodes.node < length items = omega (arith, c.nodes-test.true, c.requires.disks, count, length-map items (pair_seen g.B.Disk.seen), length-map all (pair_seen g.B.Disk.seen)) in
    let at : slice_get items c.nodes.node ≡ Some c.index_mut-own.result.now = slice_get_read items (length items) c.nodes.node c.index_mut-own.result.now refl inside c.index_mut-own.ensures.value in
    stay_in_more folder (pair_seen g.B.Disk.seen) all items c.nodes.node c.index_mut-own.result.now c.attach_both.new.disks c.nodes.invariant.0 at c.attach_both.ensures.stays c.attach_both.ensures.later

pub returns-in-Err-clause-none_falls : goal.returns-in-Err-clause-none_falls
returns-in-Err-clause-none_falls g c =
    let items = c.nodes.disks.items in
    let all = c.args.disks.now.items in
    let count = c.nodes.invariant.3.count in
    let inside : c.nodes.node < length items = omega (arith, c.nodes-test.true, c.requires.disks, count, length-map items (pair_seen g.B.Disk.seen), length-map all (pair_seen g.B.Disk.seen)) in
    let at : slice_get items c.nodes.node ≡ Some c.index_mut-own.result.now = slice_get_read items (length items) c.nodes.node c.index_mut-own.result.now refl inside c.index_mut-own.ensures.value in
    falls_more (pair_seen g.B.Disk.seen) all items c.nodes.node c.index_mut-own.result.now c.attach_both.new.disks c.nodes.invariant.3 at c.attach_both.ensures.later

pub returns-in-Err-clause-cause : goal.returns-in-Err-clause-cause
returns-in-Err-clause-cause g c memory fault =
    let folder = option_map (λ s. s.now) c.args.dir in
    let items = c.nodes.disks.items in
    let all = c.args.disks.now.items in
    let count = c.nodes.invariant.3.count in
    let inside : c.nodes.node < length items = omega (arith, c.nodes-test.true, c.requires.disks, count, length-map items (pair_seen g.B.Disk.seen), length-map all (pair_seen g.B.Disk.seen)) in
    let at : slice_get items c.nodes.node ≡ Some c.index_mut-own.result.now = slice_get_read items (length items) c.nodes.node c.index_mut-own.result.now refl inside c.index_mut-own.ensures.value in
    let stay = stay_in_memory folder (map (pair_seen g.B.Disk.seen) all) (map (pair_seen g.B.Disk.seen) items) memory c.nodes.invariant.0 in
    one_more_fails (pair_seen g.B.Disk.seen) all items c.nodes.node c.args.nodes c.index_mut-own.result.now c.attach_both.new.disks stay.0 stay.1 at (omega (arith, c.nodes-test.true)) (c.in-Err.ensures.cause memory fault)

pub returns-in-Err-clause-rose : goal.returns-in-Err-clause-rose
returns-in-Err-clause-rose g c fault =
    let items = c.nodes.disks.items in
    let all = c.args.disks.now.items in
    let count = c.nodes.invariant.3.count in
    let inside : c.nodes.node < length items = omega (arith, c.nodes-test.true, c.requires.disks, count, length-map items (pair_seen g.B.Disk.seen), length-map all (pair_seen g.B.Disk.seen)) in
    let at : slice_get items c.nodes.node ≡ Some c.index_mut-own.result.now = slice_get_read items (length items) c.nodes.node c.index_mut-own.result.now refl inside c.index_mut-own.ensures.value in
    one_more_rises (pair_seen g.B.Disk.seen) all items c.nodes.node c.args.nodes c.index_mut-own.result.now c.attach_both.new.disks c.nodes.invariant.3 at (omega (arith, c.nodes-test.true)) (c.in-Err.ensures.rose fault)

pub nodes-init : goal.nodes-init
nodes-init g c =
    let folder = option_map (λ s. s.now) c.args.dir in
    let disks = map (pair_seen g.B.Disk.seen) c.args.disks.now.items in
    (stay_in_same folder disks, refl {a = drop c.args.nodes c.args.disks.now.items}, named_none folder disks, falls_same disks)

pub nodes-preserved : goal.nodes-preserved
nodes-preserved g c =
    let folder = option_map (λ s. s.now) c.args.dir in
    let items = c.nodes.disks.items in
    let all = c.args.disks.now.items in
    let count = c.nodes.invariant.3.count in
    let inside : c.nodes.node < length items = omega (arith, c.nodes-test.true, c.requires.disks, count, length-map items (pair_seen g.B.Disk.seen), length-map all (pair_seen g.B.Disk.seen)) in
    let at : slice_get items c.nodes.node ≡ Some c.index_mut-own.result.now = slice_get_read items (length items) c.nodes.node c.index_mut-own.result.now refl inside c.index_mut-own.ensures.value in (
      stay_in_more folder (pair_seen g.B.Disk.seen) all items c.nodes.node c.index_mut-own.result.now c.attach_both.new.disks c.nodes.invariant.0 at c.attach_both.ensures.stays c.attach_both.ensures.later,
      drop-set-lt c.args.nodes items c.nodes.node c.attach_both.new.disks (omega (arith, c.nodes-test.true)) ∙ c.nodes.invariant.1,
      named_more (pair_seen g.B.Disk.seen) folder all items c.nodes.node c.index_mut-own.result.now c.attach_both.new.disks c.nodes.invariant.2 at c.in-Ok.ensures.named,
      falls_more (pair_seen g.B.Disk.seen) all items c.nodes.node c.index_mut-own.result.now c.attach_both.new.disks c.nodes.invariant.3 at c.attach_both.ensures.later,
    )

pub returns-in-Err-clause-stopped : goal.returns-in-Err-clause-stopped
returns-in-Err-clause-stopped g c =
    let folder = option_map (λ s. s.now) c.args.dir in
    let items = c.nodes.disks.items in
    let all = c.args.disks.now.items in
    let count = c.nodes.invariant.3.count in
    let inside : c.nodes.node < length items = omega (arith, c.nodes-test.true, c.requires.disks, count, length-map items (pair_seen g.B.Disk.seen), length-map all (pair_seen g.B.Disk.seen)) in
    let at : slice_get items c.nodes.node ≡ Some c.index_mut-own.result.now = slice_get_read items (length items) c.nodes.node c.index_mut-own.result.now refl inside c.index_mut-own.ensures.value in
    named_stays (pair_seen g.B.Disk.seen) folder all items c.nodes.node c.index_mut-own.result.now c.attach_both.new.disks c.nodes.invariant.2 at c.args.nodes (omega (arith, c.nodes-test.true)) c.in-Err.ensures.half
