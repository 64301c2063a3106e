use Rattle.std.proofs.Common.{◌<◌, refl, ◌∙◌, ap, arith, length}
use Rattle.std.proofs.lemmas.Option.{slice_get_read, slice_get_within}
use Rattle.net_base.proofs.Lists.{all_from_get, set_length}
use Rattle.waiting_frames.specs.Waiting.{WaitingSeen}
use Rattle.waiting_heads.specs.Heads.{HasRoom}
use Rattle.waiting_heads.proofs.Each.{map_set_same, upto_more}
use Rattle.waiting_heads.proofs.heads.make_rooms.Goals as goal

pub returns-in_err-make_room-clause-frames : goal.returns-in_err-make_room-clause-frames
returns-in_err-make_room-clause-frames c =
    let items = c.nodes.waiting.items in
    let inside : c.nodes.place < length items = omega (arith, c.nodes-test.true, c.len-place-end.ensures, c.args.waiting.now.ok.0, c.nodes.invariant.count) in
    let at = slice_get_read items (length items) c.nodes.place c.index_mut-here.result.now refl inside c.index_mut-here.ensures.value in
    map_set_same (λ (w : WaitingSeen). w.frames) items c.nodes.place c.index_mut-here.result.now c.make_room.new.self at c.make_room.ensures.frames ∙ c.nodes.invariant.frames

pub nodes-preserved : goal.nodes-preserved
nodes-preserved c =
    let items = c.nodes.waiting.items in
    let inside : c.nodes.place < length items = omega (arith, c.nodes-test.true, c.len-place-end.ensures, c.args.waiting.now.ok.0, c.nodes.invariant.count) in
    let at = slice_get_read items (length items) c.nodes.place c.index_mut-here.result.now refl inside c.index_mut-here.ensures.value in
    let same = ap (λ l. length l) c.make_room.ensures.frames in
    record {
      frames = map_set_same (λ (w : WaitingSeen). w.frames) items c.nodes.place c.index_mut-here.result.now c.make_room.new.self at c.make_room.ensures.frames ∙ c.nodes.invariant.frames;
      count = set_length items c.nodes.place c.make_room.new.self ∙ c.nodes.invariant.count;
      room = upto_more HasRoom items c.nodes.place c.make_room.new.self c.nodes.invariant.room (omega (arith, same, c.len.ensures, c.in-Some.ensures, c.in_ok-make_room.ensures.room));
    }

pub returns-clause-room : goal.returns-clause-room
returns-clause-room c =
    all_from_get HasRoom c.nodes.waiting.items
    (λ q w at. c.nodes.invariant.room q w (omega (arith, slice_get_within c.nodes.waiting.items q w at, c.nodes-test.false, c.len-place-end.ensures, c.args.waiting.now.ok.0, c.nodes.invariant.count)) at)
