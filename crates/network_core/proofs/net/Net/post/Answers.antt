use Rattle.std.proofs.Common.{◌<◌, inr, refl, ◌∙◌, ap, arith, length, map}
use Rattle.std.proofs.lemmas.Option.{slice_get_read}
use Rattle.waiting_frames.specs.Waiting.{WaitingSeen}
use Rattle.network_core.specs.Answers.{count_fresh, mailed}
use Rattle.network_core.proofs.Mailing.{mailed_lists, same_lists}
use Rattle.network_core.proofs.Turning.{posting, post_left, sends_none, sends_some, up_by}
use Rattle.std.specs.contracts.alloc.AllocError.{the_row}
use Rattle.network_core.proofs.net.Net.post.Goals as goal

pub invariant_of-self-in-Some : goal.invariant_of-self-in-Some
invariant_of-self-in-Some g c =
    let i = c.self.invariant in
    let frames = λ (w : WaitingSeen). w.frames in
    (i.0, i.1, i.2, i.3, mailed_lists frames c.make_room.new.waiting.items c.send_all-count.new.waiting.items c.in-Some.frames c.send_all-count.ensures.mailed ∙ same_lists frames c.self.inside.waiting.items c.make_room.new.waiting.items c.make_room.ensures.frames ∙ i.4)

pub returns-in_ok-make_room-in-Some : goal.returns-in_ok-make_room-in-Some
returns-in_ok-make_room-in-Some g c =
    let items = c.self.inside.nodes.items in
    let inside : c.args.place < length items = omega (arith, c.if-place-len.false, c.len.ensures, c.self.inside.nodes.ok.0) in
    let at = slice_get_read items (length items) c.args.place c.index.result.now refl inside c.index.ensures in
    let s = sends_some g.F.Spelt.reading c.index.result.now c.post_at.result c.in_ok-frames.field-0 c.in_ok-frames.was c.post_at.ensures c.in-Some.frames c.in-Some.is in
    let room = c.make_room.ensures.frames in
    rw (← c.self.view_is)
    (inr (
      c.index.result.now,
      at,
      posting the_row.Denot g.F.Spelt.reading c.index.result.now c.in-Some.frames s items (map (λ (w : WaitingSeen). w.frames) c.self.inside.waiting.items) c.self.inside.now.0 c.send_all-count.result (map (λ (w : WaitingSeen). w.frames) c.send_all-count.new.waiting.items)
          (c.send_all-count.ensures.count ∙ ap (count_fresh c.in-Some.frames) room) (c.send_all-count.ensures.mailed ∙ ap (mailed c.in-Some.frames) room),
    ))

pub returns-in-None : goal.returns-in-None
returns-in-None g c =
    let items = c.self.inside.nodes.items in
    let inside : c.args.place < length items = omega (arith, c.if-place-len.false, c.len.ensures, c.self.inside.nodes.ok.0) in
    let at = slice_get_read items (length items) c.args.place c.index.result.now refl inside c.index.ensures in
    let none = sends_none g.F.Spelt.reading c.index.result.now c.post_at.result c.in_ok-frames.field-0 c.in_ok-frames.was c.post_at.ensures c.in-None.is in
    rw (← c.self.view_is) (inr (c.index.result.now, at, (refl, none, refl)))

pub returns-in_err-frames : goal.returns-in_err-frames
returns-in_err-frames g c =
    let items = c.self.inside.nodes.items in
    let inside : c.args.place < length items = omega (arith, c.if-place-len.false, c.len.ensures, c.self.inside.nodes.ok.0) in
    let at = slice_get_read items (length items) c.args.place c.index.result.now refl inside c.index.ensures in
    rw (← c.self.view_is) (post_left g.F.Spelt.reading c.args.place c.index.result.now _ _ c.from_residual.result c.from_residual.ensures.0 at c.in_err-frames.ensures refl)

pub invariant_of-self : goal.invariant_of-self
invariant_of-self g c =
    let i = c.self.invariant in
    (i.0, i.1, i.2, i.3, same_lists (λ (w : WaitingSeen). w.frames) c.self.inside.waiting.items c.make_room.new.waiting.items c.make_room.ensures.frames ∙ i.4)

pub returns-in_err-make_room-in-Some : goal.returns-in_err-make_room-in-Some
returns-in_err-make_room-in-Some g c =
    let items = c.self.inside.nodes.items in
    let inside : c.args.place < length items = omega (arith, c.if-place-len.false, c.len.ensures, c.self.inside.nodes.ok.0) in
    let at = slice_get_read items (length items) c.args.place c.index.result.now refl inside c.index.ensures in
    let s = sends_some g.F.Spelt.reading c.index.result.now c.post_at.result c.in_ok-frames.field-0 c.in_ok-frames.was c.post_at.ensures c.in-Some.frames c.in-Some.is in
    let up = up_by the_row.Denot g.F.Spelt.reading c.index.result.now c.in-Some.frames s in
    rw (← c.self.view_is)
    (post_left g.F.Spelt.reading c.args.place c.index.result.now _ _ c.from_residual-in_err-make_room-in-Some.result c.from_residual-in_err-make_room-in-Some.ensures.0 at up
    (ap (λ l. record { nodes = items; waiting = l; now = c.self.inside.now.0 }) c.make_room.ensures.frames))

pub send_all-count-requires : goal.send_all-count-requires
send_all-count-requires g c = rw c.len-in-Some.ensures at c.in_ok-make_room-in-Some.ensures.room
