use Rattle.std.proofs.Common.{arith, [], ◌∷◌, map}
use Rattle.std.proofs.lemmas.Result.{err_from_is_err_and}
use Rattle.std.proofs.lemmas.List.{length_push, map-append}
use Rattle.std.specs.Arc.{arc_value}
use Rattle.net_base.specs.Forms.{items_at}
use Rattle.net_base.proofs.Items.{goes_on, ends, is_done}
use Rattle.flow_machine.proofs.checkpoint_spelling.read_frames.Goals as goal

pub returns-in_err-read_frame-clause-given :
    goal.returns-in_err-read_frame-clause-given
returns-in_err-read_frame-clause-given g c =
    let r = c.from_residual-in_err-read_frame in
    let p = err_from_is_err_and r.result r.ensures.1 in
    let read = g.F.Spelt.reading in
    rw (p.1, p.2) (ends read c.in_err-read_frame.field-0.0 (map (λ frame. arc_value frame) c.loop.frames.items) c.args.count c.loop.counter c.loop.from.left (items_at read c.args.count c.args.from.now.left) c.loop-test.true c.in_err-read_frame.ensures c.loop.invariant.given)

pub loop-preserved : goal.loop-preserved
loop-preserved g c =
    let v = c.in_ok-read_frame.field-0 in
    let read = g.F.Spelt.reading in
    record {
      given = rw (c.in_ok-push.ensures.items, map-append (λ frame. arc_value frame) c.loop.frames.items (v ∷ [])) (goes_on read (map (λ frame. arc_value frame) c.loop.frames.items) c.args.count c.loop.counter c.loop.from.left (arc_value v) c.read_frame.new.from.left (items_at read c.args.count c.args.from.now.left) c.loop-test.true c.in_ok-read_frame.ensures.0 c.loop.invariant.given);
      end = omega (arith, c.in_ok-read_frame.ensures.1, c.loop.invariant.end);
      few = rw c.in_ok-push.ensures.items (omega (arith, length_push c.loop.frames.items v, c.loop.invariant.few));
    }

pub returns-clause-given : goal.returns-clause-given
returns-clause-given g c =
    let read = g.F.Spelt.reading in
    (is_done read (map (λ frame. arc_value frame) c.loop.frames.items) c.args.count c.loop.counter c.loop.from.left (items_at read c.args.count c.args.from.now.left) c.loop-test.false c.loop.invariant.given, c.loop.invariant.end)
