use Rattle.std.proofs.Common.{arith}
use Rattle.std.proofs.lemmas.Result.{err_from_is_err_and}
use Rattle.net_base.specs.Forms.{items_at}
use Rattle.net_base.proofs.Items.{goes_on, ends, is_done}
use Rattle.resolve_flows.proofs.ids.read_items.Goals as goal

pub returns-in_err-read_part :
    goal.returns-in_err-read_part
returns-in_err-read_part g c =
    let r = c.from_residual-in_err-read_part in
    let p = err_from_is_err_and r.result r.ensures.1 in
    let read = g.T.Spelt.reading in
    rw (p.1, p.2) (ends read c.in_err-read_part.field-0.0 c.loop.items.items c.args.len c.loop.counter c.loop.from.left (items_at read c.args.len c.args.from.now.left) c.loop-test.true c.in_err-read_part.ensures c.loop.invariant.given)

pub loop-preserved : goal.loop-preserved
loop-preserved g c =
    let v = c.in_ok-read_part.field-0 in
    let read = g.T.Spelt.reading in
    record {
      given = rw c.in_ok-push.ensures.items (goes_on read c.loop.items.items c.args.len c.loop.counter c.loop.from.left v c.read_part.new.from.left (items_at read c.args.len c.args.from.now.left) c.loop-test.true c.in_ok-read_part.ensures.0 c.loop.invariant.given);
      end = omega (arith, c.in_ok-read_part.ensures.1, c.loop.invariant.end);
    }

pub returns : goal.returns
returns g c =
    let read = g.T.Spelt.reading in
    (is_done read c.loop.items.items c.args.len c.loop.counter c.loop.from.left (items_at read c.args.len c.args.from.now.left) c.loop-test.false c.loop.invariant.given, c.loop.invariant.end)
