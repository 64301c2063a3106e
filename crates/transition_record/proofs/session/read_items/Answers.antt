use Rattle.std.proofs.Common.{arith}
use Rattle.std.proofs.lemmas.Result.{err_from_is_err_and}
use Rattle.std.proofs.lemmas.List.{length_push}
use Rattle.net_base.specs.Forms.{items_at}
use Rattle.net_base.proofs.Items.{goes_on, ends, is_done}
use Rattle.transition_record.specs.Changes.{sent_item_at}
use Rattle.transition_record.proofs.session.read_items.Goals as goal

pub returns-in_err-read_sent_item :
    goal.returns-in_err-read_sent_item
returns-in_err-read_sent_item c =
    let r = c.from_residual-in_err-read_sent_item in
    let p = err_from_is_err_and r.result r.ensures.1 in
    rw (p.1, p.2) (ends sent_item_at c.in_err-read_sent_item.field-0.0 c.loop.items.items c.args.count c.loop.counter c.loop.from.left (items_at sent_item_at c.args.count c.args.from.now.left) c.loop-test.true c.in_err-read_sent_item.ensures c.loop.invariant.given)

pub loop-preserved : goal.loop-preserved
loop-preserved c =
    let v = c.in_ok-read_sent_item.field-0 in
    record {
      given = rw c.in_ok-push.ensures.items (goes_on sent_item_at c.loop.items.items c.args.count c.loop.counter c.loop.from.left v c.read_sent_item.new.from.left (items_at sent_item_at c.args.count c.args.from.now.left) c.loop-test.true c.in_ok-read_sent_item.ensures.0 c.loop.invariant.given);
      end = omega (arith, c.in_ok-read_sent_item.ensures.1, c.loop.invariant.end);
      few = rw c.in_ok-push.ensures.items (omega (arith, length_push c.loop.items.items v, c.loop.invariant.few));
    }

pub returns : goal.returns
returns c =
    (is_done sent_item_at c.loop.items.items c.args.count c.loop.counter c.loop.from.left (items_at sent_item_at c.args.count c.args.from.now.left) c.loop-test.false c.loop.invariant.given, c.loop.invariant.end)
