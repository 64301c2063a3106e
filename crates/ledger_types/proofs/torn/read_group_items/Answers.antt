use Rattle.std.proofs.Common.{arith}
use Rattle.std.proofs.lemmas.Result.{err_from_is_err_and}
use Rattle.net_base.specs.Runs.{run_at}
use Rattle.net_base.proofs.Items.{run_goes_on, run_ends, run_is_done}
use Rattle.ledger_types.specs.Torn.{group_step, group_next}
use Rattle.ledger_types.proofs.torn.read_group_items.Goals as goal

pub returns-in_err-group : goal.returns-in_err-group
returns-in_err-group c =
    let l = c.loop in
    let p = err_from_is_err_and c.from_residual-in_err-group.result c.from_residual-in_err-group.ensures.1 in
    rw (p.1, p.2) (run_ends group_step group_next c.in_err-group.field-0.0 l.items.items c.args.count l.counter l.room l.from.left (run_at group_step group_next c.args.count 96 c.args.from.now.left) c.loop-test.true c.in_err-group.ensures.given l.invariant.given)

pub loop-preserved : goal.loop-preserved
loop-preserved c =
    let l = c.loop in
    let g = c.in_ok-group.group in
    record {
      given = rw (c.in_ok-push.ensures.items, c.shown.ensures) (run_goes_on group_step group_next l.items.items c.args.count l.counter l.room l.from.left g c.read_group.new.from.left (run_at group_step group_next c.args.count 96 c.args.from.now.left) c.loop-test.true c.in_ok-group.ensures.given.0 l.invariant.given);
      end = omega (arith, c.in_ok-group.ensures.given.1, l.invariant.end);
      room = omega (arith, l.invariant.room);
    }

pub returns : goal.returns
returns c =
    let l = c.loop in
    (run_is_done group_step group_next l.items.items c.args.count l.counter l.room l.from.left (run_at group_step group_next c.args.count 96 c.args.from.now.left) c.loop-test.false l.invariant.given, l.invariant.end)
