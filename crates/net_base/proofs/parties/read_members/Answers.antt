use Rattle.std.proofs.Common.{◌<◌, refl, arith}
use Rattle.std.proofs.lemmas.Result.{err_from_is_err_and}
use Rattle.net_base.proofs.Sets.{partly_none, partly_fits, partly_more, partly_done, partly_ends}
use Rattle.net_base.proofs.parties.read_members.Goals as goal

pub loop-i-init : goal.loop-i-init
loop-i-init c = record { partly = partly_none c.args.count c.args.from.now.left; end = refl }

pub overflow_add-bits : goal.overflow_add-bits
overflow_add-bits c =
    let range = c.in_ok-party.ensures.range in
    let fits = partly_fits c.in_ok-party.party c.loop-i.bits c.loop-i.low c.loop-i.invariant.partly.small range.0 (omega (arith, range.1)) in
    omega (arith, fits, c.pow-bits.ensures)

pub loop-i-preserved : goal.loop-i-preserved
loop-i-preserved c =
    let l = c.loop-i in
    let p = c.in_ok-party.party in
    let range = c.in_ok-party.ensures.range in
    let top : p < 16 = omega (arith, range.1) in
    record {
      partly = rw c.pow-bits.ensures (partly_more c.args.count l.i l.low l.from.left l.bits c.args.from.now.left p c.read_between.new.from.left l.invariant.partly c.loop-i-test.true c.in_ok-party.ensures.given.0 range.0 top);
      end = omega (arith, c.in_ok-party.ensures.given.1, l.invariant.end);
    }

pub returns-in_err-party : goal.returns-in_err-party
returns-in_err-party c =
    let l = c.loop-i in
    let p = err_from_is_err_and c.from_residual.result c.from_residual.ensures.1 in
    rw (p.1, p.2) (partly_ends c.in_err-party.field-0.0 c.args.count l.i l.low l.from.left l.bits c.args.from.now.left l.invariant.partly c.loop-i-test.true c.in_err-party.ensures.given)

pub returns : goal.returns
returns c = let l = c.loop-i in (partly_done c.args.count l.i l.low l.from.left l.bits c.args.from.now.left l.invariant.partly c.loop-i-test.false, l.invariant.end)
