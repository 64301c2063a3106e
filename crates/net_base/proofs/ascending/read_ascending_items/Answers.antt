use Rattle.std.proofs.Common.{◌-◌, ◌+◌, ℕ, arith}
use Rattle.std.proofs.lemmas.Result.{err_from_is_err_and}
use Rattle.net_base.specs.Runs.{ascending_at}
use Rattle.net_base.proofs.Items.{run_goes_on, run_ends, run_is_done}
use Rattle.net_base.proofs.ascending.read_ascending_items.Goals as goal

pub returns-in_err-item : goal.returns-in_err-item
returns-in_err-item g c =
    let m = g.T.ByParty in
    let r = c.from_residual-in_err-item in
    let p = err_from_is_err_and r.result r.ensures.1 in
    let step = λ (k low : ℕ). m.reading_between low (16 - k) in
    rw (p.1, p.2) (run_ends step (λ low v. m.party_of v + 1) c.in_err-item.field-0.0 c.loop-i.items.items c.args.count c.loop-i.i c.loop-i.low c.loop-i.from.left (ascending_at m.party_of 16 m.reading_between c.args.count c.args.from.now.left) c.loop-i-test.true c.in_err-item.ensures.given c.loop-i.invariant.given)

pub loop-i-preserved : goal.loop-i-preserved
loop-i-preserved g c =
    let m = g.T.ByParty in
    let v = c.in_ok-item.item in
    let step = λ (k low : ℕ). m.reading_between low (16 - k) in
    record {
      given = rw (c.in_ok-push.ensures.items, c.party-low.ensures) (run_goes_on step (λ low v. m.party_of v + 1) c.loop-i.items.items c.args.count c.loop-i.i c.loop-i.low c.loop-i.from.left v c.read_between.new.from.left (ascending_at m.party_of 16 m.reading_between c.args.count c.args.from.now.left) c.loop-i-test.true c.in_ok-item.ensures.given.0 c.loop-i.invariant.given);
      end = omega (arith, c.in_ok-item.ensures.given.1, c.loop-i.invariant.end);
      low = omega (arith, c.in_ok-item.ensures.below, c.party-low.ensures);
    }

pub returns : goal.returns
returns g c =
    let m = g.T.ByParty in
    let step = λ (k low : ℕ). m.reading_between low (16 - k) in
    (run_is_done step (λ low v. m.party_of v + 1) c.loop-i.items.items c.args.count c.loop-i.i c.loop-i.low c.loop-i.from.left (ascending_at m.party_of 16 m.reading_between c.args.count c.args.from.now.left) c.loop-i-test.false c.loop-i.invariant.given, c.loop-i.invariant.end)
