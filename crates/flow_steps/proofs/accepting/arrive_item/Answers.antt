use Rattle.std.proofs.Common.{◌<◌, ◌^◌, arith}
use Rattle.flow_steps.proofs.Limits.{few_short}
use Rattle.flow_steps.proofs.Commits.{arrive_ready}
use Rattle.flow_steps.proofs.accepting.arrive_item.Goals as goal

pub returns-clause-ready : goal.returns-clause-ready
returns-clause-ready g c = λ id at s session stands next.
    let h = c.arrive.ensures.limits c.requires.body in
    let small : c.args.direction < 256 = omega (arith, c.ranges.direction.fits) in
    let few : c.args.number < 2 ^ 32 = omega (arith, c.ranges.number.fits) in
    rw c.whole.ensures (arrive_ready g.F.FlowSet.machine g.F.Spelt.reading id at g.F.Spelt.within c.args.stamp c.args.now c.args.key c.args.direction c.args.number c.args.body c.arrive.result c.requires.key small few c.arrive.ensures.change h
    (few_short c.arrive.result h.0 (omega (arith, c.arrive.ensures.room)))
    s session stands next)
