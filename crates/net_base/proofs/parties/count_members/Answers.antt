use Rattle.std.proofs.Common.{◌-◌, ap, length, arith}
use Rattle.net_base.specs.Parties.{count_step, no_member}
use Rattle.net_base.proofs.parties.count_members.Goals as goal

pub loop-preserved : goal.loop-preserved
loop-preserved c = let step = count_step c.loop.counter c.loop.rest c.loop-test.true in record { so_far = omega (arith, step, c.loop.invariant.so_far); few = omega arith }

pub returns : goal.returns
returns c = let none = ap length (no_member c.loop.counter (16 - c.loop.counter) c.loop.rest (omega arith)) in omega (arith, none, c.loop.invariant.so_far)
