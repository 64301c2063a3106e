use Rattle.flow_records.proofs.Stepping.{step_is}
use Rattle.flow_records.proofs.reading.step_of.Goals as goal

pub returns-clause-tells : goal.returns-clause-tells
returns-clause-tells g c =
    rw c.joined.ensures (step_is g.F.Spelt.reading g.F.Spelt.within c.args.cause c.args.effect c.in_ok-told.told c.requires.cause c.requires.effect.1.0 c.requires.effect.1.1 c.in_ok-told.ensures.tells c.in_ok-told.ensures.own)
