use Rattle.std.proofs.Common.{arith}
use Rattle.flow_records.proofs.Checkpoints.{live_is, ended_is, failed_is}
use Rattle.flow_records.proofs.spelling.part_of_flow.Goals as goal

pub returns-in_ok-spell_checkpoint-in-Live : goal.returns-in_ok-spell_checkpoint-in-Live
returns-in_ok-spell_checkpoint-in-Live g c =
    let limits = rw c.in-Live.is at c.requires.limits in
    let own = rw c.in-Live.is at c.requires.own in
    rw c.in-Live.is (live_is g.F.Spelt.within g.F.Spelt.spelling g.F.Spelt.reading g.F.FlowSet.machine g.met.F.Spelt.laws g.met.F.FlowSet.spells_content c.args.number c.in-Live.at c.in_ok-spell_checkpoint-in-Live.field-0 limits own c.in_ok-spell_checkpoint-in-Live.ensures)

pub returns-in_ok-copy-in-Ended : goal.returns-in_ok-copy-in-Ended
returns-in_ok-copy-in-Ended g c =
    let limits = rw c.in-Ended.is at c.requires.limits in
    rw (c.in-Ended.is, c.in_ok-copy-in-Ended.ensures) (ended_is g.F.Spelt.reading c.args.number c.in-Ended.step c.in-Ended.class c.in-Ended.value (omega (arith, c.ranges.number.fits)) limits.0 limits.1.0 limits.1.1)

pub returns-in-Failed : goal.returns-in-Failed
returns-in-Failed g c =
    let limits = rw c.in-Failed.is at c.requires.limits in
    rw c.in-Failed.is (failed_is g.F.Spelt.reading c.args.number c.in-Failed.step c.in-Failed.class c.in-Failed.code (omega (arith, c.ranges.number.fits)) limits.0 limits.1.0 limits.1.1)
