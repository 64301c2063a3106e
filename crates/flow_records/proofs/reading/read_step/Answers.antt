use Rattle.std.proofs.Common.{arith}
use Rattle.net_base.specs.Reading.{IsBytes}
use Rattle.flow_records.proofs.Meaning.{spelt_means, unspelt_means}
use Rattle.flow_records.proofs.reading.read_step.Goals as goal

pub returns-in-Ok-clause-tells : goal.returns-in-Ok-clause-tells
returns-in-Ok-clause-tells g c =
    let read = c.in-Ok.ensures.record in
    rw (spelt_means g.F.Spelt.reading c.args.bytes.now c.in-Ok.cause c.in-Ok.effect read.0 read.1) c.step_of.ensures.tells

pub returns-in-Err-Malformed-clause-tells : goal.returns-in-Err-Malformed-clause-tells
returns-in-Err-Malformed-clause-tells g c =
    let bytes = c.args.bytes.now in
    let fits : IsBytes bytes = λ i. omega (arith, c.type_inv.bytes i) in
    let none = rw c.in-Err-Malformed.field-0-is at c.in-Err-Malformed.ensures.record in
    unspelt_means g.F.Spelt.reading bytes fits none.1
