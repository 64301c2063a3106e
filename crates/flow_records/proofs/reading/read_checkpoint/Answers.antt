use Rattle.std.proofs.Common.{arith}
use Rattle.net_base.specs.Reading.{IsBytes}
use Rattle.flow_machine.specs.Checkpoints.{checkpoint_laws}
use Rattle.flow_records.proofs.Whole.{whole_of, if_ok}
use Rattle.flow_records.proofs.Checkpoints.{decoded_own}
use Rattle.flow_records.proofs.reading.read_checkpoint.Goals as goal

pub returns-clause-read : goal.returns-clause-read
returns-clause-read g c =
    let bytes = c.args.bytes.now in
    let fits : IsBytes bytes = λ i. omega (arith, c.type_inv.bytes i) in
    if_ok c.decode_if_spelt.result (whole_of (checkpoint_laws g.met.F.Spelt.laws) bytes fits) c.decode_if_spelt.ensures

pub returns-clause-own : goal.returns-clause-own
returns-clause-own g c =
    if_ok c.decode_if_spelt.result (decoded_own g.F.Spelt.within g.F.Spelt.spelling c.args.bytes.now) c.decode_if_spelt.ensures
