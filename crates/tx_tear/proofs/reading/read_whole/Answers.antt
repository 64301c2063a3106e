use Rattle.std.proofs.Common.{arith}
use Rattle.net_base.specs.Reading.{IsBytes}
use Rattle.tx_tear.proofs.reading.read_whole.Goals as goal

pub returns-then-remaining-eq0-clause-limits : goal.returns-then-remaining-eq0-clause-limits
returns-then-remaining-eq0-clause-limits g c =
    let bytes = c.args.bytes.now in
    let fits : IsBytes bytes = λ i. omega (arith, c.type_inv.bytes i) in
    let h = rw c.new-from.ensures at c.in-Ok.ensures in
    (g.met.T.Spelt.laws.takes bytes (c.in-Ok.value, c.read_part.new.from.left) fits h.0).1
