use Rattle.std.proofs.Common.{arith}
use Rattle.net_base.specs.Reading.{IsBytes}
use Rattle.net_base.proofs.Whole.{is_whole, unread_none, longer_none}
use Rattle.net_base.proofs.spelt.decode_if_spelt.Goals as goal

pub returns-then-remaining-gt0 : goal.returns-then-remaining-gt0
returns-then-remaining-gt0 g c =
    let bytes = c.args.bytes.now in
    let fits : IsBytes bytes = λ i. omega (arith, c.type_inv.bytes i) in
    let h = rw c.new-from.ensures at c.in-Ok.ensures in
    longer_none g.met.T.Spelt.laws bytes c.read_part.new.from.left c.in-Ok.value fits h.0 (omega (arith, c.remaining.ensures.count))

pub returns-else-remaining-gt0 : goal.returns-else-remaining-gt0
returns-else-remaining-gt0 g c =
    let bytes = c.args.bytes.now in
    let fits : IsBytes bytes = λ i. omega (arith, c.type_inv.bytes i) in
    let h = rw c.new-from.ensures at c.in-Ok.ensures in
    is_whole g.met.T.Spelt.laws bytes c.read_part.new.from.left c.in-Ok.value fits h.0 (omega (arith, c.remaining.ensures.count))

pub returns-in-Err-Left : goal.returns-in-Err-Left
returns-in-Err-Left g c =
    let h = rw (c.in-Err-Left.field-0-is, c.new-from.ensures) at c.in-Err-Left.ensures in
    unread_none g.met.T.Spelt.laws c.args.bytes.now c.in-Err-Left.field-0-0 h
