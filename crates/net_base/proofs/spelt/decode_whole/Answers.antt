use Rattle.std.proofs.Common.{◌-◌, length, refl, arith}
use Rattle.net_base.specs.Reading.{IsBytes}
use Rattle.net_base.proofs.Whole.{fault_left, first_fault, extra_fault, is_whole}
use Rattle.net_base.specs.Laws.{surely}
use Rattle.net_base.proofs.spelt.decode_whole.Goals as goal

pub returns-then-remaining-gt0 : goal.returns-then-remaining-gt0
returns-then-remaining-gt0 g c =
    let bytes = c.args.bytes.now in
    let fits : IsBytes bytes = λ i. omega (arith, c.type_inv.bytes i) in
    let h = rw c.new-from.ensures at c.in-Ok.ensures in
    let rest = c.read_part.new.from.left in
    extra_fault (surely c.requires.sure g.met.T.Spelt.laws) bytes rest c.in-Ok.value c.place.result fits h.0 (omega (arith, c.remaining.ensures.count)) (omega (arith, c.place.ensures.place, h.1))

pub returns-else-remaining-gt0 : goal.returns-else-remaining-gt0
returns-else-remaining-gt0 g c =
    let bytes = c.args.bytes.now in
    let fits : IsBytes bytes = λ i. omega (arith, c.type_inv.bytes i) in
    let h = rw c.new-from.ensures at c.in-Ok.ensures in
    is_whole (surely c.requires.sure g.met.T.Spelt.laws) bytes c.read_part.new.from.left c.in-Ok.value fits h.0 (omega (arith, c.remaining.ensures.count))

pub overflow_sub-result : goal.overflow_sub-result
overflow_sub-result g c =
    let bytes = c.args.bytes.now in
    let fits : IsBytes bytes = λ i. omega (arith, c.type_inv.bytes i) in
    let h = rw (c.in-Left.is, c.new-from.ensures) at c.in-Err.ensures in
    fault_left (g.met.T.Spelt.laws.faults c.requires.sure bytes c.in-Left.left fits h)

pub returns-in-Left : goal.returns-in-Left
returns-in-Left g c =
    let bytes = c.args.bytes.now in
    let fits : IsBytes bytes = λ i. omega (arith, c.type_inv.bytes i) in
    let h = rw (c.in-Left.is, c.new-from.ensures) at c.in-Err.ensures in
    first_fault (surely c.requires.sure g.met.T.Spelt.laws) bytes c.in-Left.left (length bytes - c.in-Left.left) fits h refl
