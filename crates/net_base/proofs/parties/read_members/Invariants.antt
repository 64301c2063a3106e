use Rattle.net_base.specs.Parts.{SameEnd}
use Rattle.net_base.proofs.Sets.{Partly}
use Rattle.net_base.proofs.parties.read_members.Given as goal

abbrev pub invariant-loop-i : goal.invariant-loop-i
invariant-loop-i l = record { partly : Partly l.count l.i l.low l.from.left l.bits l.fn.from.left; end : SameEnd l.fn.from l.from }
