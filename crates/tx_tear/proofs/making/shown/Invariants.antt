use Rattle.std.proofs.Common.{◌≡◌, take, map}
use Rattle.tx_tear.specs.Tearing.{parts_from}
use Rattle.tx_tear.proofs.making.shown.Given as goal

abbrev pub invariant-loop-i : goal.invariant-loop-i
invariant-loop-i g l = l.parts.items ≡ parts_from l.salt l.ordinal 0 (map g.P.Part.text (take l.i l.items))
