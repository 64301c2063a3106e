use Rattle.coin_select.specs.Picking.{HaveSoFar}
use Rattle.coin_select.proofs.pick.Given as goal

abbrev pub invariant-loop-i : goal.invariant-loop-i
invariant-loop-i l = HaveSoFar l.coins l.amount l.i l.have
