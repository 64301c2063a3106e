use Rattle.vault.proofs.Marking.{Marked}
use Rattle.vault.specs.Holdings.{locked_in}
use Rattle.vault.proofs.states.lock_each.Given as goal

abbrev pub invariant-loop-held : goal.invariant-loop-held
invariant-loop-held l = Marked (locked_in l.flow l.refs) l.fn.states l.states l.held-index
