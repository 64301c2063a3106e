use Rattle.vault.proofs.Marking.{Marked}
use Rattle.vault.specs.Holdings.{freed_of}
use Rattle.vault.proofs.states.free_each.Given as goal

abbrev pub invariant-loop-held : goal.invariant-loop-held
invariant-loop-held l = Marked (freed_of l.flow) l.fn.states l.states l.held-index
