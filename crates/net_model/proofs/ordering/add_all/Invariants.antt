use Rattle.std.proofs.Common.{◌≡◌, ◌++◌, drop}
use Rattle.net_model.specs.Runs.{at_node, lent}
use Rattle.net_model.proofs.ordering.add_all.Given as goal

abbrev pub invariant-loop-cause : goal.invariant-loop-cause
invariant-loop-cause l = lent l.all.items ++ at_node l.node (drop l.cause-index l.causes) ≡ lent l.fn.all.items ++ at_node l.node l.causes
