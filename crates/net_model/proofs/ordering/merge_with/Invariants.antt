use Rattle.std.proofs.Common.{length, ◌≡◌, ◌≤◌, ◌++◌, drop}
use Rattle.net_model.specs.Runs.{merged_with, lent}
use Rattle.net_model.proofs.ordering.merge_with.Given as goal

abbrev pub invariant-loop-other : goal.invariant-loop-other
invariant-loop-other l =
    (l.place ≤ length l.causes)
    × (lent l.all.items ++ merged_with l.node (drop l.place l.causes) (lent l.other-iterator.rest.items) ≡ merged_with l.node l.causes (lent l.fn.later.items))
    × (goal.iterator-loop-other).can_next l.other-iterator
    × (goal.iterator-loop-other).is_finite l.other-iterator
