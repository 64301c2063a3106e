use Rattle.std.proofs.Common.{length, ◌-◌, ◌≡◌, ◌≤◌, ◌++◌, ◌∷◌, ℕ, List, drop}
use Rattle.net_base.specs.declared.causes.Cause.{Cause}
use Rattle.net_model.specs.Runs.{merged_with, lent}
use Rattle.net_model.proofs.ordering.add_until.Given as goal

abbrev pub invariant-loop-place : goal.invariant-loop-place
invariant-loop-place l =
    (l.place ≤ length l.causes)
    × ((rest : List (ℕ × Cause))
    → lent l.all.items ++ merged_with l.node (drop l.place l.causes) ((l.other, l.next) ∷ rest) ≡ lent l.fn.all.items ++ merged_with l.node (drop l.from l.causes) ((l.other, l.next) ∷ rest))

abbrev pub decreases-loop-place : goal.decreases-loop-place
decreases-loop-place l = length l.causes - l.place
