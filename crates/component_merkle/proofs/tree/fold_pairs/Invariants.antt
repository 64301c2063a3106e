use Rattle.std.proofs.Common.{◌≡◌, ℕ, ◌<◌, ◌≤◌, [], slice_index_or}
use Rattle.component_merkle.specs.Levels.{pair_at}
use Rattle.component_merkle.proofs.tree.fold_pairs.Given as goal

abbrev pub invariant-loop-i : goal.invariant-loop-i
invariant-loop-i l =
    ((k : ℕ) → k < l.i → slice_index_or l.leaves k [] ≡ pair_at l.pad l.initial.leaves k)
    × ((k : ℕ) → l.i ≤ k → slice_index_or l.leaves k [] ≡ slice_index_or l.initial.leaves k [])
