use Rattle.std.proofs.Common.{length}
use Rattle.component_merkle.proofs.tree.+root_padded.Given as goal

abbrev pub decreases-root_padded : goal.decreases-root_padded
decreases-root_padded l = length l.leaves.now
