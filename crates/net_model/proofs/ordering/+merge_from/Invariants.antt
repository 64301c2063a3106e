use Rattle.std.proofs.Common.{length}
use Rattle.net_model.proofs.ordering.+merge_from.Given as goal

abbrev pub decreases-merge_from : goal.decreases-merge_from
decreases-merge_from l = length l.lists.now
