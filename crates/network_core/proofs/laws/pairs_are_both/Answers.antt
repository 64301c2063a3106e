use Rattle.network_core.proofs.KeepingCalls.{pairs_are_both}
use Rattle.network_core.proofs.laws.pairs_are_both.Goals as goal

pub returns : goal.returns
returns g c = pairs_are_both
