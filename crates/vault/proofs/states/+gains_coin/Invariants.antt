use Rattle.std.proofs.Common.{length}
use Rattle.vault.proofs.states.+gains_coin.Given as goal

abbrev pub decreases-gains_coin : goal.decreases-gains_coin
decreases-gains_coin l = length l.outputs.now
