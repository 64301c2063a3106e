use Rattle.std.proofs.Common.{length}
use Rattle.contract_verify.proofs.judging.+ask.Given as goal

abbrev pub decreases-ask : goal.decreases-ask
decreases-ask g l = length l.contracts.now
