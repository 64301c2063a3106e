use Rattle.cash_flows.proofs.Exiting.{exit_is_accepted}
use Rattle.cash_flows.proofs.laws.exit_is_accepted.Goals as goal

pub returns : goal.returns
returns c = exit_is_accepted
