use Rattle.cash_flows.proofs.Exiting.{reserved_exit_is_accepted}
use Rattle.cash_flows.proofs.laws.reserved_exit_is_accepted.Goals as goal

pub returns : goal.returns
returns c = reserved_exit_is_accepted
