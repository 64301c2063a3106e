use Rattle.cash_flows.proofs.Reserving.{reserved_is_accepted}
use Rattle.cash_flows.proofs.laws.reserved_is_accepted.Goals as goal

pub returns : goal.returns
returns c = reserved_is_accepted
