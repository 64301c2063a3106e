use Rattle.cash_flows.proofs.Exiting.{exits_exactly}
use Rattle.cash_flows.proofs.laws.exits_exactly.Goals as goal

pub returns : goal.returns
returns c = exits_exactly
