use Rattle.cash_flows.proofs.Spending.{spend_is_accepted}
use Rattle.cash_flows.proofs.laws.spend_is_accepted.Goals as goal

pub returns : goal.returns
returns c = spend_is_accepted
