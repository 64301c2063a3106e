use Rattle.cash_flows.proofs.Accepting.{accepted_by_cash}
use Rattle.cash_flows.proofs.laws.accepted_by_cash.Goals as goal

pub returns : goal.returns
returns c = accepted_by_cash
