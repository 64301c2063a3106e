use Rattle.cash_flows.proofs.Taken.{taken_in_order}
use Rattle.cash_flows.proofs.laws.options_in_order.Goals as goal

pub returns : goal.returns
returns c = taken_in_order
