use Rattle.deal_flows.proofs.Telling.{fact_is_accepted}
use Rattle.deal_flows.proofs.laws.fact_is_accepted.Goals as goal

pub returns : goal.returns
returns c = fact_is_accepted
