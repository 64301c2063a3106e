use Rattle.deal_flows.proofs.Telling.{refact_is_accepted}
use Rattle.deal_flows.proofs.laws.refact_is_accepted.Goals as goal

pub returns : goal.returns
returns c = refact_is_accepted
