use Rattle.cash_flows.proofs.Issuing.{issue_is_accepted}
use Rattle.cash_flows.proofs.laws.issue_is_accepted.Goals as goal

pub returns : goal.returns
returns c = issue_is_accepted
