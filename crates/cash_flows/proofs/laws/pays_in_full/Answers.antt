use Rattle.cash_flows.proofs.Value.{pays_in_full}
use Rattle.cash_flows.proofs.laws.pays_in_full.Goals as goal

pub returns : goal.returns
returns c = pays_in_full
