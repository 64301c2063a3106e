use Rattle.cash_contract.proofs.Conserved.{conserves}
use Rattle.cash_contract.proofs.law.accepted_conserves_value.Goals as goal

pub returns : goal.returns
returns c = conserves
