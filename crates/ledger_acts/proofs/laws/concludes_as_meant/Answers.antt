use Rattle.ledger_acts.proofs.Concluded.{concludes_as_meant}
use Rattle.ledger_acts.proofs.laws.concludes_as_meant.Goals as goal

pub returns : goal.returns
returns g c = concludes_as_meant
