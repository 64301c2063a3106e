use Rattle.ledger_acts.proofs.Concluded.{settles_as_meant}
use Rattle.ledger_acts.proofs.laws.settles_as_meant.Goals as goal

pub returns : goal.returns
returns g c = settles_as_meant
