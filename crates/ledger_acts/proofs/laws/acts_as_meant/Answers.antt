use Rattle.ledger_acts.proofs.Meant.{acts_as_meant}
use Rattle.ledger_acts.proofs.laws.acts_as_meant.Goals as goal

pub returns : goal.returns
returns g c = acts_as_meant
