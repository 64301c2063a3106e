use Rattle.ledger_acts.proofs.Judging.{unjudged_as_meant}
use Rattle.ledger_acts.proofs.laws.unjudged_as_meant.Goals as goal

pub returns : goal.returns
returns g c = unjudged_as_meant
