use Rattle.ledger_acts.proofs.Judging.{jobs_are_within}
use Rattle.ledger_acts.proofs.laws.jobs_are_within.Goals as goal

pub returns : goal.returns
returns g c = jobs_are_within g.F.Spelt.within
