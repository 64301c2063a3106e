use Rattle.ledger_acts.proofs.Judging.{job_stays}
use Rattle.ledger_acts.proofs.laws.job_stays.Goals as goal

pub returns : goal.returns
returns g c = job_stays
