use Rattle.ledger_acts.proofs.Judging.{job_is_the_act}
use Rattle.ledger_acts.proofs.laws.job_is_the_act.Goals as goal

pub returns : goal.returns
returns g c = job_is_the_act
