use Rattle.contract_laws.proofs.Placed.{all_due}
use Rattle.contract_laws.proofs.laws.recorded_time_locks_were_due.Goals as goal

pub returns : goal.returns
returns g c = λ contracts locks. all_due _ _ contracts locks g.met.F.FlowSet.keeps_tags g.met.F.FlowSet.begins_bare
