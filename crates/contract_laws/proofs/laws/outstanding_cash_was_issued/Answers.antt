use Rattle.contract_laws.proofs.Placed.{all_accounted}
use Rattle.contract_laws.proofs.laws.outstanding_cash_was_issued.Goals as goal

pub returns : goal.returns
returns g c = λ contracts cash. all_accounted _ _ contracts cash g.met.F.FlowSet.keeps_tags g.met.F.FlowSet.begins_bare
