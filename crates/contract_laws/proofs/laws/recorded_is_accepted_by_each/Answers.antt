use Rattle.contract_laws.proofs.Placed.{all_lawful}
use Rattle.contract_laws.proofs.laws.recorded_is_accepted_by_each.Goals as goal

pub returns : goal.returns
returns g c = λ m frame_at contracts. all_lawful m frame_at contracts
