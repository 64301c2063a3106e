use Rattle.contract_laws.proofs.Placed.{all_agreed}
use Rattle.contract_laws.proofs.laws.recorded_debts_were_agreed.Goals as goal

pub returns : goal.returns
returns g c = λ m frame_at contracts ious. all_agreed m frame_at contracts ious
