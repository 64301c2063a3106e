use Rattle.contract_laws.proofs.Placed.{all_claimed}
use Rattle.contract_laws.proofs.laws.recorded_facts_were_signed_for.Goals as goal

pub returns : goal.returns
returns g c = λ m frame_at contracts facts. all_claimed m frame_at contracts facts
