use Rattle.contract_laws.proofs.Placed.{all_value_kept}
use Rattle.contract_laws.proofs.laws.recorded_cash_is_conserved.Goals as goal

pub returns : goal.returns
returns g c = λ m frame_at contracts cash. all_value_kept m frame_at contracts cash
