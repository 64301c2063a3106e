use Rattle.contract_laws.proofs.Placed.{all_signed_for}
use Rattle.contract_laws.proofs.laws.recorded_cash_is_signed_for.Goals as goal

pub returns : goal.returns
returns g c = λ m frame_at contracts cash. all_signed_for m frame_at contracts cash
