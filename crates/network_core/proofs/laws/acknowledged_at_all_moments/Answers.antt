use Rattle.network_core.proofs.KeepingCauses.{acknowledged_at_all_moments}
use Rattle.network_core.proofs.laws.acknowledged_at_all_moments.Goals as goal

pub returns : goal.returns
returns g c = acknowledged_at_all_moments
