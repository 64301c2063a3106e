use Rattle.network_core.proofs.KeepingMoments.{ways_have_all_moments}
use Rattle.network_core.proofs.laws.ways_have_all_moments.Goals as goal

pub returns : goal.returns
returns g c = ways_have_all_moments
