use Rattle.network_core.proofs.KeepingWays.{kept_on_ways}
use Rattle.network_core.proofs.laws.kept_on_ways.Goals as goal

pub returns : goal.returns
returns g c = kept_on_ways
