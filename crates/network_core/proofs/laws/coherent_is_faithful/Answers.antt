use Rattle.network_core.proofs.Faithful.{coherent_is_faithful}
use Rattle.network_core.proofs.laws.coherent_is_faithful.Goals as goal

pub returns : goal.returns
returns g c = coherent_is_faithful
