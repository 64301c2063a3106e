use Rattle.network_core.proofs.Leaving.{left_is_coherent}
use Rattle.network_core.proofs.laws.left_is_coherent.Goals as goal

pub returns : goal.returns
returns g c = left_is_coherent
