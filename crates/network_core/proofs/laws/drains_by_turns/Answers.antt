use Rattle.network_core.proofs.Quieting.{drains_by_turns}
use Rattle.network_core.proofs.laws.drains_by_turns.Goals as goal

pub returns : goal.returns
returns g c = drains_by_turns
