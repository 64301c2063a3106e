use Rattle.network_core.proofs.KeepingWays.{ways_move_one_by_one}
use Rattle.network_core.proofs.laws.ways_move_one_by_one.Goals as goal

pub returns : goal.returns
returns g c = ways_move_one_by_one
