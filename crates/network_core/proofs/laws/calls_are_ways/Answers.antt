use Rattle.network_core.proofs.KeepingCalls.{calls_are_ways}
use Rattle.network_core.proofs.laws.calls_are_ways.Goals as goal

pub returns : goal.returns
returns g c = calls_are_ways
