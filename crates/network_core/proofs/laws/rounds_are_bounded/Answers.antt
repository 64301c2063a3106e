use Rattle.network_core.proofs.Lowering.{rounds_are_bounded}
use Rattle.network_core.proofs.laws.rounds_are_bounded.Goals as goal

pub returns : goal.returns
returns g c = rounds_are_bounded g.F.FlowSet.machine g.met.F.FlowSet.falls g.met.F.FlowSet.load_holds g.met.F.FlowSet.overs_hold
