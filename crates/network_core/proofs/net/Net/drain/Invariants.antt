use Rattle.net_model.specs.Environment.{meaning}
use Rattle.network_core.specs.Drains.{Drives, room}
use Rattle.network_core.proofs.Draining.{SomeRounds}
use Rattle.network_core.proofs.net.Net.drain.Given as goal

abbrev pub invariant-rounds : goal.invariant-rounds
invariant-rounds g l = Drives (meaning g.F.FlowSet.machine g.F.Spelt.reading (g.J.Judge.judges l.contracts)) l.fn.self l.self (λ W s w v. SomeRounds s w v)

abbrev pub decreases-rounds : goal.decreases-rounds
decreases-rounds g l = room l.self
