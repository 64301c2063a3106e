use Rattle.net_model.specs.Environment.{meaning}
use Rattle.std.proofs.Common.{◌≡◌, ◌<◌, length, true}
use Rattle.network_core.specs.Drains.{Drives, room}
use Rattle.network_core.specs.Rounds.{Moves}
use Rattle.network_core.proofs.Draining.{Counts}
use Rattle.network_core.proofs.net.Net.turns_at.Given as goal

abbrev pub invariant-turns : goal.invariant-turns
invariant-turns g l = record {
  drives : Drives (meaning g.F.FlowSet.machine g.F.Spelt.reading (g.J.Judge.judges l.contracts)) l.fn.self l.self (λ W s w v. Counts l.moved (Moves s l.fn.place) w v);
  fell : l.moved ≡ true → room l.self < room l.fn.self;
  count : length l.self.nodes ≡ length l.fn.self.nodes;
}

abbrev pub decreases-turns : goal.decreases-turns
decreases-turns g l = room l.self
