use Rattle.net_model.specs.Environment.{Judgement, meaning}
use Rattle.std.proofs.Common.{◌≡◌, ◌≤◌, ◌<◌, length, true}
use Rattle.network_core.specs.Drains.{Drives, room}
use Rattle.network_core.specs.Rounds.{DeliversAt, InOrder}
use Rattle.network_core.proofs.Draining.{Counts}
use Rattle.network_core.proofs.net.Net.deliveries.Given as goal

abbrev pub invariant-places : goal.invariant-places
invariant-places g l = record {
  drives : (judge : Judgement) → Drives (meaning g.F.FlowSet.machine g.F.Spelt.reading judge) l.fn.self l.self (λ W s w v. Counts l.any_moved (InOrder (DeliversAt s) l.place) w v);
  fell : l.any_moved ≡ true → room l.self < room l.fn.self;
  count : length l.self.nodes ≡ length l.fn.self.nodes;
  within : l.place ≤ length l.fn.self.nodes;
}
