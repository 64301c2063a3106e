use Rattle.net_model.specs.Environment.{Judgement, meaning}
use Rattle.std.proofs.Common.{◌≡◌, ◌≤◌, ◌<◌, length, true}
use Rattle.network_core.specs.Drains.{Drives, room}
use Rattle.network_core.specs.Rounds.{Hands}
use Rattle.network_core.proofs.Draining.{Counts}
use Rattle.network_core.proofs.net.Net.deliveries_at.Given as goal

abbrev pub invariant-frames : goal.invariant-frames
invariant-frames g l = record {
  drives : (judge : Judgement) → Drives (meaning g.F.FlowSet.machine g.F.Spelt.reading judge) l.fn.self l.self (λ W s w v. Counts l.moved (Hands s l.fn.place l.counter) w v);
  fell : l.moved ≡ true → room l.self < room l.fn.self;
  count : length l.self.nodes ≡ length l.fn.self.nodes;
  within : l.counter ≤ l.count;
}
