use Rattle.net_model.specs.Environment.{Judgement, meaning}
use Rattle.std.proofs.Common.{◌≡◌, ◌≤◌, length}
use Rattle.network_core.specs.Drains.{Drives}
use Rattle.network_core.specs.Rounds.{InOrder, PostsAt}
use Rattle.network_core.proofs.net.Net.posts.Given as goal

abbrev pub invariant-places : goal.invariant-places
invariant-places g l = record {
  drives : (judge : Judgement) → Drives (meaning g.F.FlowSet.machine g.F.Spelt.reading judge) l.fn.self l.self (λ W s w v. InOrder (PostsAt s) l.place 0 w v);
  within : l.place ≤ length l.fn.self.nodes;
  count : length l.self.nodes ≡ length l.fn.self.nodes;
}
