use Rattle.net_model.specs.Environment.{meaning}
use Rattle.std.proofs.Common.{◌≡◌, ◌≤◌, length, take, vec_capacity, vec_len}
use Rattle.network_core.specs.Following.{Links, NetServe, PairLinks}
use Rattle.network_core.specs.Drains.{KeepsPair}
use Rattle.network_core.proofs.net.Net.apply_all.Given as goal

abbrev pub invariant-steps : goal.invariant-steps
invariant-steps g l = record {
  pairs : KeepsPair (meaning g.F.FlowSet.machine g.F.Spelt.reading (g.J.Judge.judges l.contracts)) l.fn.self l.self (λ id a b. PairLinks (meaning g.F.FlowSet.machine g.F.Spelt.reading (g.J.Judge.judges l.contracts)) id (take l.step-index l.steps) l.outcomes.items a b);
  answers : Links (NetServe (meaning g.F.FlowSet.machine g.F.Spelt.reading (g.J.Judge.judges l.contracts))) (take l.step-index l.steps) l.outcomes.items l.fn.self l.self;
  nodes : length l.self.nodes ≡ length l.fn.self.nodes;
  count : vec_len l.outcomes ≡ l.step-index;
  spare : length l.steps ≤ vec_capacity l.outcomes;
}
