use Rattle.net_model.specs.Environment.{meaning}
use Rattle.std.proofs.Common.{◌≡◌, ◌≤◌, length}
use Rattle.load_maker.specs.Load.{load_of, after_payments}
use Rattle.node_shell.specs.Loads.{Pays}
use Rattle.node_shell.specs.Responds.{net_states}
use Rattle.node_shell.proofs.Drawing.{first}
use Rattle.node_shell.proofs.loads.pay_all.Given as goal

-- the payments so far
abbrev pub invariant-payments : goal.invariant-payments
invariant-payments g l = record {
  maker : l.maker ≡ after_payments l.counter (load_of l.seed (length l.nodes));
  pays : Pays (net_states (meaning g.F.FlowSet.machine g.F.Spelt.reading (g.J.Judge.judges l.contracts))) (first g.F.FlowSet.machine l.nodes (load_of l.seed (length l.nodes)) l.counter) l.paid l.fn.net l.net;
  few : l.paid ≤ l.counter;
  within : l.counter ≤ l.count;
  nodes : length l.net.nodes ≡ length l.fn.net.nodes;
}
