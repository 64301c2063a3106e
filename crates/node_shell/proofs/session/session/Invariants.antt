use Rattle.net_model.specs.Environment.{meaning}
use Rattle.std.proofs.Common.{◌≡◌, ◌≤◌, length}
use Rattle.node_shell.specs.Responds.{NetLink}
use Rattle.node_shell.specs.Story.{Progress}
use Rattle.node_shell.proofs.session.session.Given as goal

abbrev pub invariant-bytes : goal.invariant-bytes
invariant-bytes g l = record {
  progress : Progress (NetLink (meaning g.F.FlowSet.machine g.F.Spelt.reading (g.J.Judge.judges l.contracts))) l.fn.net (g.S.Source.left l.fn.source) (g.S.Source.left l.source) (g.K.Sink.written l.fn.sink) (g.K.Sink.written l.sink) l.count l.net l.line.items;
  within : l.count ≤ 16777216;
  nodes : length l.net.nodes ≡ length l.fn.net.nodes;
  reads : g.S.Source.faults l.fn.source ≤ g.S.Source.faults l.source;
  writes : g.K.Sink.faults l.fn.sink ≤ g.K.Sink.faults l.sink;
}
