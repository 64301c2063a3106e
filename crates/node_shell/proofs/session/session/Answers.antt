use Rattle.net_model.specs.Environment.{meaning}
use Rattle.std.proofs.Common.{arith, refl, ◌∙◌}
use Rattle.node_shell.proofs.Stories.{progress_start}
use Rattle.node_shell.proofs.Together.{run_in}
use Rattle.node_shell.proofs.session.session.Goals as goal

pub bytes-init : goal.bytes-init
bytes-init g c = record {
  progress = rw c.new-line.ensures.items (progress_start (g.S.Source.left c.args.source.now) (g.K.Sink.written c.args.sink.now));
  within = omega arith;
  nodes = refl;
  reads = omega arith;
  writes = omega arith;
}

pub returns-in-Err-clause-went : goal.returns-in-Err-clause-went
returns-in-Err-clause-went g c = c.in-Err.ensures.err c.args.net.now _ _ c.bytes.invariant.progress

pub returns-in-Err-clause-ran : goal.returns-in-Err-clause-ran
returns-in-Err-clause-ran g c id start shows coherent =
    run_in (meaning g.F.FlowSet.machine g.F.Spelt.reading (g.J.Judge.judges c.args.contracts.now)) id c.args.net.now start shows coherent _ _ _ _ _ _ _ (c.in-Err.ensures.err c.args.net.now _ _ c.bytes.invariant.progress)

pub bytes-preserved : goal.bytes-preserved
bytes-preserved g c = record {
  progress = c.in_default.ensures.ok c.args.net.now _ _ c.bytes.invariant.progress;
  within = omega (arith, c.in_default.ensures.within);
  nodes = c.take_byte.ensures.count ∙ c.bytes.invariant.nodes;
  reads = omega (arith, c.take_byte.ensures.later.0, c.bytes.invariant.reads);
  writes = omega (arith, c.take_byte.ensures.later.1, c.bytes.invariant.writes);
}
