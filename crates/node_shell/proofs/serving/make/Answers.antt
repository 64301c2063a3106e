use Rattle.net_model.specs.Environment.{meaning}
use Rattle.node_shell.proofs.Asked.{told, untold, told_so, untold_so}
use Rattle.node_shell.proofs.serving.make.Goals as goal

pub returns-in_err-apply-clause-serves : goal.returns-in_err-apply-clause-serves
returns-in_err-apply-clause-serves g c = untold (meaning g.F.FlowSet.machine g.F.Spelt.reading (g.J.Judge.judges c.args.contracts.now)) c.args.net.now c.apply.new.self c.args.step.now c.from_residual.result c.from_residual.ensures.0 c.in_err-apply.ensures.serves

pub returns-in_err-apply-clause-responds : goal.returns-in_err-apply-clause-responds
returns-in_err-apply-clause-responds g c = untold_so (meaning g.F.FlowSet.machine g.F.Spelt.reading (g.J.Judge.judges c.args.contracts.now)) c.args.net.now c.apply.new.self c.args.step.now c.from_residual.result c.in_err-apply.field-0.0 c.from_residual.ensures.0 c.in_err-apply.ensures.answers c.in_err-apply.ensures.pairs

pub returns-clause-serves : goal.returns-clause-serves
returns-clause-serves g c = told (meaning g.F.FlowSet.machine g.F.Spelt.reading (g.J.Judge.judges c.args.contracts.now)) c.args.net.now c.apply.new.self c.args.step.now c.in_ok-apply.field-0 c.in_ok-apply.ensures.serves

pub returns-clause-responds : goal.returns-clause-responds
returns-clause-responds g c = told_so (meaning g.F.FlowSet.machine g.F.Spelt.reading (g.J.Judge.judges c.args.contracts.now)) c.args.net.now c.apply.new.self c.args.step.now c.apply.result c.in_ok-apply.field-0 c.in_ok-apply.was c.apply.ensures.answers c.in_ok-apply.ensures.pairs
