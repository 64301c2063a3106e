use Rattle.net_model.specs.Environment.{meaning}
use Rattle.std.proofs.Common.{◌∙◌}
use Rattle.node_shell.proofs.Loaded.{all_made, one_broke}
use Rattle.node_shell.proofs.loads.start_and_drain.Goals as goal

pub returns-then-apply_all-clause-ok : goal.returns-then-apply_all-clause-ok
returns-then-apply_all-clause-ok g c =
    all_made (meaning g.F.FlowSet.machine g.F.Spelt.reading (g.J.Judge.judges c.args.contracts.now)) c.args.net.now c.apply_all.new.self c.args.starts.items c.as_slice.result.now c.apply_all.new.outcomes.items c.apply_all.result
    (c.as_slice.ensures.value ∙ c.in_ok-push.ensures.items) c.apply_all.ensures.answers c.apply_all.ensures.pairs c.if-apply_all.true

pub returns-clause-err : goal.returns-clause-err
returns-clause-err g c =
    one_broke (meaning g.F.FlowSet.machine g.F.Spelt.reading (g.J.Judge.judges c.args.contracts.now)) c.args.net.now c.apply_all.new.self c.args.starts.items c.as_slice.result.now c.apply_all.new.outcomes.items c.apply_all.result
    (c.as_slice.ensures.value ∙ c.in_ok-push.ensures.items) c.apply_all.ensures.answers c.apply_all.ensures.pairs c.if-apply_all.false
