use Rattle.std.proofs.Common.{map, ap, ◌∙◌}
use Rattle.net_model.specs.Environment.{meaning}
use Rattle.flow_workers.proofs.Ended.{few_items, worked_on, not_worked, spread_nodes, lists_each}
use Rattle.flow_workers.proofs.working.work.Goals as goal

pub returns-in_default : goal.returns-in_default
returns-in_default g c =
    not_worked (meaning g.F.FlowSet.machine g.F.Spelt.reading (g.C.Judge.judges c.args.contracts.now)) c.args.now.0 c.unworked.result.commits c.args.nodes.items c.unworked.result.nodes.items _ _ c.unworked.result.short c.requires c.unworked.ensures.nodes
    (ap (map (λ w. w.frames)) c.unworked.ensures.waiting ∙ c.set_up.ensures.frames) c.unworked.ensures.commits

pub returns-in-Err : goal.returns-in-Err
returns-in-Err g c =
    not_worked (meaning g.F.FlowSet.machine g.F.Spelt.reading (g.C.Judge.judges c.args.contracts.now)) c.args.now.0 c.unworked-in-Err.result.commits c.args.nodes.items c.unworked-in-Err.result.nodes.items _ _ c.unworked-in-Err.result.short c.requires
    (c.unworked-in-Err.ensures.nodes ∙ c.in-Err.ensures.same) (ap (map (λ w. w.frames)) c.unworked-in-Err.ensures.waiting ∙ c.set_up.ensures.frames) c.unworked-in-Err.ensures.commits

pub put_each-requires-clause-each : goal.put_each-requires-clause-each
put_each-requires-clause-each g c =
    let waited = map (λ w. w.frames) c.args.waiting.items in
    let spread = spread_nodes c.args.waiting.items c.args.nodes.items (map (λ p. p.seen) c.in-Ok.stage.own.items) c.requires.each c.in-Ok.ensures.spread in
    let works = c.in-Ok-work_as.ensures.works waited spread c.requires.each in
    lists_each (meaning g.F.FlowSet.machine g.F.Spelt.reading (g.C.Judge.judges c.args.contracts.now)) c.args.now.0 _ c.args.nodes.items _ c.args.waiting.items c.set_up.new.waiting.items c.in-Ok-work_as.field-0.lists.items c.set_up.ensures.frames works

pub returns-in-Ok-work_as : goal.returns-in-Ok-work_as
returns-in-Ok-work_as g c =
    let waited = map (λ w. w.frames) c.args.waiting.items in
    let spread = spread_nodes c.args.waiting.items c.args.nodes.items (map (λ p. p.seen) c.in-Ok.stage.own.items) c.requires.each c.in-Ok.ensures.spread in
    let works = c.in-Ok-work_as.ensures.works waited spread c.requires.each in
    worked_on (meaning g.F.FlowSet.machine g.F.Spelt.reading (g.C.Judge.judges c.args.contracts.now)) c.args.now.0 c.args.nodes.items c.in-Ok-work_as.field-0.nodes.items c.args.waiting.items c.set_up.new.waiting.items c.put_each.new.waiting.items
    (map (λ v. v.items) c.in-Ok-work_as.field-0.lists.items) c.in-Ok-work_as.field-0.commits c.requires c.set_up.ensures.frames works (few_items c.in-Ok-work_as.field-0.lists.items c.in-Ok-work_as.ensures.few) c.put_each.ensures c.in-Ok-work_as.ensures.by
