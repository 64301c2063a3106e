use Rattle.std.proofs.Common.{map, sym, subst}
use Rattle.net_model.specs.Environment.{meaning}
use Rattle.flow_workers.specs.Desks.{Kept}
use Rattle.flow_workers.proofs.Histories.{began}
use Rattle.flow_workers.proofs.desk.Desk.new.Goals as goal

pub invariant_of-result : goal.invariant_of-result
invariant_of-result g c =
    let m = meaning g.F.FlowSet.machine g.F.Spelt.reading g.J.Call.judge in (
      c.requires.of,
      subst (λ n. Kept m g.J.Call.now g.J.Call.came c.args.place n (map (λ p. p.seen) c.args.passes.items) 0) (sym c.new.ensures.node)
          (c.requires.by, began m g.J.Call.now g.J.Call.came c.args.place c.args.node c.args.passes.items c.requires.came c.requires.fresh),
    )
