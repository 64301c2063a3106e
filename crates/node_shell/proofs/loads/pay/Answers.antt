use Rattle.net_model.specs.Environment.{meaning}
use Rattle.std.proofs.Common.{◌∙◌, ap, subst, true, false, List, slice_index_or}
use Rattle.std.specs.Option.{option_map_or}
use Rattle.network_core.specs.declared.steps.Outcome.{Outcome}
use Rattle.network_core.specs.declared.steps.Step.{Step}
use Rattle.node_shell.specs.Loads.{Breaks, started, then_drain}
use Rattle.node_shell.specs.Responds.{ended_seen, net_states}
use Rattle.node_shell.proofs.LoadEnds.{on_err}
use Rattle.node_shell.proofs.loads.pay.Goals as goal

pub returns-in_err-outcomes-clause-err : goal.returns-in_err-outcomes-clause-err
returns-in_err-outcomes-clause-err g c =
    let s = net_states (meaning g.F.FlowSet.machine g.F.Spelt.reading (g.J.Judge.judges c.args.contracts.now)) in
    on_err c.from_residual-in_err-outcomes.result (subst (λ (l : List Step). Breaks s (then_drain l) c.args.net.now c.start_and_drain.new.net) c.in_ok-starts.ensures c.in_err-outcomes.ensures.err)

pub returns-clause-ok : goal.returns-clause-ok
returns-clause-ok g c =
    let s = net_states (meaning g.F.FlowSet.machine g.F.Spelt.reading (g.J.Judge.judges c.args.contracts.now)) in
    let outcomes = c.in_ok-outcomes.outcomes.items in
    let from = slice_index_or c.args.nodes.now c.args.drawn.from 0 in (
      outcomes,
      subst (λ (l : List Step). s.follows (then_drain l) outcomes true c.args.net.now c.start_and_drain.new.net) c.in_ok-starts.ensures c.in_ok-outcomes.ensures.ok,
      c.is_paid.ensures ∙ ap (λ (l : List Outcome). option_map_or (λ flow. ended_seen g.F.Spelt.reading from flow c.start_and_drain.new.net) (started l) false) c.as_slice.ensures.value,
    )
