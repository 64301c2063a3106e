use Rattle.std.proofs.Common.{sym, ◌∙◌, ap, Some}
use Rattle.std.proofs.lemmas.Result.{err_from_is_err_and}
use Rattle.tx_store.proofs.Resolving.{fault_found, fault_missed, states_more}
use Rattle.tx_store.proofs.store.Store.states.Goals as goal

pub loop-r-preserved : goal.loop-r-preserved
loop-r-preserved c =
    states_more c.args.self.now.list c.args.refs.now c.loop-r.r-index _ c.loop-r.states c.in_ok-state.field-0 c.loop-r-test.true c.loop-r.invariant (sym c.state.ensures ∙ c.in_ok-state.was)
    ∙ ap Some (sym c.in_ok-push.ensures.ok)

pub returns-in_err-state-clause-fault : goal.returns-in_err-state-clause-fault
returns-in_err-state-clause-fault c =
    let p = err_from_is_err_and c.from_residual.result c.from_residual.ensures.1 in
    let found = fault_found c.args.self.now.list c.args.refs.now c.loop-r.r-index _ c.loop-r.states c.in_err-state.field-0.0 c.loop-r-test.true c.loop-r.invariant (sym c.state.ensures ∙ c.in_err-state.was) in
    rw (p.1, p.2) (fault_missed c.args.self.now.list c.args.refs.now c.in_err-state.field-0.0 found)
