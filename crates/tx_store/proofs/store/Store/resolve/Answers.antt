use Rattle.std.proofs.Common.{sym, ◌∙◌, ap, subst}
use Rattle.std.proofs.lemmas.Result.{err_from_is_err_and}
use Rattle.ledger_types.specs.Stores.{states_of}
use Rattle.tx_store.specs.Faults.{Misses}
use Rattle.tx_store.proofs.Limits.{states_within}
use Rattle.tx_store.proofs.Resolving.{misses_first, misses_second, states_long}
use Rattle.tx_store.proofs.store.Store.resolve.Goals as goal

pub returns-in_err-states-clause-fault : goal.returns-in_err-states-clause-fault
returns-in_err-states-clause-fault c =
    let p = err_from_is_err_and c.from_residual.result c.from_residual.ensures.1 in
    let store = c.args.self.now.list in
    let tx = c.args.tx.now in
    let e = c.in_err-states.field-0.0 in
    rw (p.1, p.2) (misses_first store tx e (subst (λ refs. Misses store refs e) c.as_slice.ensures c.in_err-states.ensures.fault))

pub returns-in_err-states-2-clause-fault : goal.returns-in_err-states-2-clause-fault
returns-in_err-states-2-clause-fault c =
    let p = err_from_is_err_and c.from_residual-in_err-states-2.result c.from_residual-in_err-states-2.ensures.1 in
    let store = c.args.self.now.list in
    let tx = c.args.tx.now in
    let e = c.in_err-states-2.field-0.0 in
    let had = ap (states_of store) (sym c.as_slice.ensures) ∙ c.in_ok-states.ensures.had in
    rw (p.1, p.2) (misses_second store tx c.in_ok-states.field-0 e had (subst (λ refs. Misses store refs e) c.as_slice-2.ensures c.in_err-states-2.ensures.fault))

pub returns-clause-limits : goal.returns-clause-limits
returns-clause-limits c =
    let store = c.args.self.now.list in
    let tx = c.args.tx.now in
    let within = c.law_keeps_limits.ensures in (
      states_within store tx.inputs c.in_ok-states.field-0 within (ap (states_of store) (sym c.as_slice.ensures) ∙ c.in_ok-states.ensures.had),
      states_within store tx.references c.in_ok-states-2.field-0 within (ap (states_of store) (sym c.as_slice-2.ensures) ∙ c.in_ok-states-2.ensures.had),
    )

pub returns-clause-lengths : goal.returns-clause-lengths
returns-clause-lengths c =
    let store = c.args.self.now.list in
    let tx = c.args.tx.now in (
      states_long store tx.inputs c.in_ok-states.field-0 (ap (states_of store) (sym c.as_slice.ensures) ∙ c.in_ok-states.ensures.had),
      states_long store tx.references c.in_ok-states-2.field-0 (ap (states_of store) (sym c.as_slice-2.ensures) ∙ c.in_ok-states-2.ensures.had),
    )
