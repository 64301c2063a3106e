use Rattle.std.proofs.Common.{sym, ◌∙◌, ap, List, slice_get}
use Rattle.ledger_types.specs.declared.state.TxState.{TxState}
use Rattle.ledger_types.specs.declared.tx.Tx.{Tx}
use Rattle.tx_store.proofs.Resolving.{fault_absent, fault_no_output, state_had}
use Rattle.tx_store.proofs.store.Store.state.Goals as goal

pub returns-in_default : goal.returns-in_default
returns-in_default c = fault_absent c.args.self.now.list c.args.reference.now (sym c.in_default.ensures.stored)

pub returns-in-Some-output_at : goal.returns-in-Some-output_at
returns-in-Some-output_at c = state_had c.args.self.now.list c.args.reference.now c.in-Some.stx.now c.in-Some-output_at.state (sym c.in-Some.ensures.stored) (sym (c.in-Some-output_at.ensures ∙ ap (λ (l : List TxState). slice_get l c.args.reference.now.index) (c.as_slice.ensures ∙ ap (λ (t : Tx). t.outputs) c.deref.ensures)))

pub returns-in-None : goal.returns-in-None
returns-in-None c = fault_no_output c.args.self.now.list c.args.reference.now c.in-Some.stx.now (sym c.in-Some.ensures.stored) (sym (c.in-None.ensures ∙ ap (λ (l : List TxState). slice_get l c.args.reference.now.index) (c.as_slice.ensures ∙ ap (λ (t : Tx). t.outputs) c.deref.ensures)))
