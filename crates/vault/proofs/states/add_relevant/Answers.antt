use Rattle.std.proofs.Common.{arith, ap, ◌∙◌, ◌++◌, [], List, filter}
use Rattle.std.proofs.lemmas.List.{take_all}
use Rattle.ledger_types.specs.declared.state.TxState.{TxState}
use Rattle.ledger_types.specs.Vaults.{is_relevant, outputs_from}
use Rattle.vault.proofs.Vaults.{gained_more}
use Rattle.vault.proofs.states.add_relevant.Goals as goal

pub loop-i-preserved : goal.loop-i-preserved
loop-i-preserved c = let e = c.add_if_relevant.ensures in record {
  items = e.items ∙ gained_more c.args.me c.args.id.now c.args.outputs.now c.loop-i.i _ c.args.states.now.items c.loop-i.states.items c.loop-i-test.true c.loop-i.invariant.items;
  bound = omega (arith, e.bound);
  capacity = omega (arith, e.capacity);
}

pub returns-clause-items : goal.returns-clause-items
returns-clause-items c =
    let outputs = c.args.outputs.now in
    c.loop-i.invariant.items ∙ ap (λ (l : List TxState). c.args.states.now.items ++ filter (λ h. is_relevant c.args.me h.state.body) (outputs_from [] c.args.id.now 0 l)) (take_all c.loop-i.i outputs c.loop-i-test.false)
