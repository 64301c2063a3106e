use Rattle.vault.specs.Holdings.{locked_in}
use Rattle.vault.proofs.Marking.{marked_none, marked_all, marked_set}
use Rattle.vault.proofs.states.lock_each.Goals as goal

pub loop-held-init : goal.loop-held-init
loop-held-init c = marked_none _ _

pub loop-held-preserved : goal.loop-held-preserved
loop-held-preserved c = marked_set (locked_in c.args.flow c.args.refs.now) c.args.states.now c.loop-held.states c.loop-held.held-index _ _ c.loop-held.invariant c.loop-held-test.true c.lock_if_named.ensures

pub returns : goal.returns
returns c = marked_all (locked_in c.args.flow c.args.refs.now) _ _ _ c.loop-held.invariant c.loop-held-test.false
