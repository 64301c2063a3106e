use Rattle.vault.specs.Holdings.{freed_of}
use Rattle.vault.proofs.Marking.{marked_none, marked_all, marked_set}
use Rattle.vault.proofs.states.free_each.Goals as goal

pub loop-held-init : goal.loop-held-init
loop-held-init c = marked_none _ _

pub loop-held-preserved : goal.loop-held-preserved
loop-held-preserved c = marked_set (freed_of c.args.flow) c.args.states.now c.loop-held.states c.loop-held.held-index _ _ c.loop-held.invariant c.loop-held-test.true c.free_if_locked.ensures

pub returns : goal.returns
returns c = marked_all (freed_of c.args.flow) _ _ _ c.loop-held.invariant c.loop-held-test.false
