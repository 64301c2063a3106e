use Rattle.std.proofs.Common.{arith, subst, sym}
use Rattle.checkpoints.specs.Tables.{IsNumbered, AreNumberedFrom}
use Rattle.checkpoints.proofs.Live.{numbered_at}
use Rattle.checkpoints.proofs.table.Flows.get.Goals as goal

pub returns-clause-own : goal.returns-clause-own
returns-clause-own g c =
    let found = c.in_ok-get.ensures.lookup in
    let flows = c.deref.result.now in
    let all = subst (AreNumberedFrom 0) (sym c.deref.ensures.value) c.self.invariant.1.0 in
    let own = numbered_at 0 c.args.flow c.args.flow c.in_ok-get.field-0.now c.in_ok-get.field-0.now flows (omega arith) all found.3.0 found.1 in
    subst (IsNumbered c.args.flow) (sym c.lent.ensures) own
