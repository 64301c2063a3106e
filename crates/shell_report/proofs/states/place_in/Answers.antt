use Rattle.std.proofs.Common.{◌<◌, ◌∙◌, sym, length, arith}
use Rattle.shell_report.specs.LedgerText.{ids_of, place_in}
use Rattle.shell_report.proofs.Places.{at_found, passed}
use Rattle.shell_report.proofs.states.place_in.Goals as goal

pub returns-then-stands_at : goal.returns-then-stands_at
returns-then-stands_at c =
    let found = at_found c.args.id.now c.args.store.now.list c.loop-k.k (sym c.stands_at.ensures ∙ c.if-stands_at.true) in
    omega (arith, c.loop-k.invariant, found)

pub loop-k-preserved : goal.loop-k-preserved
loop-k-preserved c =
    let list = c.args.store.now.list in
    let few : c.loop-k.k < length list = rw (← c.count-k-end.ensures) c.loop-k-test.true in
    passed c.args.id.now list c.loop-k.k (place_in c.args.id.now (ids_of list)) few (sym c.stands_at.ensures ∙ c.if-stands_at.false) c.loop-k.invariant
