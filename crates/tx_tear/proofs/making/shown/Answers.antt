use Rattle.std.proofs.Common.{◌∙◌}
use Rattle.tx_tear.proofs.Groups.{parts_more}
use Rattle.tx_tear.proofs.making.shown.Goals as goal

pub loop-i-preserved : goal.loop-i-preserved
loop-i-preserved g c =
    c.in_ok-push.ensures.items
    ∙ parts_more g.P.Part.text c.args.salt.now c.args.ordinal c.loop-i.i c.args.items.now c.index-items-i.result c.in_ok-part.part c.loop-i.parts.items c.loop-i-test.true c.index-items-i.is c.in_ok-part.ensures c.loop-i.invariant
