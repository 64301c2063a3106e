use Rattle.std.proofs.Common.{◌≡◌, ◌∙◌, length, arith}
use Rattle.std.proofs.lemmas.List.{length-set}
use Rattle.ledger_types.proofs.Leaves.{leaves_more}
use Rattle.ledger_types.proofs.id.group_value.Goals as goal

pub loop-i-preserved : goal.loop-i-preserved
loop-i-preserved g c =
    let l = c.loop-i in
    let long : length l.leaves ≡ 64 = l.invariant.long in
    record {
      made = leaves_more g.P.Part.text c.args.salt.now c.args.ordinal l.i l.leaves c.args.items.now c.index-items-i.result c.leaf_at.result (omega (arith, long, c.requires.few, c.loop-i-test.true)) c.loop-i-test.true c.index-items-i.is c.leaf_at.ensures l.invariant.made;
      long = length-set l.leaves l.i c.leaf_at.result ∙ long;
    }
