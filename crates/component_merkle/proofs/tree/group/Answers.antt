use Rattle.std.proofs.Common.{◌≡◌, ◌∙◌, sym, length, arith}
use Rattle.component_merkle.proofs.Rooted.{group_none, group_some}
use Rattle.component_merkle.proofs.tree.group.Goals as goal

pub returns-then-count-eq0 : goal.returns-then-count-eq0
returns-then-count-eq0 c = let none : length c.args.leaves.now ≡ 0 = omega arith in sym (group_none c.args.leaves.now none)

pub returns : goal.returns
returns c = c.root.ensures ∙ sym (group_some c.args.leaves.now (omega arith))
