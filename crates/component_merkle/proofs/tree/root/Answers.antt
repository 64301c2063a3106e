use Rattle.std.proofs.Common.{◌≡◌, sym, length, arith}
use Rattle.component_merkle.proofs.Rooted.{root_none, root_is}
use Rattle.component_merkle.proofs.tree.root.Goals as goal

pub returns-then-count-eq0 : goal.returns-then-count-eq0
returns-then-count-eq0 c = let none : length c.args.leaves.now ≡ 0 = omega arith in sym (root_none c.args.leaves.now none)

pub returns : goal.returns
returns c = root_is c.args.leaves.now c.root_padded.result (omega arith) c.root_padded.ensures
