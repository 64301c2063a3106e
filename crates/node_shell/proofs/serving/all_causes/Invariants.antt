use Rattle.std.proofs.Common.{◌≡◌, ◌++◌, drop}
use Rattle.std.specs.Prelude.{option_map}
use Rattle.node_shell.specs.Responds.{causes_up}
use Rattle.node_shell.proofs.Shown.{lent_lists}
use Rattle.node_shell.proofs.serving.all_causes.Given as goal

-- the lists so far, and those of the nodes that are left
abbrev pub invariant-loop-node : goal.invariant-loop-node
invariant-loop-node g l = option_map (λ rest. lent_lists l.lists.items ++ rest) (causes_up g.F.Spelt.reading (drop l.node-index l.nodes)) ≡ causes_up g.F.Spelt.reading l.nodes
