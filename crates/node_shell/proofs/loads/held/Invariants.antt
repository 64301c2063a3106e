use Rattle.std.proofs.Common.{◌≡◌, ◌++◌, drop}
use Rattle.std.specs.List.{AllByRecursion, flat_map}
use Rattle.ledger_types.specs.Vaults.{IsHeld}
use Rattle.node_shell.specs.Responds.{held_of}
use Rattle.node_shell.proofs.loads.held.Given as goal

-- the states so far, and those of the nodes that are left
abbrev pub invariant-loop-node : goal.invariant-loop-node
invariant-loop-node g l = record {
  held : l.held.items ++ flat_map (held_of g.F.Spelt.reading) (drop l.node-index l.nodes) ≡ flat_map (held_of g.F.Spelt.reading) l.nodes;
  limits : AllByRecursion IsHeld l.held.items;
}
