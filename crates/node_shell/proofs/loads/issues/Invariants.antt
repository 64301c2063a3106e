use Rattle.std.proofs.Common.{◌≡◌, ◌++◌, drop}
use Rattle.std.specs.List.{flat_map}
use Rattle.node_shell.specs.Loads.{issue_by, issues_by}
use Rattle.node_shell.proofs.loads.issues.Given as goal

-- the starts so far, and those of the nodes that are left
abbrev pub invariant-loop-node : goal.invariant-loop-node
invariant-loop-node g l = l.steps.items ++ flat_map (issue_by g.F.FlowSet.machine) (drop l.node-index l.nodes) ≡ issues_by g.F.FlowSet.machine l.nodes
