use Rattle.std.proofs.Common.{rules, ◌≡◌, ◌++◌, ◌∷◌, [], arith, ◌∙◌}
use Rattle.std.specs.List.{insert}
use Rattle.node_shell.proofs.Fronts.{one_put_back}
use Rattle.node_shell.proofs.disks.put_back.Goals as goal

pub nodes-preserved : goal.nodes-preserved
nodes-preserved g c =
    let popped : c.nodes.own.items ≡ c.pop.new.self.items ++ c.in-Some.disk ∷ [] = search rules in
    let put : c.insert.new.self.items ≡ insert c.nodes.disks.items 0 c.in-Some.disk = search rules in
    let held = c.nodes.invariant in
    let step = one_put_back c.nodes.own.items c.pop.new.self.items c.nodes.disks.items c.insert.new.self.items c.in-Some.disk popped put in
    (step.0 ∙ held.0, omega (arith, step.1, step.2, held.1, c.insert.ensures.capacity))
