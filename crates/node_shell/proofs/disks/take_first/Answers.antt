use Rattle.std.proofs.Common.{rules, ◌≡◌, ◌<◌, ◌+◌, ◌++◌, ◌∷◌, [], length, arith, ap, ◌∙◌}
use Rattle.std.proofs.lemmas.List.{length-append}
use Rattle.node_shell.proofs.Fronts.{one_taken}
use Rattle.node_shell.proofs.disks.take_first.Goals as goal

pub remove-requires : goal.remove-requires
remove-requires g c =
    let held = c.nodes.invariant in
    let both = length-append c.nodes.own.items c.nodes.disks.items in
    let all = ap length held.0 in
    omega (arith, both, all, held.1, c.nodes-test.true, c.requires.few, c.nodes.disks.ok.0)

pub nodes-preserved : goal.nodes-preserved
nodes-preserved g c =
    let held = c.nodes.invariant in
    let both = length-append c.nodes.own.items c.nodes.disks.items in
    let all = ap length held.0 in
    let some : 0 < length c.nodes.disks.items = omega (arith, both, all, held.1, c.nodes-test.true, c.requires.few) in
    let pushed : c.push.new.self.items ≡ c.nodes.own.items ++ c.remove.result ∷ [] = search rules in
    let taken = one_taken c.nodes.own.items c.nodes.disks.items c.push.new.self.items c.remove.new.self.items c.args.disks.now.items c.remove.result held.0 some c.remove.ensures.value c.remove.ensures.items pushed in
    let long : length c.push.new.self.items ≡ c.nodes.counter + 1 = ap length pushed ∙ length-append c.nodes.own.items (c.remove.result ∷ []) ∙ ap (λ k. k + 1) held.1 in
    (taken, long, omega (arith, held.2, c.push.ensures.lower_bound), c.remove.ensures.capacity ∙ held.3)
