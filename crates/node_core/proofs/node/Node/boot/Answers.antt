use Rattle.std.proofs.Common.{◌≡◌, sym, ◌∙◌, ap, subst}
use Rattle.node_core.specs.States.{seen_in, seen_over}
use Rattle.node_core.specs.Seen.{NodeSeen, BootsAs}
use Rattle.node_core.proofs.Nodes.{is_down, down_seen}
use Rattle.node_core.proofs.node.Node.boot.Goals as goal

pub take_disk-disk-requires : goal.take_disk-disk-requires
take_disk-disk-requires g c = is_down c.self.inside.identity c.self.inside.state c.self.invariant.1 (ap (λ (n : NodeSeen). n.journal) c.self.view_is ∙ c.requires)

pub returns : goal.returns
returns g c =
    let seen = g.D.Disk.seen in
    let id = c.self.inside.identity in
    let before : seen_over id (seen c.take_disk-disk.result) ≡ c.args.self.now = sym (down_seen seen id c.self.inside.state c.take_disk-disk.result c.take_disk-disk.ensures) ∙ c.self.view_is in
    let after : seen_in seen id c.opened-state.result.0 ≡ seen_in seen id c.put.new.place = ap (seen_in seen id) (sym c.put.ensures) in
    subst (λ (old : NodeSeen). BootsAs g.F.Spelt.reading old c.opened-state.result.1 (seen_in seen id c.put.new.place)) before (subst (λ (new : NodeSeen). BootsAs g.F.Spelt.reading (seen_over id (seen c.take_disk-disk.result)) c.opened-state.result.1 new) after c.opened-state.ensures.boots)
