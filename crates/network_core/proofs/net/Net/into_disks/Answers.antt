use Rattle.std.proofs.Common.{◌∙◌, sym, ap, map}
use Rattle.network_core.specs.Worlds.{NetSeen}
use Rattle.network_core.proofs.net.Net.into_disks.Goals as goal

pub returns : goal.returns
returns g c = c.disks_of.ensures ∙ sym (ap (λ (n : NetSeen). map (λ k. k.disk) n.nodes) c.into_parts-parts.ensures.same)
