use Rattle.std.proofs.Common.{arith}
use Rattle.network_core.proofs.Booting.{all_later}
use Rattle.network_core.proofs.net.Net.clock.Goals as goal

pub invariant_of-self : goal.invariant_of-self
invariant_of-self g c =
    let i = c.self.invariant in (all_later g.F.Spelt.reading c.self.inside.nodes.items c.self.inside.now.0 c.args.to.0 (omega (arith, c.if-to-self.false)) i.0, i.1, i.2, i.3, i.4)
