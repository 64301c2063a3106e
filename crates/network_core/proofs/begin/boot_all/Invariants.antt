use Rattle.network_core.specs.Begins.{BootsUpTo}
use Rattle.network_core.proofs.begin.boot_all.Given as goal

abbrev pub invariant-places : goal.invariant-places
invariant-places g l = BootsUpTo g.F.Spelt.reading l.place l.last.0 l.fn.nodes.items l.nodes.items
