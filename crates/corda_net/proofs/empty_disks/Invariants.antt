use Rattle.std.proofs.Common.{◌≡◌, length, All}
use Rattle.corda_net.specs.Disks.{AreEmpty}
use Rattle.corda_net.proofs.empty_disks.Given as goal

abbrev pub invariant-disks : goal.invariant-disks
invariant-disks g l = (length l.disks.items ≡ l.counter) × All AreEmpty l.disks.items
