use Rattle.network_core.proofs.NewDisks.{new_disks_are_coherent}
use Rattle.network_core.proofs.laws.new_disks_are_coherent.Goals as goal

pub returns : goal.returns
returns g c = new_disks_are_coherent
