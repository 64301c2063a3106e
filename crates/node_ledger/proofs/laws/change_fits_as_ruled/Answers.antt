use Rattle.node_ledger.proofs.Ruled.{change_fits_as_ruled}
use Rattle.node_ledger.proofs.laws.change_fits_as_ruled.Goals as goal

pub returns : goal.returns
returns g c = change_fits_as_ruled
