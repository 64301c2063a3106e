use Rattle.node_tables.proofs.Ruled.{fits_as_ruled}
use Rattle.node_tables.proofs.laws.fits_as_ruled.Goals as goal

pub returns : goal.returns
returns g c w me s r = fits_as_ruled w me s r
