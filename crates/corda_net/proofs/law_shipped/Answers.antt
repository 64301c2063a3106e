use Rattle.corda_net.proofs.Books.{as_shipped}
use Rattle.corda_net.proofs.law_shipped.Goals as goal

pub returns : goal.returns
returns g c = as_shipped _ _ _ c.requires
