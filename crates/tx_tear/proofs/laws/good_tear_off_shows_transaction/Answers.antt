use Rattle.tx_tear.proofs.Sights.{one_sight}
use Rattle.tx_tear.proofs.laws.good_tear_off_shows_transaction.Goals as goal

pub returns : goal.returns
returns c = one_sight
