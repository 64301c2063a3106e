use Rattle.tx_tear.proofs.Sights.{two_sights}
use Rattle.tx_tear.proofs.laws.good_tear_offs_agree.Goals as goal

pub returns : goal.returns
returns c = two_sights
