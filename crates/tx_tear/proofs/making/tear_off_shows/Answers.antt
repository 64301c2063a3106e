use Rattle.tx_tear.proofs.Shows.{shows}
use Rattle.tx_tear.proofs.making.tear_off_shows.Goals as goal

pub returns : goal.returns
returns c = shows
