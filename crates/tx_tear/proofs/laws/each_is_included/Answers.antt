use Rattle.tx_tear.proofs.Sights.{tx_included, tear_included}
use Rattle.tx_tear.proofs.laws.each_is_included.Goals as goal

pub returns-clause-transactions : goal.returns-clause-transactions
returns-clause-transactions c = tx_included

pub returns-clause-tear_offs : goal.returns-clause-tear_offs
returns-clause-tear_offs c = tear_included
