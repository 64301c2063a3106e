use Rattle.ledger_acts.proofs.Choosing.{unclaimed_is_picked}
use Rattle.ledger_acts.proofs.laws.unclaimed_is_picked.Goals as goal

pub returns : goal.returns
returns g c = unclaimed_is_picked
