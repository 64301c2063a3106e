use Rattle.network_core.proofs.Standing.{who_is_up_acknowledges, acknowledged_stands_once}
use Rattle.network_core.proofs.laws.acknowledged_stands_once.Goals as goal

pub returns-clause-stands : goal.returns-clause-stands
returns-clause-stands g c = acknowledged_stands_once

pub returns-clause-up : goal.returns-clause-up
returns-clause-up g c = who_is_up_acknowledges
