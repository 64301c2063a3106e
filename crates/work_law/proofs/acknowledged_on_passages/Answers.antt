use Rattle.work_law.proofs.Passing.{acknowledged_on_passages}
use Rattle.work_law.proofs.acknowledged_on_passages.Goals as goal

pub returns : goal.returns
returns g c = acknowledged_on_passages
