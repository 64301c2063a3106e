use Rattle.work_law.proofs.Passing.{acknowledged_is_kept}
use Rattle.work_law.proofs.acknowledged_is_kept.Goals as goal

pub returns : goal.returns
returns g c = acknowledged_is_kept
