use Rattle.work_law.proofs.Lasting.{histories_last}
use Rattle.work_law.proofs.histories_last.Goals as goal

pub returns : goal.returns
returns g c = histories_last
