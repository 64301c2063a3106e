use Rattle.work_law.proofs.Passing.{kept_on_passages}
use Rattle.work_law.proofs.kept_on_passages.Goals as goal

pub returns : goal.returns
returns g c = kept_on_passages
