use Rattle.work_law.proofs.Together.{works_coherently}
use Rattle.work_law.proofs.works_coherently.Goals as goal

pub returns : goal.returns
returns g c = works_coherently
