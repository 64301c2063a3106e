use Rattle.work_law.proofs.Passing.{attained_are_coherent}
use Rattle.work_law.proofs.attained_are_coherent.Goals as goal

pub returns : goal.returns
returns g c = attained_are_coherent
