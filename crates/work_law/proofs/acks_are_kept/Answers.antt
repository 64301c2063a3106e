use Rattle.work_law.proofs.Acks.{acks_are_kept}
use Rattle.work_law.proofs.acks_are_kept.Goals as goal

pub returns : goal.returns
returns g c = acks_are_kept
