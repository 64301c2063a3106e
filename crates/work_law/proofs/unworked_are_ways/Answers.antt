use Rattle.work_law.proofs.Passing.{unworked_are_ways}
use Rattle.work_law.proofs.unworked_are_ways.Goals as goal

pub returns : goal.returns
returns g c = unworked_are_ways
