use Rattle.node_shell.proofs.Together.{lines_are_passages}
use Rattle.node_shell.proofs.laws.lines_are_passages.Goals as goal

pub returns : goal.returns
returns g c = lines_are_passages
