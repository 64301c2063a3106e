use Rattle.node_shell.proofs.Together.{scripts_are_passages}
use Rattle.node_shell.proofs.laws.scripts_are_passages.Goals as goal

pub returns : goal.returns
returns g c = scripts_are_passages
