use Rattle.net_base.specs.Laws.{cancels}
use Rattle.net_base.proofs.spelt.one_spelling.Goals as goal

pub returns : goal.returns
returns g c = λ v w x y. cancels g.met.T.Spelt.laws v w x y
