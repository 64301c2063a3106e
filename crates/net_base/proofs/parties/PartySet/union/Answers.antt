use Rattle.net_base.proofs.Members.{union_is}
use Rattle.net_base.proofs.parties.PartySet.union.Goals as goal

pub returns : goal.returns
returns c = λ p. union_is c.args.self.0 c.args.other.0 p
