use Rattle.net_base.proofs.Members.{with_is}
use Rattle.net_base.proofs.parties.PartySet.with.Goals as goal

pub returns : goal.returns
returns c = λ p. with_is c.args.self.0 c.args.party.0 p c.requires
