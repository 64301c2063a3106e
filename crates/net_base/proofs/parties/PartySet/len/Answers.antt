use Rattle.std.proofs.Common.{◌∙◌, sym, ap, length}
use Rattle.net_base.specs.Parties.{members_is}
use Rattle.net_base.proofs.parties.PartySet.len.Goals as goal

pub returns : goal.returns
returns c = c.count_members.ensures ∙ sym (ap length (members_is c.args.self))
