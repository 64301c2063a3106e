use Rattle.std.proofs.Common.{arith}
use Rattle.net_base.proofs.Members.{without_is}
use Rattle.net_base.proofs.parties.without_bits.Goals as goal

pub returns : goal.returns
returns c = λ p. without_is c.args.bits c.args.others p (omega arith) (omega arith)
