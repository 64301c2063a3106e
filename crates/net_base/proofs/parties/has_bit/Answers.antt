use Rattle.std.proofs.Common.{◌∙◌, sym, arith}
use Rattle.std.proofs.lemmas.Bool.{le-ltb}
use Rattle.net_base.proofs.Members.{above_is}
use Rattle.net_base.proofs.parties.has_bit.Goals as goal

pub returns-else-place-lt16 : goal.returns-else-place-lt16
returns-else-place-lt16 c = le-ltb c.args.place 16 c.if-place-lt16.false ∙ sym (above_is c.args.bits c.args.place (omega arith) c.if-place-lt16.false)
