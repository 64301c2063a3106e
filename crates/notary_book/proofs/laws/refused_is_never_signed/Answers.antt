use Rattle.notary_book.proofs.Refused.{refused_unsigned}
use Rattle.notary_book.proofs.laws.refused_is_never_signed.Goals as goal

pub returns : goal.returns
returns c = refused_unsigned
