use Rattle.notary_book.proofs.Refused.{signed_unrefused}
use Rattle.notary_book.proofs.laws.signed_is_never_refused.Goals as goal

pub returns : goal.returns
returns c = signed_unrefused
