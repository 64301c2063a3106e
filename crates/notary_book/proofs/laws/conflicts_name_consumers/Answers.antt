use Rattle.notary_book.proofs.Caused.{book_caused}
use Rattle.notary_book.proofs.laws.conflicts_name_consumers.Goals as goal

pub returns : goal.returns
returns c = book_caused
