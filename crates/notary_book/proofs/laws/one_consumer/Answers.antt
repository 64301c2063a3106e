use Rattle.notary_book.proofs.Once.{one_consumer}
use Rattle.notary_book.proofs.laws.one_consumer.Goals as goal

pub returns : goal.returns
returns c = one_consumer
