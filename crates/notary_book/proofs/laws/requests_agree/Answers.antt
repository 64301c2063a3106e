use Rattle.notary_book.proofs.Agreeing.{entries_agree, agrees_with}
use Rattle.notary_book.proofs.laws.requests_agree.Goals as goal

pub returns-clause-entries : goal.returns-clause-entries
returns-clause-entries c = entries_agree

pub returns-clause-request : goal.returns-clause-request
returns-clause-request c = agrees_with
