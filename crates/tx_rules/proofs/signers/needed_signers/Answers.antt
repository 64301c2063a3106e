use Rattle.ledger_types.specs.Signatures.{needs}
use Rattle.tx_rules.proofs.Listing.{lists}
use Rattle.tx_rules.proofs.signers.needed_signers.Goals as goal

pub returns-clause-all : goal.returns-clause-all
returns-clause-all c = lists c.needed_set.result (needs c.args.tx.now) c.needed_set.ensures
