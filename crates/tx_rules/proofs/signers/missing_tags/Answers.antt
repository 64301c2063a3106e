use Rattle.ledger_types.specs.Signatures.{is_missing}
use Rattle.tx_rules.proofs.Listing.{lists}
use Rattle.tx_rules.proofs.signers.missing_tags.Goals as goal

pub returns-clause-all : goal.returns-clause-all
returns-clause-all g c = lists c.missing_set.result (is_missing (g.S.Signer.mark_of c.args.signer.now) c.args.stx.now) c.missing_set.ensures
