use Rattle.ledger_types.proofs.Sizes.{put_fits, entry_fits}
use Rattle.ledger_types.proofs.notary.Entry.encode.Goals as goal

pub returns-clause-short : goal.returns-clause-short
returns-clause-short c = put_fits _ _ _ c.encode.result _ c.encode.ensures (entry_fits _ c.requires)
