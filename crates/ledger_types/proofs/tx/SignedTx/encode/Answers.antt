use Rattle.ledger_types.proofs.Sizes.{put_fits, signed_fits}
use Rattle.ledger_types.proofs.tx.SignedTx.encode.Goals as goal

pub returns-clause-short : goal.returns-clause-short
returns-clause-short c = put_fits _ _ _ c.encode.result _ c.encode.ensures (signed_fits _ c.requires)
