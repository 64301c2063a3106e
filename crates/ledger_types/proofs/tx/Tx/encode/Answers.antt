use Rattle.ledger_types.proofs.Sizes.{put_fits, tx_fits}
use Rattle.ledger_types.proofs.tx.Tx.encode.Goals as goal

pub returns-clause-short : goal.returns-clause-short
returns-clause-short c = put_fits _ _ _ c.encode.result _ c.encode.ensures (tx_fits _ c.requires)
