use Rattle.std.proofs.Common.{◌≡◌, drop}
use Rattle.std.specs.List.{AllByRecursion}
use Rattle.ledger_types.specs.Tears.{spelt_by}
use Rattle.tx_tear.proofs.Spelling.{after}
use Rattle.tx_tear.proofs.reading.read_parts.Given as goal

-- the values so far are those of the parts so far, each within its limits
pub record Read (Tells Limits : Type 0) : Type 0 where
  pub tells : Tells
  pub limits : Limits

abbrev pub invariant-loop-part : goal.invariant-loop-part
invariant-loop-part g l = Read (after l.items.items (spelt_by g.T.Spelt.reading (drop l.part-index l.parts)) ≡ spelt_by g.T.Spelt.reading l.parts) (AllByRecursion g.T.Spelt.within l.items.items)
