-- What contracts see of a notary's book.
use Rattle.std.specs.Prelude.{ℕ, List}
use Rattle.ledger_types.specs.declared.notary.Entry.{Entry}

-- the entries in the order in which they were added, and for how many more there is room
pub record Booked : Type 0 where
  pub entries : List Entry
  pub room : ℕ
