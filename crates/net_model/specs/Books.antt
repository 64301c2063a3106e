-- What stands in a node's book.
use Rattle.std.specs.Prelude.{◌≡◌, ℕ, List, Some, slice_get}
use Rattle.net_base.specs.declared.causes.Cause.{Cause}
use Rattle.ledger_types.specs.Notary.{IsBook}
use Rattle.net_model.specs.Environment.{Environment, identity}
use Rattle.net_model.specs.State.{NodeState, Record, replay}
use Rattle.net_model.specs.Runs.{IsLocal, run_of}

-- in a run each entry of a book was added for a fresh answer over the entries before it
abbrev pub BooksOfRuns : (F : Type 0) → Type 0
BooksOfRuns F = (w : Environment F) (causes : List (ℕ × Cause)) (net : List (NodeState F)) (p : ℕ) (s : NodeState F) → run_of w causes ≡ Some net → slice_get net p ≡ Some s → IsBook w.mark (identity w p) s.entries

-- so it is with the book that a local journal makes
abbrev pub BooksOfJournals : (F : Type 0) → Type 0
BooksOfJournals F = (w : Environment F) (p : ℕ) (records : List (Record F)) → IsLocal w p records → IsBook w.mark (identity w p) (replay records).entries
