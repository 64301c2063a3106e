use Rattle.std.proofs.Common.{◌≡◌, ◌++◌, drop, filter_map}
use Rattle.std.specs.List.{AllByRecursion}
use Rattle.ledger_types.specs.Notary.{conflict_over}
use Rattle.ledger_types.specs.Requests.{IsConflictItem}
use Rattle.notary_book.proofs.book.Book.add_conflicts.Given as goal

-- the conflicts so far with those of the references ahead, each within its limits
pub record Conflicting (Items Limits : Type 0) : Type 0 where
  pub items : Items
  pub limits : Limits

abbrev pub invariant-loop-reference : goal.invariant-loop-reference
invariant-loop-reference l =
    Conflicting (l.items.items ++ filter_map (conflict_over l.self.entries l.id l.kind) (drop l.reference-index l.refs) ≡ l.fn.items.items ++ filter_map (conflict_over l.self.entries l.id l.kind) l.refs)
    (AllByRecursion IsConflictItem l.fn.items.items → AllByRecursion IsConflictItem l.items.items)
