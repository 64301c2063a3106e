use Rattle.std.proofs.Common.{◌≡◌, take, true}
use Rattle.ledger_types.specs.Stores.{all_stored}
use Rattle.tx_store.proofs.store.Store.has_all.Given as goal

abbrev pub invariant-loop-r : goal.invariant-loop-r
invariant-loop-r l = all_stored l.self.list (take l.r-index l.refs) ≡ true
