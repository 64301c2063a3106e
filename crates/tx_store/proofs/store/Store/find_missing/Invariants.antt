use Rattle.std.proofs.Common.{◌≡◌, take}
use Rattle.tx_store.specs.Stored.{found_in}
use Rattle.tx_store.proofs.store.Store.find_missing.Given as goal

abbrev pub invariant-loop-r : goal.invariant-loop-r
invariant-loop-r l = l.found ≡ found_in l.self.list l.initial.found (take l.r-index l.refs)
