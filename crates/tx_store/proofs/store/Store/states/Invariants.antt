use Rattle.std.proofs.Common.{◌≡◌, take, Some}
use Rattle.ledger_types.specs.Stores.{states_of}
use Rattle.tx_store.proofs.store.Store.states.Given as goal

abbrev pub invariant-loop-r : goal.invariant-loop-r
invariant-loop-r l = states_of l.self.list (take l.r-index l.refs) ≡ Some l.states
