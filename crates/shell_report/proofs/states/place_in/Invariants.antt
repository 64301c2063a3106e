use Rattle.std.proofs.Common.{◌≡◌, ◌+◌, drop}
use Rattle.shell_report.specs.LedgerText.{ids_of, place_in}
use Rattle.shell_report.proofs.states.place_in.Given as goal

-- the id is none of those that were passed
abbrev pub invariant-loop-k : goal.invariant-loop-k
invariant-loop-k l = place_in l.id (ids_of l.store.list) ≡ l.k + place_in l.id (ids_of (drop l.k l.store.list))
