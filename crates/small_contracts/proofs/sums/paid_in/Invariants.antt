use Rattle.std.proofs.Common.{◌≡◌, ◌≤◌, ◌*◌, take}
use Rattle.small_contracts.specs.Ious.{paid_in}
use Rattle.small_contracts.proofs.sums.paid_in.Given as goal

-- the sum so far, which is at most one greatest amount for each item
abbrev pub invariant-loop-state : goal.invariant-loop-state
invariant-loop-state l = (l.sum ≡ paid_in l.party l.token (take l.state-index l.states)) × (l.sum ≤ l.state-index * 18446744073709551615)
