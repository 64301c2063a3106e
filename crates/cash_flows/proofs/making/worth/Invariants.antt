use Rattle.std.proofs.Common.{◌≡◌, ◌≤◌, ◌*◌, ◌^◌, take}
use Rattle.cash_flows.specs.Making.{worth}
use Rattle.cash_flows.proofs.making.worth.Given as goal

abbrev pub invariant-loop-held : goal.invariant-loop-held
invariant-loop-held l = record { sum : l.sum ≡ worth (take l.held-index l.coins); small : l.sum ≤ l.held-index * 2 ^ 64 }
