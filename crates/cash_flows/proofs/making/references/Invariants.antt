use Rattle.std.proofs.Common.{◌≡◌, take, map}
use Rattle.cash_flows.proofs.making.references.Given as goal

abbrev pub invariant-loop-held : goal.invariant-loop-held
invariant-loop-held l = l.list.items ≡ map (λ h. h.reference) (take l.held-index l.coins)
