use Rattle.std.proofs.Common.{◌≡◌, map, take}
use Rattle.ledger_acts.proofs.acts.references.Given as goal

abbrev pub invariant-loop-coin : goal.invariant-loop-coin
invariant-loop-coin l = l.list ≡ map (λ h. h.reference) (take l.coin-index l.coins)
