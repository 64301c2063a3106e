use Rattle.std.proofs.Common.{◌≡◌, take, false}
use Rattle.ledger_types.specs.Vaults.{has_coin}
use Rattle.vault.proofs.states.has_coin.Given as goal

abbrev pub invariant-loop-held : goal.invariant-loop-held
invariant-loop-held l = has_coin (take l.held-index l.states) l.reference ≡ false
