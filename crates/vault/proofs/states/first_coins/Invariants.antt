use Rattle.std.proofs.Common.{◌≡◌, ◌≤◌, take, vec_len}
use Rattle.ledger_types.specs.Vaults.{coins_of}
use Rattle.vault.proofs.states.first_coins.Given as goal

abbrev pub invariant-loop-held : goal.invariant-loop-held
invariant-loop-held l = record { items : l.coins.items ≡ coins_of l.token (take l.held-index l.states); few : vec_len l.coins ≤ 64 }
