use Rattle.std.proofs.Common.{arith}
use Rattle.vault.proofs.Coins.{coins_full, coins_few}
use Rattle.vault.proofs.states.first_coins.Goals as goal

pub returns-then-len-eq-LIMIT : goal.returns-then-len-eq-LIMIT
returns-then-len-eq-LIMIT c =
    let coins = c.loop-held.coins in
    coins_full c.args.token.now c.args.states.now coins.items c.loop-held.held-index c.loop-held.invariant.items (omega (arith, coins.ok.0))

pub returns : goal.returns
returns c =
    let coins = c.loop-held.coins in
    coins_few c.args.token.now c.args.states.now coins.items c.loop-held.held-index c.loop-held.invariant.items c.loop-held-test.false (omega (arith, coins.ok.0))
