use Rattle.std.proofs.Common.{arith}
use Rattle.tx_store.proofs.Found.{missing_is}
use Rattle.tx_store.proofs.store.Store.missing.Goals as goal

pub returns : goal.returns
returns c =
    let a = c.find_missing.ensures in let b = c.find_missing-2.ensures in let m = missing_is c.args.self.now.list c.args.tx.now in grind (arith, m)
