use Rattle.vault.proofs.Chosen.{coins_named, own_named, once_named, within_named}
use Rattle.vault.proofs.vault.Vault.reserve.Goals as goal

pub returns-clause-coins : goal.returns-clause-coins
returns-clause-coins c = coins_named c.args.token.now c.args.amount c.args.self.now.held c.first_worth.result c.first_worth.ensures.reserved

pub returns-clause-own : goal.returns-clause-own
returns-clause-own c = own_named c.args.self.now.party c.args.token.now c.args.amount c.args.self.now.held c.first_worth.result c.law_keeps_limits.ensures.relevant c.first_worth.ensures.reserved

pub returns-clause-once : goal.returns-clause-once
returns-clause-once c = λ once. once_named c.args.token.now c.args.amount c.args.self.now.held c.first_worth.result once c.first_worth.ensures.reserved

pub returns-clause-limits : goal.returns-clause-limits
returns-clause-limits c = within_named c.args.token.now c.args.amount c.args.self.now.held c.first_worth.result c.law_keeps_limits.ensures.limits c.first_worth.ensures.reserved
