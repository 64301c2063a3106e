use Rattle.std.proofs.Common.{sym, subst, List, []}
use Rattle.ledger_types.specs.declared.held.Held.{Held}
use Rattle.vault.specs.Holdings.{IsVault}
use Rattle.vault.proofs.Vaults.{vault_none}
use Rattle.vault.proofs.vault.Vault.new.Goals as goal

pub returns-clause-vault : goal.returns-clause-vault
returns-clause-vault c = subst (λ (l : List Held). IsVault c.args.party [] [] l) (sym c.new.ensures.items) (vault_none c.args.party)
