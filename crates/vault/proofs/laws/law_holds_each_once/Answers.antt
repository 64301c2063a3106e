use Rattle.vault.proofs.Distinct.{vault_once}
use Rattle.vault.proofs.laws.law_holds_each_once.Goals as goal

pub returns : goal.returns
returns c = vault_once
