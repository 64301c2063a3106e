use Rattle.std.proofs.Common.{◌≡◌, ℕ, take}
use Rattle.std.specs.List.{list_any}
use Rattle.net_base.specs.Parties.{has_party}
use Rattle.tx_rules.proofs.signers.signers_of.Given as goal

abbrev pub invariant-loop-command : goal.invariant-loop-command
invariant-loop-command l = (p : ℕ) → has_party l.signers p ≡ list_any (λ c. has_party c.signers p) (take l.command-index l.commands)
