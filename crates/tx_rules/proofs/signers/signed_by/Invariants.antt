use Rattle.std.proofs.Common.{◌≡◌, ◌<◌, ℕ, take}
use Rattle.std.specs.List.{list_any}
use Rattle.net_base.specs.Parties.{has_party}
use Rattle.ledger_types.specs.Signatures.{is_tag}
use Rattle.tx_rules.proofs.signers.signed_by.Given as goal

abbrev pub invariant-loop-tag : goal.invariant-loop-tag
invariant-loop-tag g l = (p : ℕ) → p < 16 → has_party l.signed p ≡ list_any (is_tag (g.S.Signer.mark_of l.signer) l.fn.id p) (take l.tag-index l.tags)
