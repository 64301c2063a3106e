use Rattle.std.proofs.Common.{◌≡◌, take}
use Rattle.std.specs.Prelude.{not, filter}
use Rattle.ledger_types.specs.Names.{has_hash}
use Rattle.resolve_flows.proofs.ids.keep_others.Given as goal

abbrev pub invariant-loop-id : goal.invariant-loop-id
invariant-loop-id l = l.kept.items ≡ filter (λ h. not (has_hash h l.list)) (take l.id-index l.pending)
