use Rattle.std.proofs.Common.{rules, not}
use Rattle.std.proofs.lemmas.Fn.{filter_same}
use Rattle.ledger_types.specs.Names.{has_ref}
use Rattle.vault.proofs.states.remove_consumed.Goals as goal

pub returns-clause-items : goal.returns-clause-items
returns-clause-items c = filter_same _ (λ h. not (has_ref h.reference c.args.inputs.now)) _ (λ x b f' k. search rules) _ _ c.retain.ensures.filtered
