use Rattle.std.proofs.Common.{rules, not, ◌==◌}
use Rattle.std.proofs.lemmas.Fn.{filter_same}
use Rattle.node_core.proofs.shared.end_claim.Goals as goal

pub returns : goal.returns
returns c = filter_same _ (λ g. not (g == c.args.flow)) _ (λ x b f' k. search rules) _ _ c.retain.ensures.filtered
