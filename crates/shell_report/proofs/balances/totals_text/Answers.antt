use Rattle.std.proofs.Common.{◌∙◌, sym, subst}
use Rattle.std.specs.List.{AllByRecursion}
use Rattle.net_base.specs.Names.{IsToken}
use Rattle.shell_report.proofs.Tokens.{tokens_within}
use Rattle.shell_report.proofs.balances.totals_text.Goals as goal

pub total_lines-requires : goal.total_lines-requires
total_lines-requires c = subst (λ l. AllByRecursion IsToken l) (sym (c.as_slice.ensures.value ∙ c.in_ok-tokens.ensures)) (tokens_within c.args.states.now c.requires)
