use Rattle.std.proofs.Common.{◌∙◌, ap, sym, subst}
use Rattle.std.specs.List.{AllByRecursion}
use Rattle.net_base.specs.Names.{IsToken}
use Rattle.shell_report.specs.LedgerText.{tokens_of}
use Rattle.shell_report.proofs.Tokens.{tokens_within}
use Rattle.shell_report.proofs.balances.balance_text.Goals as goal

pub balance_lines-requires : goal.balance_lines-requires
balance_lines-requires c =
    let same = c.as_slice-2.ensures.value ∙ c.in_ok-tokens.ensures ∙ ap tokens_of c.as_slice.ensures in
    subst (λ l. AllByRecursion IsToken l) (sym same) (tokens_within c.in_ok-states.states c.in_ok-states.ensures.limits)
