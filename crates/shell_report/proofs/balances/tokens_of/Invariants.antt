use Rattle.std.proofs.Common.{◌≡◌, drop}
use Rattle.shell_report.specs.LedgerText.{tokens_onto, tokens_of}
use Rattle.shell_report.proofs.balances.tokens_of.Given as goal

-- the tokens so far, with those of the states left, are those of all
abbrev pub invariant-loop-held : goal.invariant-loop-held
invariant-loop-held l = tokens_onto l.tokens.items (drop l.held-index l.states) ≡ tokens_of l.states
