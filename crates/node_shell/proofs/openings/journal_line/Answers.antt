use Rattle.node_shell.proofs.Opening.{damaged_line}
use Rattle.node_shell.proofs.openings.journal_line.Goals as goal

pub returns-in_ok-line-in-Damaged : goal.returns-in_ok-line-in-Damaged
returns-in_ok-line-in-Damaged c = damaged_line c.args.node c.in-Damaged.at c.args.why _ c.in-Damaged.is c.in_ok-line-in-Damaged.ensures.ok
