use Rattle.net_model.specs.Environment.{meaning}
use Rattle.std.proofs.Common.{sym, ◌∙◌}
use Rattle.node_shell.specs.Responds.{NetLink, NetShort}
use Rattle.node_shell.proofs.Going.{line_done, line_quits, line_stopped}
use Rattle.node_shell.proofs.session.answer_line.Goals as goal

pub returns-in-Ok-true-clause-err : goal.returns-in-Ok-true-clause-err
returns-in-Ok-true-clause-err g c start left0 left1 left2 written0 count small took h =
    line_quits (NetLink (meaning g.F.FlowSet.machine g.F.Spelt.reading (g.J.Judge.judges c.args.contracts.now))) (NetShort (meaning g.F.FlowSet.machine g.F.Spelt.reading (g.J.Judge.judges c.args.contracts.now))) _ _ left2 (rw c.without_cr.ensures at c.in-Ok-true.ensures.comes) (sym (rw c.without_cr.ensures at c.in-Ok-true.ensures.quit) ∙ c.in-Ok-true.field-0-test) small took h

pub returns-in-Ok-false-clause-ok : goal.returns-in-Ok-false-clause-ok
returns-in-Ok-false-clause-ok g c start left0 left1 left2 written0 count small took h =
    line_done (NetLink (meaning g.F.FlowSet.machine g.F.Spelt.reading (g.J.Judge.judges c.args.contracts.now))) (NetShort (meaning g.F.FlowSet.machine g.F.Spelt.reading (g.J.Judge.judges c.args.contracts.now))) _ _ left2 (rw c.without_cr.ensures at c.in-Ok-false.ensures.comes) (sym (rw c.without_cr.ensures at c.in-Ok-false.ensures.quit) ∙ c.in-Ok-false.field-0-test) took h

pub returns-in-Err-clause-err : goal.returns-in-Err-clause-err
returns-in-Err-clause-err g c start left0 left1 left2 written0 count small took h =
    rw c.status_of.ensures (line_stopped (NetLink (meaning g.F.FlowSet.machine g.F.Spelt.reading (g.J.Judge.judges c.args.contracts.now))) (NetShort (meaning g.F.FlowSet.machine g.F.Spelt.reading (g.J.Judge.judges c.args.contracts.now))) _ _ left2 c.in-Err.stop (rw c.without_cr.ensures at c.in-Err.ensures.comes) small took h)
