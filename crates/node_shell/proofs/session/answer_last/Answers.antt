use Rattle.net_model.specs.Environment.{meaning}
use Rattle.std.proofs.Common.{◌<◌, length, sym, ◌∙◌}
use Rattle.std.proofs.lemmas.Bool.{eqb-true}
use Rattle.shell_words.proofs.Splitting.{some_byte}
use Rattle.node_shell.specs.Responds.{NetLink, NetShort}
use Rattle.node_shell.proofs.Going.{last_empty, last_done, last_stopped}
use Rattle.node_shell.proofs.session.answer_last.Goals as goal

pub returns-then-is_empty-clause-ended : goal.returns-then-is_empty-clause-ended
returns-then-is_empty-clause-ended g c start left0 left1 written0 count small end h =
    last_empty (NetLink (meaning g.F.FlowSet.machine g.F.Spelt.reading (g.J.Judge.judges c.args.contracts.now))) (NetShort (meaning g.F.FlowSet.machine g.F.Spelt.reading (g.J.Judge.judges c.args.contracts.now))) (eqb-true (length c.args.line.now) 0 (sym c.is_empty.ensures ∙ c.if-is_empty.true)) small end h

pub returns-in-Ok-clause-ended : goal.returns-in-Ok-clause-ended
returns-in-Ok-clause-ended g c start left0 left1 written0 count small end h =
    let some : 0 < length c.args.line.now = some_byte (length c.args.line.now) (rw c.is_empty.ensures at c.if-is_empty.false) in
    last_done (NetLink (meaning g.F.FlowSet.machine g.F.Spelt.reading (g.J.Judge.judges c.args.contracts.now))) (NetShort (meaning g.F.FlowSet.machine g.F.Spelt.reading (g.J.Judge.judges c.args.contracts.now))) _ _ c.in-Ok.field-0 c.in-Ok.ensures.comes small end some h

pub returns-in-Err-clause-ended : goal.returns-in-Err-clause-ended
returns-in-Err-clause-ended g c start left0 left1 written0 count small end h =
    let some : 0 < length c.args.line.now = some_byte (length c.args.line.now) (rw c.is_empty.ensures at c.if-is_empty.false) in
    rw c.status_of.ensures (last_stopped (NetLink (meaning g.F.FlowSet.machine g.F.Spelt.reading (g.J.Judge.judges c.args.contracts.now))) (NetShort (meaning g.F.FlowSet.machine g.F.Spelt.reading (g.J.Judge.judges c.args.contracts.now))) _ _ c.in-Err.stop c.in-Err.ensures.comes small end some h)
