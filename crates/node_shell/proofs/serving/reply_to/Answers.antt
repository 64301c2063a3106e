use Rattle.net_model.specs.Environment.{meaning}
use Rattle.std.proofs.Common.{ap, sym, ◌∙◌, map, string_bytes}
use Rattle.node_shell.specs.Responds.{given}
use Rattle.node_shell.proofs.Asked.{line_served, line_responds, line_unread}
use Rattle.node_shell.proofs.serving.reply_to.Goals as goal

pub returns-clause-replies : goal.returns-clause-replies
returns-clause-replies g c =
    let ws = map (λ s. string_bytes s) c.as_slice.result.now in
    line_served (meaning g.F.FlowSet.machine g.F.Spelt.reading (g.J.Judge.judges c.args.contracts.now)) c.args.net.now c.serve.new.net c.args.line.now ws c.serve.result
    (sym c.has_no_answer.ensures ∙ c.if-has_no_answer.false) (sym c.is_readable.ensures ∙ c.if-not-is_readable.false)
    (ap (λ l. map (λ s. string_bytes s) l) c.as_slice.ensures.value ∙ c.in_ok-words.ensures) c.serve.ensures.serves

pub returns-clause-responds : goal.returns-clause-responds
returns-clause-responds g c =
    let ws = map (λ s. string_bytes s) c.as_slice.result.now in
    line_responds (meaning g.F.FlowSet.machine g.F.Spelt.reading (g.J.Judge.judges c.args.contracts.now)) c.args.net.now c.serve.new.net c.args.line.now ws (given c.serve.result)
    (sym c.has_no_answer.ensures ∙ c.if-has_no_answer.false) (sym c.is_readable.ensures ∙ c.if-not-is_readable.false)
    (ap (λ l. map (λ s. string_bytes s) l) c.as_slice.ensures.value ∙ c.in_ok-words.ensures) c.serve.ensures.responds

pub returns-in_err-words-clause-replies : goal.returns-in_err-words-clause-replies
returns-in_err-words-clause-replies g c =
    line_unread (meaning g.F.FlowSet.machine g.F.Spelt.reading (g.J.Judge.judges c.args.contracts.now)) c.args.net.now c.args.line.now c.from_residual.result c.from_residual.ensures.0
