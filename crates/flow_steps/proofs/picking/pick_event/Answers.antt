use Rattle.std.proofs.Common.{sym, ◌∙◌}
use Rattle.flow_steps.proofs.Picks.{first_live}
use Rattle.flow_steps.proofs.Firsts.{idle_before}
use Rattle.flow_steps.proofs.picking.pick_event.Goals as goal

pub returns-in-None-clause-event : goal.returns-in-None-clause-event
returns-in-None-clause-event g c = rw c.in-None.is (c.first_from.ensures ∙ sym (first_live c.args.sessions.now.list c.args.now.0 c.args.flows.now.flows))

pub returns-in-None-clause-idle : goal.returns-in-None-clause-idle
returns-in-None-clause-idle g c = λ none.
    let flows = c.args.flows.now.flows in
    let list = c.args.sessions.now.list in
    idle_before list c.args.now.0 flows c.first_from.result c.requires.numbered (first_live list c.args.now.0 flows ∙ sym c.first_from.ensures)
