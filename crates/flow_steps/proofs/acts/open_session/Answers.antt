use Rattle.net_model.specs.Environment.{environment, unjudged}
use Rattle.net_model.specs.Steps.{opens}
use Rattle.session_acts.specs.Parts.{done_of}
use Rattle.flow_steps.proofs.Limits.{open_done}
use Rattle.flow_steps.proofs.Performs.{told_becomes}
use Rattle.flow_steps.proofs.acts.open_session.Goals as goal

pub go_on_told-requires-clause-done : goal.go_on_told-requires-clause-done
go_on_told-requires-clause-done g c =
    let at = c.args.at.now in
    let id = c.args.identity.now in
    let list = c.args.sessions.now.list in
    open_done id.nodes id.party.0 list at.flow c.args.to c.args.class c.args.first.now c.in_ok-done.done c.in_ok-done.ensures.done (c.in_ok-done.ensures.limits c.requires.identity c.requires.first) c.in_ok-done.ensures.room

pub returns-clause-becomes : goal.returns-clause-becomes
returns-clause-becomes g c =
    let at = c.args.at.now in
    let id = c.args.identity.now in
    let list = c.args.sessions.now.list in
    told_becomes (environment (unjudged g.F.FlowSet.machine g.F.Spelt.reading) id) id.party.0 c.args.cause.moment.0 g.F.Spelt.within at (done_of c.in_ok-done.done) (opens id.nodes id.party.0 list at.flow c.args.to c.args.class c.args.first.now) c.go_on_told.result c.in_ok-done.ensures.done c.go_on_told.ensures.becomes
