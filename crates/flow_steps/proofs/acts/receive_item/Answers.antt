use Rattle.std.proofs.Common.{sym, subst}
use Rattle.net_model.specs.Environment.{environment, unjudged}
use Rattle.session_wire.specs.Rules.{owned}
use Rattle.session_acts.specs.Parts.{done_of}
use Rattle.flow_steps.specs.Going.{takes_or_lapses}
use Rattle.flow_steps.specs.Ready.{AreKept}
use Rattle.flow_steps.proofs.Performs.{told_becomes}
use Rattle.flow_steps.proofs.acts.receive_item.Goals as goal

pub go_on_told-requires-clause-done : goal.go_on_told-requires-clause-done
go_on_told-requires-clause-done g c =
    c.in_ok-done.ensures.within c.requires.key (subst (λ p. AreKept p c.args.sessions.now.list) (sym c.requires.party) c.requires.kept)

pub returns-clause-becomes : goal.returns-clause-becomes
returns-clause-becomes g c =
    let at = c.args.at.now in
    let id = c.args.identity.now in
    let list = c.args.sessions.now.list in
    told_becomes (environment (unjudged g.F.FlowSet.machine g.F.Spelt.reading) id) id.party.0 c.args.cause.moment.0 g.F.Spelt.within at (done_of c.in_ok-done.done) (takes_or_lapses (owned at.flow c.args.key.now list)) c.go_on_told.result c.in_ok-done.ensures.done c.go_on_told.ensures.becomes
