use Rattle.std.proofs.Common.{sym, ap, subst}
use Rattle.flow_machine.specs.declared.acts.Resumed.TheVariants as resumed
use Rattle.net_model.specs.Environment.{environment, unjudged}
use Rattle.net_model.specs.State.{nothing}
use Rattle.session_acts.specs.Parts.{done_of}
use Rattle.flow_steps.specs.Going.{IsDone}
use Rattle.flow_steps.proofs.Limits.{lapse_done}
use Rattle.flow_steps.proofs.Performs.{told_becomes}
use Rattle.flow_steps.proofs.acts.wake.Goals as goal

pub go_on_told-requires-clause-done : goal.go_on_told-requires-clause-done
go_on_told-requires-clause-done g c = subst (IsDone c.args.at.now.flow) (sym c.lapse.ensures) (lapse_done c.args.at.now.flow)

pub returns-clause-becomes : goal.returns-clause-becomes
returns-clause-becomes g c =
    let id = c.args.identity.now in
    told_becomes (environment (unjudged g.F.FlowSet.machine g.F.Spelt.reading) id) id.party.0 c.args.cause.moment.0 g.F.Spelt.within c.args.at.now (done_of c.lapse.result) (resumed.Lapsed, nothing) c.go_on_told.result (ap done_of c.lapse.ensures) c.go_on_told.ensures.becomes
