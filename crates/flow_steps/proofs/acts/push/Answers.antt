use Rattle.net_model.specs.Environment.{environment, unjudged}
use Rattle.flow_steps.proofs.Performs.{called_limits, called_becomes}
use Rattle.flow_steps.proofs.acts.push.Goals as goal

pub returns-clause-becomes : goal.returns-clause-becomes
returns-clause-becomes g c =
    let at = c.args.at.now in
    let id = c.args.identity.now in
    rw c.step_of.ensures (called_becomes (environment (unjudged g.F.FlowSet.machine g.F.Spelt.reading) id) id.party.0 c.args.cause.moment.0 g.F.Spelt.within at c.args.cause c.in_ok-state.state c.unchanged-session.result c.args.frame.now c.in_ok-state.ensures c.unchanged-session.ensures
    (called_limits g.F.FlowSet.machine g.F.Spelt.reading g.F.Spelt.within g.met.F.FlowSet.keeps_limits id c.requires.identity c.args.cause.moment c.law_known.ensures at c.requires.limits c.requires.step c.args.frame.now c.requires.frame))
