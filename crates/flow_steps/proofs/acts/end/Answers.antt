use Rattle.std.proofs.Common.{arith, ◌≤◌, length}
use Rattle.session_wire.specs.Rules.{sessions_of}
use Rattle.net_model.specs.Environment.{environment, unjudged}
use Rattle.flow_steps.proofs.Performs.{over_becomes}
use Rattle.flow_steps.proofs.Limits.{last_short}
use Rattle.flow_steps.proofs.acts.end.Goals as goal

pub returns-in-Ok-clause-becomes : goal.returns-in-Ok-clause-becomes
returns-in-Ok-clause-becomes g c =
    let at = c.args.at.now in
    let id = c.args.identity.now in
    let list = c.args.sessions.now.list in
    let few : length (sessions_of at.flow list) ≤ 255 = omega (arith, c.requires.kept.owned at.flow) in
    let h = c.in-Ok.ensures.limits c.requires.kept.keys few c.requires.last in
    rw c.step_of.ensures (over_becomes (environment (unjudged g.F.FlowSet.machine g.F.Spelt.reading) id) id.party.0 0 g.F.Spelt.within at c.args.cause c.args.state c.in-Ok.session list c.args.last.now c.in-Ok.ensures.change c.requires.limits.0 c.requires.limits.1 h
    (last_short id.party.0 list at.flow c.args.last.now c.in-Ok.session h.0 c.requires.bare c.in-Ok.ensures.change))
