use Rattle.std.proofs.Common.{◌≡◌, ◌<◌, length, sym, subst, arith}
use Rattle.std.proofs.lemmas.Result.{IfOk-weaker}
use Rattle.net_model.specs.Environment.{environment, unjudged}
use Rattle.net_model.specs.Sound.{IsNumbered}
use Rattle.net_model.specs.State.{NodeState}
use Rattle.net_model.specs.Steps.{returns as returns_of}
use Rattle.session_wire.specs.declared.body.Body.TheVariants as body_of
use Rattle.flow_records.specs.Records.{IsFlow}
use Rattle.flow_steps.specs.Going.{over, Becomes}
use Rattle.flow_steps.proofs.Performs.{returned_limits, returned_numbered, returned_becomes, ended_means}
use Rattle.flow_steps.proofs.acts.give_back.Goals as goal

pub returns-clause-becomes : goal.returns-clause-becomes
returns-clause-becomes g c = λ s same.
    let at = c.args.at.now in
    let id = c.args.identity.now in
    let deep : 0 < length at.stack.below = grind (arith, c.if-depth-eq1.false, c.depth.ensures.count) in
    rw c.step_of.ensures (returned_becomes (environment (unjudged g.F.FlowSet.machine g.F.Spelt.reading) id) id.party.0 c.args.cause.moment.0 g.F.Spelt.within at c.args.cause s c.in_ok-state.state c.unchanged-session.result c.args.value.now c.in_ok-state.ensures c.unchanged-session.ensures
    (returned_limits g.F.FlowSet.machine g.F.Spelt.reading g.F.Spelt.within g.met.F.FlowSet.keeps_limits id c.requires.identity c.args.cause.moment c.law_known.ensures at c.requires.limits c.requires.step c.args.value.now c.requires.value)
    deep)

pub end-step-requires-clause-limits : goal.end-step-requires-clause-limits
end-step-requires-clause-limits g c =
    let at = c.args.at.now in
    let id = c.args.identity.now in (
      subst (IsFlow g.F.Spelt.within) (sym c.in_ok-state.ensures) (returned_limits g.F.FlowSet.machine g.F.Spelt.reading g.F.Spelt.within g.met.F.FlowSet.keeps_limits id c.requires.identity c.args.cause.moment c.law_known.ensures at c.requires.limits c.requires.step c.args.value.now c.requires.value),
      subst (IsNumbered at.flow) (sym c.in_ok-state.ensures) (returned_numbered (environment (unjudged g.F.FlowSet.machine g.F.Spelt.reading) id) id.party.0 c.args.cause.moment.0 at c.args.value.now at.stack.below),
    )

pub returns-then-depth-eq1-clause-becomes : goal.returns-then-depth-eq1-clause-becomes
returns-then-depth-eq1-clause-becomes g c =
    let at = c.args.at.now in
    let id = c.args.identity.now in
    let w = environment (unjudged g.F.FlowSet.machine g.F.Spelt.reading) id in
    let none : length at.stack.below ≡ 0 = omega (arith, c.if-depth-eq1.true, c.depth.ensures.count) in
    IfOk-weaker c.end-step.result
    (λ step. Becomes g.F.Spelt.within (over id.party.0 c.args.sessions.now.list at c.in_ok-state.state body_of.End) step)
    (λ step. (s : NodeState _) → s.sessions ≡ c.args.sessions.now.list → Becomes g.F.Spelt.within (returns_of w id.party.0 s c.args.cause.moment.0 at c.args.value.now at.stack.below) step)
    (λ x b s same. subst (λ e. Becomes g.F.Spelt.within e x) (ended_means w id.party.0 c.args.cause.moment.0 at s c.args.sessions.now.list c.in_ok-state.state c.args.value.now at.stack.below same none c.in_ok-state.ensures) b)
    c.end-step.ensures.becomes
