use Rattle.std.proofs.Common.{◌≡◌, List, sym, subst, arith, ◌+◌}
use Rattle.std.proofs.lemmas.Result.{IfOk-weaker}
use Rattle.net_model.specs.State.{NodeState}
use Rattle.net_model.specs.Steps.{fails}
use Rattle.session_wire.specs.Sessions.{Session}
use Rattle.session_wire.specs.declared.body.Body.TheVariants as body_of
use Rattle.flow_machine.specs.declared.flows.FlowState.TheVariants as state
use Rattle.flow_steps.specs.Going.{over, Becomes}
use Rattle.flow_steps.proofs.acts.fail.Goals as goal

pub returns-clause-becomes : goal.returns-clause-becomes
returns-clause-becomes g c =
    let at = c.args.at.now in
    let me = c.args.identity.now.party.0 in
    IfOk-weaker c.end-step.result
    (λ step. Becomes g.F.Spelt.within (over me c.args.sessions.now.list at (state.Failed (at.step + 1) at.class c.args.code) (body_of.Error c.args.code)) step)
    (λ step. (s : NodeState _) → s.sessions ≡ c.args.sessions.now.list → Becomes g.F.Spelt.within (fails me s at c.args.code) step)
    (λ x b s same. subst (λ (l : List Session). Becomes g.F.Spelt.within (over me l at (state.Failed (at.step + 1) at.class c.args.code) (body_of.Error c.args.code)) x) (sym same) b)
    c.end-step.ensures.becomes

pub end-step-requires-clause-limits : goal.end-step-requires-clause-limits
end-step-requires-clause-limits g c = ((omega (arith, c.requires.step), (c.requires.limits.1.1.0, omega (arith, c.ranges.code.fits))), tt)
