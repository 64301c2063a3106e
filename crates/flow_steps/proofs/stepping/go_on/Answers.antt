use Rattle.std.proofs.Common.{◌≡◌, refl, sym, ap, subst}
use Rattle.std.proofs.lemmas.Result.{IfOk-weaker}
use Rattle.net_model.specs.Environment.{environment, unjudged}
use Rattle.net_model.specs.Steps.{goes_on}
use Rattle.flow_records.specs.Steps.{whole_part}
use Rattle.flow_steps.specs.Going.{changed_by, gone_on, Becomes}
use Rattle.flow_steps.proofs.Performs.{gone_limits, gone_becomes}
use Rattle.flow_steps.proofs.stepping.go_on.Goals as goal

pub returns-clause-becomes : goal.returns-clause-becomes
returns-clause-becomes g c =
    let at = c.args.at.now in
    let id = c.args.identity.now in
    let w = environment (unjudged g.F.FlowSet.machine g.F.Spelt.reading) id in
    let now = c.args.cause.moment.0 in
    let new = gone_on w id.party.0 now at at.stack.top at.stack.below c.args.with in
    let stack = c.requires.limits.1.1.1.1 in
    IfOk-weaker c.step_with.result (λ step. step ≡ changed_by c.args.cause at.flow new c.args.session c.args.ledger) (Becomes g.F.Spelt.within (goes_on w id.party.0 now at (c.args.with, whole_part c.args.session c.args.ledger)))
    (λ step is. subst (Becomes g.F.Spelt.within (goes_on w id.party.0 now at (c.args.with, whole_part c.args.session c.args.ledger))) (sym is)
    (gone_becomes w id.party.0 now g.F.Spelt.within at c.args.cause new c.args.with c.args.session c.args.ledger refl
    (gone_limits g.F.FlowSet.machine g.F.Spelt.reading g.F.Spelt.within g.met.F.FlowSet.keeps_limits id c.requires.identity c.args.cause.moment c.law_known.ensures at c.requires.limits c.requires.step at.stack.top at.stack.below c.args.with stack.0 stack.1.0 stack.1.1 c.requires.with)
    c.requires.session c.requires.short c.requires.ledger))
    (c.step_with.ensures new c.resume-state.ensures)

pub returns-clause-cause : goal.returns-clause-cause
returns-clause-cause g c =
    let at = c.args.at.now in
    let id = c.args.identity.now in
    let w = environment (unjudged g.F.FlowSet.machine g.F.Spelt.reading) id in
    let new = gone_on w id.party.0 c.args.cause.moment.0 at at.stack.top at.stack.below c.args.with in
    IfOk-weaker c.step_with.result (λ step. step ≡ changed_by c.args.cause at.flow new c.args.session c.args.ledger) (λ step. step.cause ≡ c.args.cause)
    (λ step is. ap (λ x. x.cause) is) (c.step_with.ensures new c.resume-state.ensures)
