use Rattle.std.proofs.Common.{◌≡◌, ◌<◌, ◌-◌, ◌^◌, ℕ, List, Some, None, IfOk, slice_get, sym, ◌∙◌, ap, subst}
use Rattle.std.specs.Option.{option_and_then}
use Rattle.net_base.proofs.Lists.{all_get}
use Rattle.signing.specs.Marks.{keyed_mark}
use Rattle.flow_machine.specs.declared.flows.FlowState.{FlowState}
use Rattle.flow_machine.specs.declared.flows.FlowState.TheVariants.{Live}
use Rattle.net_model.specs.Environment.{Judgement, environment, meaning, unjudged}
use Rattle.net_model.specs.Sound.{steps_of}
use Rattle.net_model.specs.State.{NodeState, with_ids}
use Rattle.net_model.specs.Steps.{checkpoint_of, goes_on}
use Rattle.ledger_acts.specs.Acts.{IsOutcome}
use Rattle.ledger_acts.specs.Jobs.{IsRun, conclusion}
use Rattle.ledger_acts.proofs.Judging.{jobs_are_within}
use Rattle.flow_steps.specs.Awaiting.{job_of}
use Rattle.flow_steps.specs.Going.{flow_in, Becomes}
use Rattle.flow_steps.specs.Ready.{IsReady}
use Rattle.flow_steps.proofs.Commits.{settled_ready}
use Rattle.flow_steps.proofs.Jobs.{job_there, live_there, live_within}
use Rattle.flow_steps.proofs.Performs.{if_both}
use Rattle.flow_steps.proofs.settling.settle.Goals as goal

pub unreachable-requires : goal.unreachable-requires
unreachable-requires g c =
    let none = job_there c.args.identity.now c.requires.waits.0 c.args.flows.now.flows c.args.cause.event c.flow_in.result None c.flow_in.ensures c.in_default.ensures.checkpoint in
    let some = c.requires.waits.1 in
    cc

pub go_on_by-requires-clause-step : goal.go_on_by-requires-clause-step
go_on_by-requires-clause-step g c =
    let n = c.flow_in.result in
    all_get (λ flow. steps_of flow < 2 ^ 32 - 1) c.args.flows.now.flows n (Live c.in-Some.at.now) c.requires.steps (live_there (slice_get c.args.flows.now.flows n) c.in-Some.at.now c.in-Some.ensures.checkpoint)

pub go_on_by-requires-clause-limits : goal.go_on_by-requires-clause-limits
go_on_by-requires-clause-limits g c = live_within g.F.Spelt.within c.args.flows.now.flows c.flow_in.result c.in-Some.at.now c.requires.limits c.in-Some.ensures.checkpoint

pub go_on_by-requires-clause-outcome : goal.go_on_by-requires-clause-outcome
go_on_by-requires-clause-outcome g c =
    let at = c.in-Some.at.now in
    let id = c.args.identity.now in
    let store = c.requires.waits.0 in
    let flows = c.args.flows.now.flows in
    let n = c.flow_in.result in
    let within = live_within g.F.Spelt.within flows n at c.requires.limits c.in-Some.ensures.checkpoint in
    let waits = sym (job_there id store flows c.args.cause.event n (Some at) c.flow_in.ensures c.in-Some.ensures.checkpoint) ∙ c.requires.waits.1 in
    let own : at.flow ≡ c.args.done.job.flow = c.in-Some.ensures.own ∙ c.flow_in.ensures ∙ ap flow_in c.requires.moves in
    subst (λ (f : ℕ). IfOk c.conclude.result (IsOutcome f)) (sym own) (c.conclude.ensures.limits (jobs_are_within g.F.Spelt.within id store at c.args.done.job within.1.1.1.0 waits))

pub returns-clause-ready : goal.returns-clause-ready
returns-clause-ready g c =
    let at = c.in-Some.at.now in
    let id = c.args.identity.now in
    let m = g.F.FlowSet.machine in
    let r = g.F.Spelt.reading in
    let flows = c.args.flows.now.flows in
    let cause = c.args.cause in
    let now = cause.moment.0 in
    let done = c.args.done in
    let n = c.flow_in.result in
    let number : n ≡ done.job.flow = c.flow_in.ensures ∙ ap flow_in c.requires.moves in
    let small : done.job.flow < 2 ^ 32 = subst (λ (k : ℕ). k < 2 ^ 32) number c.flow_in.type_inv in
    let there : slice_get flows done.job.flow ≡ Some (Live at) = ap (slice_get flows) (sym number) ∙ live_there (slice_get flows n) at c.in-Some.ensures.checkpoint in
    if_both (λ step. step.cause ≡ cause) (Becomes g.F.Spelt.within (goes_on (environment (unjudged m r) id) id.party.0 now at (conclusion done)))
    (λ step. (judge : Judgement) → IsRun judge keyed_mark done → (s : NodeState _) → s.flows ≡ flows → job_of id (with_ids s.stored) s.flows cause.event ≡ Some done.job → IsReady (environment (meaning m r judge) id) id.party.0 now g.F.Spelt.within s None step) c.go_on_by.result
    (λ step is b judge run s same waits.
    let found : Some at ≡ option_and_then checkpoint_of (slice_get s.flows n) = c.in-Some.ensures.checkpoint ∙ ap (λ (l : List (FlowState _)). option_and_then checkpoint_of (slice_get l n)) (sym same) in
    settled_ready m r id now at done judge run s g.F.Spelt.within cause step (ap (λ (l : List (FlowState _)). slice_get l done.job.flow) same ∙ there)
    (sym (job_there id (with_ids s.stored) s.flows cause.event n (Some at) c.flow_in.ensures found) ∙ waits) c.requires.moves small is b)
    c.go_on_by.ensures.cause (c.go_on_by.ensures.becomes (conclusion done) c.conclude.ensures.done)
