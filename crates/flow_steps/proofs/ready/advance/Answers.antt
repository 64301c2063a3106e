use Rattle.std.proofs.Common.{◌≡◌, ◌<◌, ◌-◌, ◌^◌, Some, None, sym, ◌∙◌}
use Rattle.net_base.proofs.Lists.{all_get}
use Rattle.net_model.specs.Environment.{Judgement, environment, meaning}
use Rattle.net_model.specs.Sound.{steps_of}
use Rattle.net_model.specs.State.{NodeState}
use Rattle.node_ledger.specs.Ledgered.{ledger_in, HoldsLedger}
use Rattle.flow_machine.specs.declared.flows.FlowState.TheVariants.{Live}
use Rattle.flow_steps.proofs.Jobs.{job_there, live_within}
use Rattle.flow_steps.proofs.Picks.{goes, goes_at, goes_not}
use Rattle.flow_steps.specs.Going.{Performs}
use Rattle.flow_steps.specs.Ready.{IsReady}
use Rattle.flow_steps.proofs.Commits.{goes_ready}
use Rattle.flow_steps.proofs.Performs.{if_both}
use Rattle.flow_steps.proofs.ready.advance.Goals as goal

pub unreachable-requires : goal.unreachable-requires
unreachable-requires g c =
    let list = c.args.sessions.now.list in
    let go = goes list c.args.cause.moment.0 c.requires.picked.0 c.args.flows.now.flows c.args.cause.event c.requires.numbered c.requires.picked.1 in
    goes_not list c.args.cause.moment.0 c.flow_in.result c.args.flows.now.flows c.args.cause.event go c.flow_in.ensures c.in_default.ensures.checkpoint

pub perform-requires-clause-step : goal.perform-requires-clause-step
perform-requires-clause-step g c =
    let list = c.args.sessions.now.list in
    let go = goes list c.args.cause.moment.0 c.requires.picked.0 c.args.flows.now.flows c.args.cause.event c.requires.numbered c.requires.picked.1 in
    let p = goes_at list c.args.cause.moment.0 c.flow_in.result c.args.flows.now.flows c.args.cause.event c.in-Some.at.now go c.flow_in.ensures c.in-Some.ensures.checkpoint in
    all_get (λ flow. steps_of flow < 2 ^ 32 - 1) c.args.flows.now.flows c.flow_in.result (Live c.in-Some.at.now) c.requires.steps p.0

pub perform-requires-clause-limits : goal.perform-requires-clause-limits
perform-requires-clause-limits g c = live_within g.F.Spelt.within c.args.flows.now.flows c.flow_in.result c.in-Some.at.now c.requires.limits c.in-Some.ensures.checkpoint

pub perform-requires-clause-job : goal.perform-requires-clause-job
perform-requires-clause-job g c = sym (job_there c.args.identity.now c.args.ledger.now.store.list c.args.flows.now.flows c.args.cause.event c.flow_in.result (Some c.in-Some.at.now) c.flow_in.ensures c.in-Some.ensures.checkpoint) ∙ c.requires.job

pub returns-clause-ready : goal.returns-clause-ready
returns-clause-ready g c =
    let id = c.args.identity.now in
    let m = g.F.FlowSet.machine in
    let r = g.F.Spelt.reading in
    let now = c.args.cause.moment.0 in
    let list = c.args.sessions.now.list in
    let tables = c.args.ledger.now in
    let go = goes list now c.requires.picked.0 c.args.flows.now.flows c.args.cause.event c.requires.numbered c.requires.picked.1 in
    let p = goes_at list now c.flow_in.result c.args.flows.now.flows c.args.cause.event c.in-Some.at.now go c.flow_in.ensures c.in-Some.ensures.checkpoint in
    if_both (λ step. step.cause ≡ c.args.cause) (λ step. (judge : Judgement) → Performs (environment (meaning m r judge) id) id.party.0 now g.F.Spelt.within list tables c.in-Some.at.now step)
    (λ step. (judge : Judgement) → (s : NodeState _) → s.flows ≡ c.args.flows.now.flows → s.sessions ≡ list → HoldsLedger id.party (ledger_in s) tables → IsReady (environment (meaning m r judge) id) id.party.0 now g.F.Spelt.within s None step) c.perform.result
    (λ step is does judge s same also holds. goes_ready (environment (meaning m r judge) id) id.party.0 now c.flow_in.result g.F.Spelt.within c.args.flows.now.flows list tables c.args.cause c.in-Some.at.now step c.in-Some.ensures.own p.0 p.1 p.2 c.flow_in.type_inv is (does judge) s same also holds)
    c.perform.ensures.cause c.perform.ensures.performs
