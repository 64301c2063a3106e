use Rattle.std.proofs.Common.{◌≡◌, Some, length, sym, ◌∙◌, ap}
use Rattle.std.proofs.lemmas.Result.{IfOk-weaker}
use Rattle.net_base.specs.declared.causes.Event.{Event}
use Rattle.net_model.specs.Sound.{steps_of}
use Rattle.net_model.specs.State.{with_ids}
use Rattle.flow_steps.specs.Awaiting.{job_of}
use Rattle.node_tables.specs.Journals.{state_of}
use Rattle.node_core.specs.Claims.{StillWaits}
use Rattle.node_core.proofs.Kept.{all_below}
use Rattle.node_core.proofs.up.Up.settled.Goals as goal

pub settle-requires-clause-steps : goal.settle-requires-clause-steps
settle-requires-clause-steps g c =
    rw c.flows-flows.ensures (all_below (λ flow. steps_of flow) (length c.self.inside.tables.bodies) (state_of g.F.Spelt.reading c.self.inside.tables.bodies).flows c.law_kept.ensures.few c.law_kept.ensures.steps)

pub settle-requires-clause-waits : goal.settle-requires-clause-waits
settle-requires-clause-waits g c =
    let id = c.args.identity.now in
    let s = state_of g.F.Spelt.reading c.self.inside.tables.bodies in
    let waits : StillWaits id s c.args.done.job = rw (← c.self.view_is) at c.requires.waits in
    (with_ids s.stored, ap (λ l. job_of id (with_ids s.stored) l c.args.cause.event) c.flows-flows.ensures ∙ ap (λ (e : Event). job_of id (with_ids s.stored) s.flows e) c.requires.moves ∙ waits.waits)

pub returns-clause-ready : goal.returns-clause-ready
returns-clause-ready g c =
    let id = c.args.identity.now in
    let s = state_of g.F.Spelt.reading c.self.inside.tables.bodies in
    let waits : StillWaits id s c.args.done.job = rw (← c.self.view_is) at c.requires.waits in
    let job : job_of id (with_ids s.stored) s.flows c.args.cause.event ≡ Some c.args.done.job = ap (λ (e : Event). job_of id (with_ids s.stored) s.flows e) c.requires.moves ∙ waits.waits in
    rw (← c.self.view_is) (IfOk-weaker c.settle.result _ _ (λ step ready. ready (g.J.Judge.judges c.args.contracts.now) c.requires.run s (sym c.flows-flows.ensures) job) c.settle.ensures.ready)
