use Rattle.std.proofs.Common.{◌≡◌, Option, Some, None, sym, subst, arith, ◌∙◌}
use Rattle.std.specs.Prelude.{IfSome}
use Rattle.transition_record.specs.Changes.{IsSession}
use Rattle.net_model.specs.Environment.{environment, unjudged}
use Rattle.flow_records.specs.declared.step.FlowAfter.{FlowAfter}
use Rattle.flow_records.specs.Steps.{IsAfter}
use Rattle.flow_steps.specs.Going.{begun_for}
use Rattle.flow_steps.proofs.Limits.{room_short}
use Rattle.flow_steps.proofs.Commits.{answer_ready, answer_owner}
use Rattle.flow_steps.proofs.accepting.answer_init.Goals as goal

pub returns-in-Ok-clause-ready : goal.returns-in-Ok-clause-ready
returns-in-Ok-clause-ready g c = λ s same new.
    let m = g.F.FlowSet.machine in
    let r = g.F.Spelt.reading in
    let id = c.args.identity.now in
    let n = c.args.number in
    let flow = c.in-Some.flow in
    let change = c.in-Ok.session in
    let is : Some flow ≡ begun_for (environment (unjudged m r) id) id.party.0 c.args.now.0 n c.args.key c.args.init = sym c.in-Some.is ∙ c.in_ok-flow.ensures.flow in
    let limits : IfSome (Some flow) (IsAfter g.F.Spelt.within) = subst (λ (o : Option (FlowAfter _)). IfSome o (IsAfter g.F.Spelt.within)) c.in-Some.is c.in_ok-flow.ensures.within in
    let h : IsSession n (Some c.args.key) change = c.in-Ok.ensures.limits c.requires.key c.requires.body in
    rw c.whole.ensures (answer_ready m r id c.args.now.0 n g.F.Spelt.within c.args.stamp c.args.now c.args.key c.args.init (Some flow) change c.requires.init c.requires.key is limits c.in-Ok.ensures.change
    (subst (λ k. IsSession k (Some c.args.key) change) (sym (answer_owner m r id c.args.now.0 n c.args.key c.args.init flow is)) h)
    (room_short change h.0 (omega (arith, c.in-Ok.ensures.room)))
    s same new)

pub returns-in_ok-session-in-None-clause-ready : goal.returns-in_ok-session-in-None-clause-ready
returns-in_ok-session-in-None-clause-ready g c = λ s same new.
    let m = g.F.FlowSet.machine in
    let r = g.F.Spelt.reading in
    let id = c.args.identity.now in
    let n = c.args.number in
    let change = c.in_ok-session-in-None.session in
    let is : None ≡ begun_for (environment (unjudged m r) id) id.party.0 c.args.now.0 n c.args.key c.args.init = sym c.in-None.is ∙ c.in_ok-flow.ensures.flow in
    let h : IsSession 0 (Some c.args.key) change = c.in_ok-session-in-None.ensures.limits c.requires.key c.requires.body in
    rw c.whole-in-None.ensures (answer_ready m r id c.args.now.0 n g.F.Spelt.within c.args.stamp c.args.now c.args.key c.args.init None change c.requires.init c.requires.key is tt c.in_ok-session-in-None.ensures.change
    h
    (room_short change h.0 (omega (arith, c.in_ok-session-in-None.ensures.room)))
    s same new)
