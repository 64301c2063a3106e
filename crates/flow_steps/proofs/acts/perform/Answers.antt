use Rattle.std.proofs.Common.{◌≡◌, refl}
use Rattle.std.proofs.lemmas.Result.{IfOk-weaker}
use Rattle.flow_machine.specs.declared.acts.Resumed.TheVariants as resumed
use Rattle.session_wire.specs.Rules.{owned}
use Rattle.net_model.specs.Environment.{environment, meaning, unjudged}
use Rattle.net_model.specs.State.{NodeState, nothing}
use Rattle.net_model.specs.Steps.{goes_on, pushes, returns, fails, opens, sends}
use Rattle.flow_steps.specs.Going.{takes_or_lapses, Becomes}
use Rattle.flow_steps.proofs.Performs.{standing, all_perform, by_open, by_send, by_receive, by_receive_until, by_sleep, by_sub, by_return, by_fail, by_reserve, by_look_up, by_missing, by_sign, by_notarise, by_verify, by_record}
use Rattle.flow_steps.proofs.acts.perform.Goals as goal
use Rattle.flow_steps.proofs.acts.perform.Goals.{in-Reserve, in-Lookup, in-Missing, in-Sign, in-Notarise, in-Verify, in-Record}

pub returns-in-Open-clause-performs : goal.returns-in-Open-clause-performs
returns-in-Open-clause-performs g c =
    let at = c.args.at.now in
    let id = c.args.identity.now in
    let me = id.party.0 in
    let now = c.args.cause.moment.0 in
    let m = g.F.FlowSet.machine in
    let r = g.F.Spelt.reading in
    let list = c.args.sessions.now.list in
    let tables = c.args.ledger.now in
    let w = environment (unjudged m r) id in
    all_perform m r id now g.F.Spelt.within list tables at (goes_on w me now at (opens id.nodes me list at.flow c.in-Open.to c.in-Open.class c.in-Open.first)) c.open_session.result (λ judge. by_open (environment (meaning m r judge) id) me now list tables at c.in-Open.to c.in-Open.class c.in-Open.first c.in-Open.is) c.open_session.ensures.becomes

pub returns-in-Send-clause-performs : goal.returns-in-Send-clause-performs
returns-in-Send-clause-performs g c =
    let at = c.args.at.now in
    let id = c.args.identity.now in
    let me = id.party.0 in
    let now = c.args.cause.moment.0 in
    let m = g.F.FlowSet.machine in
    let r = g.F.Spelt.reading in
    let list = c.args.sessions.now.list in
    let tables = c.args.ledger.now in
    let w = environment (unjudged m r) id in
    all_perform m r id now g.F.Spelt.within list tables at (goes_on w me now at (sends me c.in-Send.value (owned at.flow c.in-Send.key list))) c.send_item.result (λ judge. by_send (environment (meaning m r judge) id) me now list tables at c.in-Send.key c.in-Send.value c.in-Send.is) c.send_item.ensures.becomes

pub returns-in-Receive-clause-performs : goal.returns-in-Receive-clause-performs
returns-in-Receive-clause-performs g c =
    let at = c.args.at.now in
    let id = c.args.identity.now in
    let me = id.party.0 in
    let now = c.args.cause.moment.0 in
    let m = g.F.FlowSet.machine in
    let r = g.F.Spelt.reading in
    let list = c.args.sessions.now.list in
    let tables = c.args.ledger.now in
    let w = environment (unjudged m r) id in
    all_perform m r id now g.F.Spelt.within list tables at (goes_on w me now at (takes_or_lapses (owned at.flow c.in-Receive.key list))) c.receive_item.result (λ judge. by_receive (environment (meaning m r judge) id) me now list tables at c.in-Receive.key c.in-Receive.is) c.receive_item.ensures.becomes

pub returns-in-ReceiveBy-clause-performs : goal.returns-in-ReceiveBy-clause-performs
returns-in-ReceiveBy-clause-performs g c =
    let at = c.args.at.now in
    let id = c.args.identity.now in
    let me = id.party.0 in
    let now = c.args.cause.moment.0 in
    let m = g.F.FlowSet.machine in
    let r = g.F.Spelt.reading in
    let list = c.args.sessions.now.list in
    let tables = c.args.ledger.now in
    let w = environment (unjudged m r) id in
    all_perform m r id now g.F.Spelt.within list tables at (goes_on w me now at (takes_or_lapses (owned at.flow c.in-ReceiveBy.key list))) c.receive_item-in-ReceiveBy.result (λ judge. by_receive_until (environment (meaning m r judge) id) me now list tables at c.in-ReceiveBy.key c.in-ReceiveBy.until c.in-ReceiveBy.is) c.receive_item-in-ReceiveBy.ensures.becomes

pub returns-in-Sleep-clause-performs : goal.returns-in-Sleep-clause-performs
returns-in-Sleep-clause-performs g c =
    let at = c.args.at.now in
    let id = c.args.identity.now in
    let me = id.party.0 in
    let now = c.args.cause.moment.0 in
    let m = g.F.FlowSet.machine in
    let r = g.F.Spelt.reading in
    let list = c.args.sessions.now.list in
    let tables = c.args.ledger.now in
    let w = environment (unjudged m r) id in
    all_perform m r id now g.F.Spelt.within list tables at (goes_on w me now at (resumed.Lapsed, nothing)) c.wake.result (λ judge. by_sleep (environment (meaning m r judge) id) me now list tables at c.in-Sleep.until c.in-Sleep.is) c.wake.ensures.becomes

pub returns-in-Sub-clause-performs : goal.returns-in-Sub-clause-performs
returns-in-Sub-clause-performs g c =
    let at = c.args.at.now in
    let id = c.args.identity.now in
    let me = id.party.0 in
    let now = c.args.cause.moment.0 in
    let m = g.F.FlowSet.machine in
    let r = g.F.Spelt.reading in
    let list = c.args.sessions.now.list in
    let tables = c.args.ledger.now in
    let w = environment (unjudged m r) id in
    all_perform m r id now g.F.Spelt.within list tables at (pushes w me now at c.in-Sub.frame) c.push.result (λ judge. by_sub (environment (meaning m r judge) id) me now list tables at c.in-Sub.frame c.in-Sub.is) c.push.ensures.becomes

pub returns-in-Return-clause-performs : goal.returns-in-Return-clause-performs
returns-in-Return-clause-performs g c =
    let at = c.args.at.now in
    let id = c.args.identity.now in
    let me = id.party.0 in
    let now = c.args.cause.moment.0 in
    let m = g.F.FlowSet.machine in
    let r = g.F.Spelt.reading in
    let list = c.args.sessions.now.list in
    let tables = c.args.ledger.now in
    let w = environment (unjudged m r) id in
    all_perform m r id now g.F.Spelt.within list tables at (returns w me (standing list) now at c.in-Return.value at.stack.below) c.give_back.result (λ judge. by_return (environment (meaning m r judge) id) me now list tables at c.in-Return.value c.in-Return.is)
    (IfOk-weaker c.give_back.result (λ step. (s : NodeState _) → s.sessions ≡ list → Becomes g.F.Spelt.within (returns w me s now at c.in-Return.value at.stack.below) step) (Becomes g.F.Spelt.within (returns w me (standing list) now at c.in-Return.value at.stack.below)) (λ step h. h (standing list) refl) c.give_back.ensures.becomes)

pub returns-in-Fail-clause-performs : goal.returns-in-Fail-clause-performs
returns-in-Fail-clause-performs g c =
    let at = c.args.at.now in
    let id = c.args.identity.now in
    let me = id.party.0 in
    let now = c.args.cause.moment.0 in
    let m = g.F.FlowSet.machine in
    let r = g.F.Spelt.reading in
    let list = c.args.sessions.now.list in
    let tables = c.args.ledger.now in
    let w = environment (unjudged m r) id in
    all_perform m r id now g.F.Spelt.within list tables at (fails me (standing {F = g.row.F.Denot} list) at c.in-Fail.code) c.fail.result (λ judge. by_fail (environment (meaning m r judge) id) me now list tables at c.in-Fail.code c.in-Fail.is)
    (IfOk-weaker c.fail.result (λ step. (s : NodeState _) → s.sessions ≡ list → Becomes g.F.Spelt.within (fails me s at c.in-Fail.code) step) (Becomes g.F.Spelt.within (fails me (standing {F = g.row.F.Denot} list) at c.in-Fail.code)) (λ step h. h (standing list) refl) c.fail.ensures.becomes)

pub returns-clause-performs : goal.returns-clause-performs
returns-clause-performs g c =
    let at = c.args.at.now in
    let id = c.args.identity.now in
    let now = c.args.cause.moment.0 in
    let m = g.F.FlowSet.machine in
    let r = g.F.Spelt.reading in
    let within = g.F.Spelt.within in
    let list = c.args.sessions.now.list in
    let tables = c.args.ledger.now in
    let outcome = c.match-at.outcome in
    let step = c.go_on_by.result in
    let becomes = c.go_on_by.ensures.becomes in
    elim c.match-at.branch [
      | in-Reserve w ↦ by_reserve m r id now within list tables at w.in-Reserve.token w.in-Reserve.amount outcome w.reserve-outcome.result step w.in-Reserve.is w.outcome-is w.reserve-outcome.ensures.done becomes
      | in-Lookup w ↦ by_look_up m r id now within list tables at w.in-Lookup.id outcome w.look_up-outcome.result step w.in-Lookup.is w.outcome-is w.look_up-outcome.ensures.done becomes
      | in-Missing w ↦ by_missing m r id now within list tables at w.in-Missing.tx outcome w.missing-outcome.result step w.in-Missing.is w.outcome-is (rw w.get.ensures at w.missing-outcome.ensures.done) becomes
      | in-Sign w ↦ by_sign m r id now within list tables at w.in-Sign.id outcome w.sign.result step w.in-Sign.is w.outcome-is w.sign.ensures.done becomes
      | in-Notarise w ↦ by_notarise m r id now within list tables at w.in-Notarise.request outcome w.notarise-outcome.result step w.in-Notarise.is w.outcome-is (rw w.get-in-Notarise.ensures at w.notarise-outcome.ensures.done) becomes
      | in-Verify w ↦ by_verify m r id now within list tables at w.in-Verify.tx outcome w.verify_unjudged.result step w.in-Verify.is c.requires.job w.outcome-is w.verify_unjudged.ensures.done becomes
      | in-Record w ↦ by_record m r id now within list tables at w.in-Record.stx outcome w.record_unjudged.result step w.in-Record.is c.requires.job w.outcome-is (rw (w.store.ensures, w.get-in-Record.ensures) at w.record_unjudged.ensures.done) becomes
    ]
