use Rattle.std.proofs.Common.{sym, ◌∙◌, ap, subst}
use Rattle.flow_machine.specs.declared.acts.Resumed.TheVariants as resumed
use Rattle.net_model.specs.State.{nothing}
use Rattle.net_model.specs.Steps.{receives}
use Rattle.session_wire.specs.Rules.{owned}
use Rattle.session_acts.specs.Parts.{done_of}
use Rattle.flow_steps.specs.Going.{IsDone}
use Rattle.flow_steps.proofs.Limits.{done_with, done_without, receive_done, lapse_done}
use Rattle.flow_steps.proofs.acts.take_item.Goals as goal

pub returns-in-Some-clause-done : goal.returns-in-Some-clause-done
returns-in-Some-clause-done c = done_with (receives (owned c.args.flow c.args.key.now c.args.sessions.now.list)) (done_of c.in-Some.done) (resumed.Lapsed, nothing) (rw c.in-Some.is at c.in_ok-found.ensures.done)

pub returns-in-Some-clause-within : goal.returns-in-Some-clause-within
returns-in-Some-clause-within c = λ key kept.
    receive_done c.args.flow c.args.key.now c.args.sessions.now.list c.in-Some.done (rw c.in-Some.is at c.in_ok-found.ensures.done) kept.held (rw c.in-Some.is at (c.in_ok-found.ensures.limits key)) (rw c.in-Some.is at c.in_ok-found.ensures.room)

pub returns-in-None-clause-done : goal.returns-in-None-clause-done
returns-in-None-clause-done c = ap done_of c.lapse.ensures ∙ done_without (receives (owned c.args.flow c.args.key.now c.args.sessions.now.list)) (resumed.Lapsed, nothing) (rw c.in-None.is at c.in_ok-found.ensures.done)

pub returns-in-None-clause-within : goal.returns-in-None-clause-within
returns-in-None-clause-within c = λ key kept. subst (IsDone c.args.flow) (sym c.lapse.ensures) (lapse_done c.args.flow)
