use Rattle.std.proofs.Common.{Some, sym, ◌∙◌, ap}
use Rattle.net_base.specs.declared.causes.Cause.{Cause}
use Rattle.net_model.specs.Environment.{judge_without_contracts}
use Rattle.net_model.specs.Steps.{next_cause}
use Rattle.session_wire.specs.Sessions.{Sent}
use Rattle.node_tables.specs.Journals.{state_of}
use Rattle.node_core.proofs.Commits.{room_early}
use Rattle.node_core.proofs.up.Up.commit_item.Goals as goal

pub accepting-requires-clause-early : goal.accepting-requires-clause-early
accepting-requires-clause-early g c = room_early g.F.Spelt.reading c.args.item.stamp c.args.self.now.bodies c.requires.room

pub commit-requires-clause-ready : goal.commit-requires-clause-ready
commit-requires-clause-ready g c =
    let s = state_of g.F.Spelt.reading c.args.self.now.bodies in
    let item = c.args.item in
    let sent : Sent = record { body = item.body; stamp = item.stamp } in
    let is = c.in_ok-step.ensures.cause in (
      judge_without_contracts,
      Some sent,
      record {
        room = c.requires.room;
        cause = is ∙ sym (ap (λ (k : Cause). next_cause s c.args.now.0 k.event (Some sent)) is);
        ready = c.in_ok-step.ensures.ready;
      },
    )
