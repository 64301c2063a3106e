use Rattle.std.proofs.Common.{sym, ◌∙◌, ap, subst}
use Rattle.checkpoints.specs.Tables.{IsRising}
use Rattle.checkpoints.proofs.Live.{live_rises}
use Rattle.flow_steps.specs.Going.{first_of}
use Rattle.flow_steps.proofs.Firsts.{behind_place, passed_over}
use Rattle.flow_steps.proofs.picking.first_from.Goals as goal

pub place_of-place-requires : goal.place_of-place-requires
place_of-place-requires g c = subst IsRising (sym c.live-numbers.ensures) (live_rises 0 c.args.flows.now.flows)

pub returns : goal.returns
returns g c =
    let list = c.args.sessions.now.list in
    let flows = c.args.flows.now.flows in
    let numbers = c.live-numbers.result.now in
    let place = c.place_of-place.result in
    c.first_event.ensures
    ∙ ap (first_of list c.args.now.0 flows) (behind_place place numbers)
    ∙ passed_over list c.args.now.0 flows c.args.idle place numbers c.place_of-place.ensures.below c.place_of-place.ensures.bound c.requires
    ∙ ap (first_of list c.args.now.0 flows) c.live-numbers.ensures
