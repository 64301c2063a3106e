use Rattle.session_acts.proofs.Owning.{place_below}
use Rattle.session_acts.proofs.acts.taken_with.Goals as goal

pub number_behind-requires : goal.number_behind-requires
number_behind-requires c = place_below c.args.key.now c.args.sessions.now.list c.in_ok-number.number c.in_ok-count.count c.in_ok-number.ensures c.in_ok-count.ensures
