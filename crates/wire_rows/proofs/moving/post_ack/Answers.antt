use Rattle.std.proofs.Common.{refl}
use Rattle.wire_rows.proofs.moving.post_ack.Goals as goal

pub returns-in-Some-clause-moves : goal.returns-in-Some-clause-moves
returns-in-Some-clause-moves g c at = rw c.in-Some.is (c.post_to.ensures.moves at)

pub returns-in-Some-clause-posted : goal.returns-in-Some-clause-posted
returns-in-Some-clause-posted g c = rw c.in-Some.is (_, c.post_to.ensures.posted, refl)
