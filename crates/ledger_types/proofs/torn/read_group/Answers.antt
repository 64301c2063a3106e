use Rattle.std.proofs.Common.{arith}
use Rattle.ledger_types.proofs.torn.read_group.Goals.{then-room-lt64, else-room-lt64}
use Rattle.ledger_types.proofs.torn.read_group.Goals as goal

pub returns-in_ok-read_list-in_default-clause-few :
    goal.returns-in_ok-read_list-in_default-clause-few
returns-in_ok-read_list-in_default-clause-few c =
    elim c.if-room-lt64.branch [
      | then-room-lt64 w ↦ omega (arith, w.limit-is, c.in_ok-read_list-in_default.ensures.few)
      | else-room-lt64 w ↦ omega (arith, w.limit-is, w.if-room-lt64.false, c.in_ok-read_list-in_default.ensures.few)
    ]
