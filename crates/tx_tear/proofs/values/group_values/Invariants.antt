use Rattle.std.proofs.Common.{◌≡◌, take, map}
use Rattle.ledger_types.specs.Tears.{group_value}
use Rattle.tx_tear.proofs.values.group_values.Given as goal

abbrev pub invariant-loop-torn : goal.invariant-loop-torn
invariant-loop-torn l = l.values.items ≡ map group_value (take l.torn-index l.groups)
