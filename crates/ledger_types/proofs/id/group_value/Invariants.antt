use Rattle.std.proofs.Common.{◌≡◌, take, map, length}
use Rattle.ledger_types.specs.Ids.{leaves_from}
use Rattle.ledger_types.proofs.id.group_value.Given as goal

abbrev pub invariant-loop-i : goal.invariant-loop-i
invariant-loop-i g l = record { made : take l.i l.leaves ≡ leaves_from l.salt l.ordinal 0 (map g.P.Part.text (take l.i l.items)); long : length l.leaves ≡ 64 }
