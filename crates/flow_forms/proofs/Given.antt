-- What a call gave.
use Rattle.std.specs.Prelude.{◌≡◌, Result, Ok, Err}
use Rattle.flow_machine.specs.declared.flow_set.MakeFault.{MakeFault}
use Rattle.flow_machine.specs.Flows.{GivesMade}

-- what was made is what was meant
pub made_is : {X : Type 0} (r meant : Result X MakeFault) (x : X) → GivesMade r meant → r ≡ Ok x → meant ≡ Ok x
made_is (Ok y) meant x given e = let same : y ≡ x = cc in cc (given, same)
made_is (Err f) meant x given e = absurd cc
