-- What reading a tear-off answers.
use Rattle.std.specs.Prelude.{◌≡◌, Option, Some, None, Result, Ok, Err}
use Rattle.tx_tear.specs.declared.reading.TearFault.{TearFault}
use Rattle.tx_tear.specs.declared.reading.TearFault.TheVariants.{BadTear, Memory}

-- the value where there is one, BadTear where there is none; memory may run out
abbrev pub Tells : {V : Type 0} → Result V TearFault → Option V → Type 0
Tells (Ok v) o = o ≡ Some v
Tells (Err BadTear) o = o ≡ None
Tells (Err Memory) o = Unit {0}
