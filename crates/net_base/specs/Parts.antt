-- What functions that read and write parts of a value do.
use Rattle.std.specs.Prelude.{◌≡◌, ◌+◌, ℕ, List, ◌++◌, length, Option, Some, None, Result, Ok, Err}
use Rattle.net_base.specs.declared.fault.PartFault.{PartFault}
use Rattle.net_base.specs.declared.fault.PartFault.TheVariants as faults
use Rattle.net_base.specs.declared.fault.DecodeFault.{DecodeFault}
use Rattle.net_base.specs.declared.fault.DecodeFault.TheVariants as decoding
use Rattle.net_base.specs.Reading.{Reading}
use Rattle.net_base.specs.Laws.{IsFault}

-- the same end
abbrev pub SameEnd : Reading → Reading → Type 0
SameEnd old new = new.place + length new.left ≡ old.place + length old.left

-- memory ran out, or reading fails as told
abbrev pub Fails : {Y : Type 0} → PartFault → Result Y ℕ → Type 0
Fails faults.Memory read = Unit {0}
Fails (faults.Left n) read = read ≡ Err n

-- What a function returned, seen by view, is what reading gives, unless memory ran out.
abbrev pub Gives : {X Y : Type 0} → (X → Y) → Result X PartFault → Reading → Reading → Result (Y × List ℕ) ℕ → Type 0
Gives view (Ok x) old new read = (read ≡ Ok (view x, new.left)) × SameEnd old new
Gives view (Err e) old new read = Fails e read

-- memory isn't what was wanting
abbrev pub TakesNoMemory : {X : Type 0} → Result X PartFault → Type 0
TakesNoMemory (Err faults.Memory) = ⊥
TakesNoMemory (Err (faults.Left n)) = Unit {0}
TakesNoMemory (Ok x) = Unit {0}

-- the bytes begin with those of old
abbrev pub Grows : List ℕ → List ℕ → Type 0
Grows old new = (more : List ℕ) × (new ≡ old ++ more)

-- The text is written at the end; where memory runs out, a front of it may be.
abbrev pub Writes : {U E : Type 0} → List ℕ → Result U E → List ℕ → List ℕ → Type 0
Writes text (Ok done) old new = new ≡ old ++ text
Writes text (Err e) old new = Grows old new

-- none, at the place
abbrev pub IsMalformed : Type 0 → ℕ → DecodeFault → Type 0
IsMalformed none place decoding.Memory = Unit {0}
IsMalformed none place (decoding.Malformed at) = (at ≡ place) × none

-- a spelling of v stands in front of the rest
abbrev pub Begins : {V : Type 0} → (V → Type 0) → (V → List ℕ) → V → List ℕ → List ℕ → Type 0
Begins within spelling v bytes rest = within v × (bytes ≡ spelling v ++ rest)

-- The value whose spelling begins there, or none begins there and nothing is read. Memory may run out.
abbrev pub Decodes : {V : Type 0} → (V → Type 0) → (V → List ℕ) → Result V DecodeFault → Reading → Reading → Type 0
Decodes {V} within spelling (Ok v) old new = Begins within spelling v old.left new.left × (SameEnd old new × ((w : V) (rest : List ℕ) → Begins within spelling w old.left rest → w ≡ v))
Decodes {V} within spelling (Err e) old new = (new ≡ old) × IsMalformed ((v : V) (rest : List ℕ) → Begins within spelling v old.left rest → ⊥) old.place e

-- No value's spelling is all of the bytes, and at is the first place at which none goes on.
pub record IsFirstFault {V : Type 0} (within : V → Type 0) (spelling : V → List ℕ) (bytes : List ℕ) (at : ℕ) : Type 0 where
  pub left : ℕ
  pub place : at + left ≡ length bytes
  pub fault : IsFault within spelling bytes left
  pub none : (v : V) → within v → bytes ≡ spelling v → ⊥

-- memory ran out, or the first place at which no spelling goes on
abbrev pub WholeFault : {V : Type 0} → (V → Type 0) → (V → List ℕ) → List ℕ → DecodeFault → Type 0
WholeFault within spelling bytes decoding.Memory = Unit {0}
WholeFault within spelling bytes (decoding.Malformed at) = IsFirstFault within spelling bytes at

-- The value whose spelling the bytes are, or the first place at which no spelling goes on. Memory may run out.
abbrev pub DecodesWhole : {V : Type 0} → (V → Type 0) → (V → List ℕ) → Result V DecodeFault → List ℕ → Type 0
DecodesWhole within spelling (Ok v) bytes = within v × (bytes ≡ spelling v)
DecodesWhole within spelling (Err e) bytes = WholeFault within spelling bytes e

-- The value whose spelling the bytes are, or none, where they are no value's.
abbrev pub DecodesIfSpelt : {V : Type 0} → (V → Type 0) → (V → List ℕ) → Option V → List ℕ → Type 0
DecodesIfSpelt within spelling (Some v) bytes = within v × (bytes ≡ spelling v)
DecodesIfSpelt {V} within spelling None bytes = (v : V) → within v → bytes ≡ spelling v → ⊥
