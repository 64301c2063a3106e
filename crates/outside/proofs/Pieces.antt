-- Known bytes that grow by pieces.
use Rattle.std.proofs.Common.{ℕ, ◌+◌, List, Option, take, drop}
use Rattle.std.proofs.Math.Seq.{take-add}
use Rattle.std.proofs.KnownBytes.{Appends-trans}
use Rattle.std.specs.Io.KnownBytes.{Appends}

-- a write of a front of what is left
pub Appends-more : (a b c : Option (List ℕ)) (i n : ℕ) (bs : List ℕ) → Appends a b (take i bs) → Appends b c (take n (drop i bs)) → Appends a c (take (i + n) bs)
Appends-more a b c i n bs p q = rw (take-add i n bs) (Appends-trans a b c _ _ p q)
