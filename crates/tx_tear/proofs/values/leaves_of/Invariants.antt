use Rattle.std.proofs.Common.{◌≡◌, take, map}
use Rattle.component_merkle.specs.Merkle.{leaf_of}
use Rattle.tx_tear.proofs.values.leaves_of.Given as goal

abbrev pub invariant-loop-part : goal.invariant-loop-part
invariant-loop-part l = l.leaves.items ≡ map (λ p. leaf_of p.nonce.0 p.bytes) (take l.part-index l.parts)
