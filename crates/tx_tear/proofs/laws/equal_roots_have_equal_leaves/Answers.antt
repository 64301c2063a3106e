use Rattle.tx_tear.specs.Hashed.{hashed_for_root}
use Rattle.tx_tear.proofs.Collisions.{inside, one_root}
use Rattle.tx_tear.proofs.laws.equal_roots_have_equal_leaves.Goals as goal

pub returns : goal.returns
returns c = λ hashed xs ys apart has_xs has_ys long_xs long_ys alike same. one_root hashed apart xs ys (inside hashed (hashed_for_root xs) has_xs) (inside hashed (hashed_for_root ys) has_ys) long_xs long_ys alike same
