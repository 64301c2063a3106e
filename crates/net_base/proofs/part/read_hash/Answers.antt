use Rattle.std.proofs.Common.{length, arith, refl}
use Rattle.std.proofs.lemmas.Bool.{le-ltb}
use Rattle.std.proofs.lemmas.List.{length-drop}
use Rattle.net_base.specs.Forms.{bytes_at}
use Rattle.net_base.proofs.part.read_hash.Goals as goal

pub returns-clause-given : goal.returns-clause-given
unfolding bytes_at
returns-clause-given c =
    let h = c.in_ok-hash.ensures in
    let test = le-ltb (length c.args.from.now.left) 32 h.0.0 in
    rw (test, h.1, h.0.1) (refl, omega (arith, h.0.0, length-drop 32 c.args.from.now.left))
