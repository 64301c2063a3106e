use Rattle.std.proofs.Common.{ap, length, arith}
use Rattle.std.proofs.lemmas.List.{length-take}
use Rattle.net_base.proofs.reader.Reader.hash.Goals as goal

pub copy_from_slice-requires : goal.copy_from_slice-requires
copy_from_slice-requires c = let h = c.in_ok-b.ensures in omega (arith, length-take 32 c.args.self.now.left, ap length h.1, h.0.0)
