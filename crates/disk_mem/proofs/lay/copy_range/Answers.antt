use Rattle.std.proofs.Common.{◌-◌, arith}
use Rattle.disk_mem.proofs.Ranges.{mid_is}
use Rattle.disk_mem.proofs.lay.copy_range.Goals as goal

pub returns-clause-within : goal.returns-clause-within
returns-clause-within c i lo hi =
    mid_is c.min-start.result (c.min-end.result - c.min-start.result) c.args.synced.now c.copy_from_slice.new.self c.args.content.now i c.requires
    (omega arith) (omega arith) c.copy_from_slice.ensures.after (λ lt. (omega (arith, lt), omega (arith, lt)))
