use Rattle.std.proofs.Common.{take}
use Rattle.outside.specs.Disk.{IsFilled}
use Rattle.disk_mem.proofs.lay.fill_pending.Given as goal

abbrev pub invariant-loop-range : goal.invariant-loop-range
invariant-loop-range l = record { filled : IsFilled (take l.range-index l.pending) l.fn.content l.content }
