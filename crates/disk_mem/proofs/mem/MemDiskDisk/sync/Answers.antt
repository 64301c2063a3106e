use Rattle.std.proofs.Common.{subst}
use Rattle.outside.specs.Disk.{IsImage}
use Rattle.outside.proofs.Moments.{keeps_image}
use Rattle.disk_mem.specs.Mem.{MemSeen, disk_of}
use Rattle.disk_mem.proofs.mem.MemDiskDisk.sync.Goals as goal

pub returns-then-not-self-clause-kept : goal.returns-then-not-self-clause-kept
returns-then-not-self-clause-kept c =
    keeps_image (disk_of c.args.self.now) (λ tells. subst (λ (m : MemSeen). IsImage m.state.now m.state.kept) c.self.view_is c.self.invariant.image)

pub returns-then-not-count_down-clause-kept : goal.returns-then-not-count_down-clause-kept
returns-then-not-count_down-clause-kept c =
    keeps_image (disk_of c.args.self.now) (λ tells. subst (λ (m : MemSeen). IsImage m.state.now m.state.kept) c.self.view_is c.self.invariant.image)

pub returns-clause-kept : goal.returns-clause-kept
returns-clause-kept c =
    keeps_image (disk_of c.args.self.now) (λ tells. subst (λ (m : MemSeen). IsImage m.state.now m.state.kept) c.self.view_is c.self.invariant.image)
