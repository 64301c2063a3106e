use Rattle.std.proofs.Common.{◌∙◌, ap, subst}
use Rattle.disk_mem.specs.Mem.{MemSeen, CutsBy}
use Rattle.disk_mem.proofs.mem.MemDiskDisk.write_at.Goals as goal

pub returns-else-count_down-clause-blown : goal.returns-else-count_down-clause-blown
returns-else-count_down-clause-blown c outcome power fuse =
    let cut = subst (λ (v : MemSeen). CutsBy outcome v c.count_down.new.self) c.write.ensures.done (c.count_down.ensures.left outcome (ap (λ v. v.fuse) c.write.ensures.done ∙ fuse)) in
    record { same = cut.same; left = cut.left }
