use Rattle.std.proofs.Common.{◌≡◌, ap, refl, inr, length, arith, subst}
use Rattle.std.proofs.lemmas.Bool.Decides.{nat_tests}
use Rattle.outside.specs.Disk.{DiskState, clean}
use Rattle.disk_mem.proofs.Putting.{clean_now}
use Rattle.disk_mem.proofs.mem.MemDisk.keep.Goals as goal

pub returns-then-is_empty-clause-state : goal.returns-then-is_empty-clause-state
returns-then-is_empty-clause-state c =
    let none : length c.self.inside.medium.pending.items ≡ 0 = grind (arith, nat_tests, c.is_empty.ensures, c.if-is_empty.true) in
    let same = ap (λ v. v.state) c.self.view_is in
    let whole = clean_now c.self.inside.medium.synced.items c.self.inside.medium.pending.items c.self.inside.content.items none c.self.invariant.image in
    let P : DiskState → Type 0 = λ s. s.now ≡ clean s.kept in
    inr (refl, subst P same whole)
