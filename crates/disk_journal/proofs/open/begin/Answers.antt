use Rattle.std.proofs.Common.{◌≡◌, ℕ, List, ◌≤◌, length, ap, sym, subst, arith}
use Rattle.outside.specs.Disk.{DiskState, Durable, IsImage, EachImage}
use Rattle.outside.proofs.Moments.{started, clean_image}
use Rattle.disk_journal.specs.Journal.{IsYoung}
use Rattle.disk_journal.proofs.Opens.{stays_short}
use Rattle.disk_journal.proofs.open.begin.Goals as goal

pub returns-in_err-make_room-clause-moments : goal.returns-in_err-make_room-clause-moments
returns-in_err-make_room-clause-moments g c tells =
    let d = (g.D.Disk.seen c.args.disk.now).state in
    let start = c.requires.start tells in
    let same : (g.D.Disk.seen c.make_room.new.self).state ≡ d = ap (λ v. v.state) c.make_room.ensures.same in
    subst (λ (x : DiskState). EachImage d x (λ l. length l ≤ 17)) (sym same) (stays_short d start.0 (omega (arith, ap (λ (l : List ℕ). length l) start.1, c.requires.short)))

pub returns-in_err-make_room-clause-young : goal.returns-in_err-make_room-clause-young
returns-in_err-make_room-clause-young g c tells not_yet young =
    let d = (g.D.Disk.seen c.args.disk.now).state in
    let same : (g.D.Disk.seen c.make_room.new.self).state ≡ d = ap (λ v. v.state) c.make_room.ensures.same in
    subst (λ (x : DiskState). EachImage d x (IsYoung c.args.id.now)) (sym same)
    (started d (IsYoung c.args.id.now) (λ x image. subst (IsYoung c.args.id.now) (sym (clean_image d.kept x (subst (λ (s : Durable). IsImage s x) (c.requires.start tells).0 image))) young))
