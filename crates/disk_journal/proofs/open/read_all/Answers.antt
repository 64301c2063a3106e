use Rattle.std.proofs.Common.{subst, sym}
use Rattle.outside.specs.Disk.{DiskState, IsImage, EachImage}
use Rattle.outside.proofs.Moments.{after_failed_sync, kept_image}
use Rattle.disk_journal.proofs.Opens.{synced}
use Rattle.disk_journal.proofs.open.read_all.Goals as goal

pub returns-in_err-sync-clause-moments : goal.returns-in_err-sync-clause-moments
returns-in_err-sync-clause-moments g c tells =
    let d = (g.D.Disk.seen c.args.disk.now).state in
    after_failed_sync d (g.D.Disk.seen c.sync.new.self).state (IsImage d.now) (λ x image. image) (c.in_err-sync.ensures.failed tells)

pub returns-clause-moments : goal.returns-clause-moments
returns-clause-moments g c tells =
    let d = (g.D.Disk.seen c.args.disk.now).state in
    let m = (g.D.Disk.seen c.sync.new.self).state in
    subst (λ (x : DiskState). EachImage d x (IsImage d.now)) (sym c.read_kept.ensures.same) (synced d m (kept_image (g.D.Disk.seen c.args.disk.now) c.sync.ensures.kept tells) (c.in_ok-sync.ensures.done tells)).0
