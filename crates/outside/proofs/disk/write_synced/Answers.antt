use Rattle.std.proofs.Common.{◌≡◌, ◌⊎◌, ℕ, List, length, Result, Ok, Err, OnOk, OnErr, true, subst, ◌∙◌, arith}
use Rattle.outside.specs.Disk.{DiskState, DiskSeen, IsImage, KeepsImage, FailsSyncing, Syncs, IfTold, overwritten, clean, with_range, written}
use Rattle.outside.proofs.Moments.{failed_write, sync_leaves, settled_kept, sync_kept, kept_image}
use Rattle.outside.specs.Disk.{Burns}
use Rattle.outside.proofs.Burning.{burns_one, burns_then, up_to, where_done}
use Rattle.outside.proofs.disk.write_synced.Goals as goal

pub returns-in_err-write_at-clause-moments : goal.returns-in_err-write_at-clause-moments
returns-in_err-write_at-clause-moments g c tells = failed_write _ _ c.args.at c.args.from.now (c.in_err-write_at.ensures.failed tells)

at_end : {T E : Type 0} (old mid new : DiskSeen) (at : ℕ) (bytes : List ℕ) (r : Result T E) → mid.tells ≡ old.tells → (old.tells ≡ true → mid.state ≡ written old.state at bytes) → OnOk r (IfTold mid new Syncs) → OnErr r (IfTold mid new FailsSyncing)
    → old.tells ≡ true → OnOk r (Syncs mid.state new.state) × OnErr r (FailsSyncing mid.state new.state)
at_end old mid new at bytes (Ok u) same wrote done failed tells = (done (same ∙ tells), tt)
at_end old mid new at bytes (Err u) same wrote done failed tells = (tt, failed (same ∙ tells))

pub returns-clause-moments : goal.returns-clause-moments
returns-clause-moments g c tells =
    let old = g.D.Disk.seen c.args.disk.now in
    let mid = g.D.Disk.seen c.write_at.new.self in
    let new = g.D.Disk.seen c.sync.new.self in
    let end = at_end old mid new c.args.at c.args.from.now c.sync.result c.write_at.ensures.rest.tells c.in_ok-write_at.ensures.done c.sync.ensures.done c.sync.ensures.failed tells in
    sync_leaves old.state mid.state new.state c.args.at c.args.from.now (c.in_ok-write_at.ensures.done tells) c.sync.result end.0 end.1

done_all : {T E : Type 0} (old mid new : DiskSeen) (at : ℕ) (bytes : List ℕ) (r : Result T E) → mid.tells ≡ old.tells → (old.tells ≡ true → mid.state ≡ written old.state at bytes) → OnOk r (IfTold mid new Syncs)
    → OnOk r (IfTold old new (λ d e. (e.kept ≡ overwritten d.kept at bytes) × (e.now ≡ clean e.kept)))
done_all old mid new at bytes (Err u) same wrote done = tt
done_all old mid new at bytes (Ok u) same wrote done = λ tells. settled_kept (written old.state at bytes) new.state (subst (λ (x : DiskState). Syncs x new.state) (wrote tells) (done (same ∙ tells)))

failed_all : {T E : Type 0} (old mid new : DiskSeen) (at : ℕ) (bytes : List ℕ) (r : Result T E) → mid.tells ≡ old.tells → (old.tells ≡ true → mid.state ≡ written old.state at bytes) → KeepsImage mid → OnErr r (IfTold mid new FailsSyncing)
    → OnErr r (IfTold old new (λ d e. (e.kept ≡ d.kept) ⊎ IsImage (with_range d.now at (length bytes)) e.kept))
failed_all old mid new at bytes (Ok u) same wrote keeps failed = tt
failed_all old mid new at bytes (Err u) same wrote keeps failed = λ tells.
    let w = written old.state at bytes in
    sync_kept old.state at bytes (subst (λ (x : DiskState). IsImage x.now x.kept) (wrote tells) (kept_image mid keeps (same ∙ tells))) new.state (subst (λ (x : DiskState). FailsSyncing x new.state) (wrote tells) (failed (same ∙ tells)))

pub returns-clause-done : goal.returns-clause-done
returns-clause-done g c = done_all (g.D.Disk.seen c.args.disk.now) (g.D.Disk.seen c.write_at.new.self) (g.D.Disk.seen c.sync.new.self) c.args.at c.args.from.now c.sync.result c.write_at.ensures.rest.tells c.in_ok-write_at.ensures.done c.sync.ensures.done

pub returns-clause-failed : goal.returns-clause-failed
returns-clause-failed g c = failed_all (g.D.Disk.seen c.args.disk.now) (g.D.Disk.seen c.write_at.new.self) (g.D.Disk.seen c.sync.new.self) c.args.at c.args.from.now c.sync.result c.write_at.ensures.rest.tells c.in_ok-write_at.ensures.done c.sync.ensures.kept c.sync.ensures.failed

pub returns-in_err-write_at-clause-no_more : goal.returns-in_err-write_at-clause-no_more
returns-in_err-write_at-clause-no_more g c =
    let old = g.D.Disk.seen c.args.disk.now in
    let new = g.D.Disk.seen c.write_at.new.self in
    up_to 1 2 old new (omega arith) (burns_one old new c.write_at.ensures.fuse c.write_at.ensures.power)

both : (old mid new : DiskSeen) → Burns 1 old mid → Burns 1 mid new → Burns 2 old new
both old mid new first next = burns_then 1 1 old mid new first next

pub returns-clause-burns : goal.returns-clause-burns
returns-clause-burns g c =
    let old = g.D.Disk.seen c.args.disk.now in
    let mid = g.D.Disk.seen c.write_at.new.self in
    let new = g.D.Disk.seen c.sync.new.self in
    where_done c.sync.result (both old mid new (burns_one old mid c.write_at.ensures.fuse c.write_at.ensures.power) (burns_one mid new c.sync.ensures.fuse c.sync.ensures.power))

pub returns-clause-no_more : goal.returns-clause-no_more
returns-clause-no_more g c =
    let old = g.D.Disk.seen c.args.disk.now in
    let mid = g.D.Disk.seen c.write_at.new.self in
    let new = g.D.Disk.seen c.sync.new.self in
    up_to 2 2 old new (omega arith) (both old mid new (burns_one old mid c.write_at.ensures.fuse c.write_at.ensures.power) (burns_one mid new c.sync.ensures.fuse c.sync.ensures.power))
