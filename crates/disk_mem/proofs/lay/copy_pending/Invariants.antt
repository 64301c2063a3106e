use Rattle.std.proofs.Common.{ℕ, ◌≡◌, take, length, get_or}
use Rattle.outside.specs.Disk.{IsUntouched}
use Rattle.disk_mem.proofs.lay.copy_pending.Given as goal

-- a place is read right where it is in one of the ranges so far, or was right before
abbrev pub invariant-loop-range : goal.invariant-loop-range
invariant-loop-range l = record {
  len : length l.synced ≡ length l.content;
  agree : (i : ℕ) → (IsUntouched (take l.range-index l.pending) i → get_or l.fn.synced i 0 ≡ get_or l.content i 0) → get_or l.synced i 0 ≡ get_or l.content i 0;
}
