-- A disk in memory, as contracts see it.
use Rattle.std.specs.Prelude.{◌≡◌, ℕ, ◌+◌, ◌-◌, ◌*◌, ◌/◌, take, drop, ◌<◌, ◌≤◌, min, List, length, Contains, map, Vec, Option, Some, None, option_map, vec_len, vec_capacity, Bool, true, false, not, ◌&&◌}
use Rattle.outside.specs.Disk.{Attached, by_itself, DiskState, DiskSeen, Durable, IsImage, IsFilled, overwritten, written, blows}
use Rattle.disk_mem.specs.declared.lay.Medium.{Medium}
use Rattle.disk_mem.specs.declared.lay.Last.{Last}
use Rattle.disk_mem.specs.declared.lay.Fuse.{Fuse}
use Rattle.disk_mem.specs.declared.label.Label.{Label}
use Rattle.std.specs.declared.snapshot.Snapshot.{Snapshot}
use Rattle.std.specs.declared.alloc.Global.{Global}

-- what was synced, and the pending ranges
abbrev pub durable : List ℕ → List (ℕ × ℕ) → Durable
durable synced pending = record { synced = synced; pending = pending }

-- the same of the medium
abbrev pub durable_of : Medium → Durable
durable_of l = record { synced = l.synced.items; pending = l.pending.items }

-- where something was written since the sync, this was the last write
pub record IsLast (medium : Medium) (last : Last) (content : List ℕ) : Type 0 where
  pub range : Contains medium.pending.items (last.at, last.count)
  pub place : last.at ≤ last.before
  pub end : last.at + last.count ≤ length content
  pub covered : last.at + length last.covered.items ≤ last.before
  pub over : length last.covered.items ≤ last.count
  pub before : length medium.synced.items ≤ last.before
  pub no_longer : last.before ≤ length content
  pub length_before : last.before ≡ length last.was.value.items
  pub under : last.covered.items ≡ take (min last.count (last.before - last.at)) (drop last.at last.was.value.items)
  pub was : content ≡ overwritten last.was.value.items last.at (take last.count (drop last.at content))

-- a write: its place, its length, and what stood before it
pub record LastWrite : Type 0 where
  pub at : ℕ
  pub count : ℕ
  pub was : List ℕ

-- the last write without the bytes that it covered
abbrev pub last_of : Last → LastWrite
last_of l = record { at = l.at; count = l.count; was = l.was.value.items }

-- the table of outcomes: what a cut leaves of what was synced, the ranges since, the last write and what a read gave
pub record IsLeft (outcome : ℕ) (s : Durable) (last : LastWrite) (kept new : List ℕ) : Type 0 where
  pub nothing : outcome ≡ 0 → new ≡ s.synced
  pub everything : outcome ≡ 1 → new ≡ kept
  pub half : outcome ≡ 2 → new ≡ overwritten last.was last.at (take (last.count / 2) (drop last.at kept))
  pub filled : outcome ≡ 3 → IsFilled s.pending kept new

-- a disk in memory, as contracts see it; the last write is that since the last sync, where something is pending
pub record MemSeen : Type 0 where
  pub state : DiskState
  pub last : LastWrite
  pub faults : ℕ
  pub power : Bool
  -- at this write or sync from now, counted from 1, the power goes, with this outcome
  pub fuse : Option (ℕ × ℕ)
  -- what it was attached as last, none before that
  pub attached : Option Attached
  pub room_end : ℕ
  pub room_writes : ℕ

-- no fuse is armed
abbrev pub has_no_fuse : Option (ℕ × ℕ) → Bool
has_no_fuse None = true
has_no_fuse (Some f) = false

-- as every disk is seen: it tells its content, is no file, and is calm where it has power and no fuse
abbrev pub disk_of : MemSeen → DiskSeen
disk_of m = record { tells = true; state = m.state; faults = m.faults; calm = m.power && has_no_fuse m.fuse; power = m.power; fuse = m.fuse; of_file = false; attached = by_itself m.attached; room_end = m.room_end; room_writes = m.room_writes }

-- a write or a sync is done
abbrev pub answers : MemSeen → Bool
answers m = m.power && not (blows m.fuse)

-- after a write was done
abbrev pub wrote : MemSeen → ℕ → List ℕ → MemSeen
wrote m at bytes = record m { state = written m.state at bytes; last = record { at = at; count = length bytes; was = m.state.kept } }

-- the power was cut with this outcome: where nothing is pending nothing changes, and else what is left is what the table says
pub record CutsBy (outcome : ℕ) (old new : MemSeen) : Type 0 where
  pub same : length old.state.now.pending ≡ 0 → new.state ≡ old.state
  pub left : 0 < length old.state.now.pending → IsLeft outcome old.state.now old.last old.state.kept new.state.kept

-- the fuse as two numbers: how many writes and syncs it lasts, and its outcome
abbrev pub fuse_of : Option Fuse → Option (ℕ × ℕ)
fuse_of None = None
fuse_of (Some f) = Some (f.calls, f.outcome)

-- the folder and the name that a label is of
abbrev pub attached_of : Option Label → Option Attached
attached_of None = None
attached_of (Some l) = Some (record { folder = option_map (λ s. s.bytes) l.folder; name = l.name.bytes })

-- what a disk keeps now, what a cut may leave now, and what it might have left at each moment before
abbrev pub state_of : List ℕ → Medium → List (Snapshot Medium) → DiskState
state_of content medium past = record { kept = content; now = durable_of medium; past = map (λ s. durable_of s.value) past }

-- the room that a disk has, and what it keeps of the last write
pub record IsSound (content : Vec ℕ Global) (medium : Medium) (last : Last) (past : Vec (Snapshot Medium) Global) (end writes : ℕ) : Type 0 where
  pub content_room : end ≤ vec_capacity content
  pub synced : end ≤ vec_capacity medium.synced
  pub covered : end ≤ vec_capacity last.covered
  pub pending : vec_len medium.pending + writes ≤ vec_capacity medium.pending
  pub past_room : vec_len past + 2 * writes + min 1 (vec_len medium.pending) ≤ vec_capacity past
  pub within : vec_len content ≤ end
  pub image : IsImage (durable_of medium) content.items
  pub last_write : 0 < vec_len medium.pending → IsLast medium last content.items
