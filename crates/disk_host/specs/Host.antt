-- A disk in memory or over a file, as contracts see it.
use Rattle.std.specs.Prelude.{◌-◌, ◌^◌, ℕ, [], Option, Some, None, true, false}
use Rattle.outside.specs.Disk.{Attached, DiskSeen, by_itself, clean}
use Rattle.disk_mem.specs.Mem.{MemSeen, disk_of}

-- a file tells nothing of its content, is never calm, and has no fuse; no place and no number
-- of writes is past its room
abbrev pub file_view : ℕ → Option Attached → DiskSeen
file_view faults attached = record {
  tells = false;
  state = record { kept = []; now = clean []; past = [] };
  faults = faults;
  calm = false;
  power = true;
  fuse = None;
  of_file = true;
  attached = by_itself attached;
  room_end = 2 ^ 64 - 1;
  room_writes = 2 ^ 32 - 1;
}

-- a disk without a file is its disk in memory, with a count of faults of its own; one with a
-- file is that file
abbrev pub host_of : {F : Type 0} → Option F → MemSeen → ℕ → DiskSeen
host_of None memory faults = record (disk_of memory) { faults = faults }
host_of (Some file) memory faults = file_view faults memory.attached
