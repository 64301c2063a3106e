-- Sources and sinks in memory.
use Rattle.std.specs.Prelude.{ℕ, ◌+◌, ◌-◌, ◌^◌, ◌==◌, ◌||◌, nat_lt, min, List, [], ◌++◌, length, drop, Bool, Result, Ok, Err, if◌then◌else◌}
use Rattle.std.specs.List.{list_any}
use Rattle.outside.specs.declared.fault.Failed.{Failed}

-- a source in memory: the bytes left, the numbers of the calls that are to fail, how many calls were made, and how many failed
pub record Reading : Type 0 where
  pub left : List ℕ
  pub failing : List ℕ
  pub calls : ℕ
  pub faults : ℕ

-- a source that has just been made
abbrev pub reading : List ℕ → List ℕ → Reading
reading bytes failing = record { left = bytes; failing = failing; calls = 0; faults = 0 }

-- a sink in memory: the bytes written, the room for all of them, the numbers of the calls that are to fail, how many calls were made, and how many failed
pub record Writing : Type 0 where
  pub written : List ℕ
  pub room : ℕ
  pub failing : List ℕ
  pub calls : ℕ
  pub faults : ℕ

-- a sink that has just been made
abbrev pub writing : ℕ → List ℕ → Writing
writing room failing = record { written = []; room = room; failing = failing; calls = 0; faults = 0 }

-- the call of that number is to fail
abbrev pub fails : List ℕ → ℕ → Bool
fails failing call = list_any (λ number. number == call) failing

-- one more, up to the last value of a count
abbrev pub counted : ℕ → ℕ
counted n = min (n + 1) (2 ^ 64 - 1)

-- the least of what is left and of the room: what a read gives
abbrev pub taken : Reading → ℕ → ℕ
taken s room = min (length s.left) room

-- a read into that much room fails where its number says so, and else gives all that it can
abbrev pub reads : Reading → ℕ → Result ℕ Failed
reads s room = if fails s.failing s.calls then Err (record {}) else Ok (taken s room)

-- the source after a read: a failed one takes nothing and is counted
abbrev pub after_read : Reading → ℕ → Reading
after_read s room =
    if fails s.failing s.calls
    then record s { calls = counted s.calls; faults = counted s.faults }
    else record s { left = drop (taken s room) s.left; calls = counted s.calls }

-- a write of that many bytes fails where its number says so or where it would go past the room
abbrev pub is_refused : Writing → ℕ → Bool
is_refused s count = fails s.failing s.calls || nat_lt (s.room - length s.written) count

-- what a write of that many bytes answers
abbrev pub writes : Writing → ℕ → Result ℕ Failed
writes s count = if is_refused s count then Err (record {}) else Ok count

-- the sink after a write: a failed one adds nothing and is counted
abbrev pub after_write : Writing → List ℕ → Writing
after_write s bytes =
    if is_refused s (length bytes)
    then record s { calls = counted s.calls; faults = counted s.faults }
    else record s { written = s.written ++ bytes; calls = counted s.calls }
