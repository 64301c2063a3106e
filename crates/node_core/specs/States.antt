-- Where a node's disk is.
use Rattle.std.specs.Prelude.{◌≡◌, ◌⊎◌, ℕ, Bool, true, false, List, [], Option, Some, None, Result, Err, ⊤}
use Rattle.outside.specs.Disk.{DiskSeen, by_itself, clean}
use Rattle.net_base.specs.declared.names.Identity.{Identity}
use Rattle.session_table.specs.declared.resent.Item.{Item}
use Rattle.net_model.specs.Environment.{Environment}
use Rattle.node_core.specs.declared.faults.Taken.{Taken}
use Rattle.node_core.specs.declared.faults.TakeFault.{TakeFault}
use Rattle.node_core.specs.declared.faults.TakeFault.TheVariants as take_fault
use Rattle.node_core.specs.declared.node.State.{State}
use Rattle.node_core.specs.declared.node.State.TheVariants.{Down, Up}
use Rattle.node_core.specs.Disks.{roomless}
use Rattle.node_core.specs.Seen.{UpSeen, NodeSeen, Tied}
use Rattle.node_core.specs.Takes.{AcceptsAs}

-- no disk at all
abbrev pub no_disk : DiskSeen
no_disk = record { tells = false; state = record { kept = []; now = clean []; past = [] }; faults = 0; calm = false; power = false; fuse = None; of_file = false; attached = by_itself None; room_end = 0; room_writes = 0 }

-- what contracts see of the disk, wherever it is
abbrev pub disk_in : {D F : Type 0} → (D → DiskSeen) → State D F → DiskSeen
disk_in seen (Down disk) = roomless (seen disk)
disk_in seen (Up up) = roomless up.journal.disk
disk_in seen _ = no_disk

-- the bodies of a node that is up
abbrev pub journal_in : {D F : Type 0} → State D F → Option (List (List ℕ))
journal_in (Up up) = Some up.bodies
journal_in _ = None

-- the acknowledged numbers of a node that is up
abbrev pub acked_in : {D F : Type 0} → State D F → List ℕ
acked_in (Up up) = up.acked
acked_in _ = []

-- a node is down, with its disk
abbrev pub IsDown : {D F : Type 0} → State D F → Type 0
IsDown (Down disk) = ⊤
IsDown _ = ⊥

-- a node is up with a journal that took every append, or down
abbrev pub IsWhole : {D F : Type 0} → Identity → State D F → Type 0
IsWhole id (Up up) = Tied id up.journal up.bodies
IsWhole id state = IsDown state

-- what contracts see of a node in this state
abbrev pub seen_in : {D F : Type 0} → (D → DiskSeen) → Identity → State D F → NodeSeen
seen_in seen id state = record { identity = id; disk = disk_in seen state; journal = journal_in state; acked = acked_in state }

-- a node that is down over this disk, as contracts see it
abbrev pub seen_over : Identity → DiskSeen → NodeSeen
seen_over id disk = record { identity = id; disk = roomless disk; journal = None; acked = [] }

-- a node that is up, as contracts see it
abbrev pub seen_up : Identity → UpSeen → NodeSeen
seen_up id up = record { identity = id; disk = roomless up.journal.disk; journal = Some up.bodies; acked = up.acked }

-- the node once it went down with its disk
abbrev pub seen_down : Identity → UpSeen → NodeSeen
seen_down id up = record { identity = id; disk = roomless up.journal.disk; journal = None; acked = [] }

-- the node after it answered to a frame: down where its disk failed
abbrev pub seen_after : Identity → Result Taken TakeFault → UpSeen → NodeSeen
seen_after id (Err take_fault.Fault) up = seen_down id up
seen_after id _ up = seen_up id up

-- whether a node that answers so to a frame goes down
abbrev pub is_fault : Result Taken TakeFault → Bool
is_fault (Err take_fault.Fault) = true
is_fault _ = false

-- what a node that is up answers where an item comes next; or memory runs out, and nothing changes
abbrev pub TakesItem : {F : Type 0} → Environment F → ℕ → List (List ℕ) → Item → NodeSeen → Result Taken TakeFault → NodeSeen → Type 0
TakesItem w now bodies item old answer new =
    ((answer ≡ Err take_fault.Memory) × (new ≡ old)) ⊎ AcceptsAs w now bodies item.peer item.key item.direction item.number (record { body = item.body; stamp = item.stamp }) old answer new
