-- The names of a node's two disks, and what contracts see of the second one, which stands beside the first.
use Rattle.std.specs.Prelude.{ℕ, List, ◌++◌, codes, decimal, Bool, true, false, Option, option_and_then}
use Rattle.std.specs.Option.{option_map_or}
use Rattle.outside.specs.Disk.{Attached, DiskSeen}

-- the letter of a node's disk
abbrev pub letter_of : Bool → List ℕ
letter_of true = codes "b"
letter_of false = codes "a"

-- the name of a node's first or second disk
abbrev pub disk_name : ℕ → Bool → List ℕ
disk_name node second = codes "node-" ++ decimal node ++ codes "." ++ letter_of second

-- what a node's first or second disk is attached as once it is made ready: in a folder or in memory, under its own name
abbrev pub own_name : Option (List ℕ) → ℕ → Bool → Attached
own_name folder node second = record { folder = folder; name = disk_name node second }

-- what the second disk is attached as
abbrev pub name_beside : DiskSeen → Option Attached
name_beside d = option_and_then (λ s. s.attached) d.attached.beside

-- its count of faults
abbrev pub faults_beside : DiskSeen → ℕ
faults_beside d = option_map_or (λ s. s.faults) d.attached.beside 0

-- it is calm
abbrev pub calm_beside : DiskSeen → Bool
calm_beside d = option_map_or (λ s. s.calm) d.attached.beside false
