-- When a node takes no more records.
use Rattle.std.specs.Prelude.{ℕ, ◌+◌, ◌-◌, ◌^◌, ◌||◌, nat_le, Bool, List, [], ◌∷◌, length}
use Rattle.disk_journal.specs.Journal.{is_full_at}
use Rattle.node_tables.specs.Journals.{Reads, state_of}

-- how many bytes records with these bodies take, with their gates and lengths
abbrev pub bytes_of : List (List ℕ) → ℕ
bytes_of [] = 0
bytes_of (body ∷ bodies) = 5 + length body + bytes_of bodies

-- whether a node with this journal takes no record over an item of this stamp, 0 without one: the journal is full, or the last stamp was given
abbrev pub is_full : {F : Type 0} → Reads F → ℕ → List (List ℕ) → Bool
is_full frame_at stamp bodies = is_full_at (length bodies) (17 + bytes_of bodies) || (nat_le (2 ^ 63 - 1) (state_of frame_at bodies).stamp || nat_le (2 ^ 63 - 1) stamp)
