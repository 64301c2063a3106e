-- What a disk keeps, and what a power cut may leave.
--
-- Between two syncs each range that was written, and what lies past the old end, may hold any bytes after a power cut.
-- The length then lies between the one at the sync and the greatest written end, and all other bytes stay.
use Rattle.std.specs.Prelude.{◌≡◌, ◌⊎◌, ℕ, zero, suc, ◌+◌, ◌-◌, ◌/◌, ◌<◌, ◌≤◌, ◌==◌, ◌&&◌, ◌||◌, not, max, List, [], ◌∷◌, ◌++◌, length, take, drop, slice_index, Contains, Option, Some, None, Bool, true, false, if◌then◌else◌}

-- what stood at the last sync, and the ranges that were written since and are pending, each by its place and length
pub record Durable : Type 0 where
  pub synced : List ℕ
  pub pending : List (ℕ × ℕ)

-- a place is in none of the ranges
abbrev pub IsUntouched : List (ℕ × ℕ) → ℕ → Type 0
IsUntouched [] i = Unit {0}
IsUntouched (r ∷ rs) i = ((i < r.0) ⊎ (r.0 + r.1 ≤ i)) × IsUntouched rs i

-- the greatest end of a range, or the length that there was
abbrev pub written_end : ℕ → List (ℕ × ℕ) → ℕ
written_end n [] = n
written_end n (r ∷ rs) = max (r.0 + r.1) (written_end n rs)

-- a power cut may leave these bytes
pub record IsImage (s : Durable) (bytes : List ℕ) : Type 0 where
  pub no_shorter : length s.synced ≤ length bytes
  pub no_longer : length bytes ≤ written_end (length s.synced) s.pending
  pub elsewhere : (i : ℕ) → i < length s.synced → IsUntouched s.pending i → slice_index bytes i ≡ slice_index s.synced i

-- what a read gives (without power: what it will give), what a power cut may leave now, and what it might have left at each moment before
pub record DiskState : Type 0 where
  pub kept : List ℕ
  pub now : Durable
  pub past : List Durable

-- the moment, as a number that doesn't fall
abbrev pub moment : DiskState → ℕ
moment d = length d.past

-- a power cut at some moment since t might have left these bytes
abbrev pub ImagesSince : DiskState → ℕ → List ℕ → Type 0
ImagesSince d t bytes = (s : Durable) × Contains (drop t (d.past ++ d.now ∷ [])) s × IsImage s bytes

-- the disk went on from d to e, and what a power cut at any moment since d might have left has P
pub record EachImage (d e : DiskState) (P : List ℕ → Type 0) : Type 0 where
  pub since : List Durable
  pub past : e.past ≡ d.past ++ since
  pub each : (bytes : List ℕ) → ImagesSince e (moment d) bytes → P bytes

-- what stands after these bytes were written at this place
abbrev pub overwritten : List ℕ → ℕ → List ℕ → List ℕ
overwritten old at bytes = take at old ++ bytes ++ drop (at + length bytes) old

-- nothing is pending
abbrev pub clean : List ℕ → Durable
clean bytes = record { synced = bytes; pending = [] }

-- one more range is pending
abbrev pub with_range : Durable → ℕ → ℕ → Durable
with_range s at n = record { synced = s.synced; pending = s.pending ++ (at, n) ∷ [] }

-- a write was done
abbrev pub written : DiskState → ℕ → List ℕ → DiskState
written d at bytes = record { kept = overwritten d.kept at bytes; now = with_range d.now at (length bytes); past = d.past ++ d.now ∷ [] }

-- a sync was done
abbrev pub flushed : DiskState → DiskState
flushed d = record { kept = d.kept; now = clean d.kept; past = d.past ++ d.now ∷ [] }

-- a sync was done, or nothing was there to be synced
abbrev pub Syncs : DiskState → DiskState → Type 0
Syncs d e = (e ≡ flushed d) ⊎ ((e ≡ d) × (d.now ≡ clean d.kept))

-- the power went when the disk could leave what s says, and what is kept is one of the images of that moment
pub record LosesPower (past : List Durable) (s : Durable) (new : DiskState) : Type 0 where
  pub left : IsImage s new.kept
  pub clean_now : new.now ≡ clean new.kept
  pub history : new.past ≡ past ++ s ∷ []

-- the power was cut; where nothing was pending, nothing changed
abbrev pub CutsPower : DiskState → DiskState → Type 0
CutsPower d e = LosesPower d.past d.now e ⊎ ((e ≡ d) × (d.now ≡ clean d.kept))

-- a place is in one of the ranges
abbrev pub IsTouched : List (ℕ × ℕ) → ℕ → Type 0
IsTouched [] i = ⊥
IsTouched (r ∷ rs) i = ((r.0 ≤ i) × (i < r.0 + r.1)) ⊎ IsTouched rs i

-- the bytes in the ranges are 0xA5, and all others as they were
pub record IsFilled (pending : List (ℕ × ℕ)) (old new : List ℕ) : Type 0 where
  pub len : length new ≡ length old
  pub within : (i : ℕ) → i < length old → IsTouched pending i → slice_index new i ≡ 165
  pub beside : (i : ℕ) → IsUntouched pending i → slice_index new i ≡ slice_index old i

-- of a write that is pending the second half is taken back: there is what was before it, with the first half over it
pub record IsHalved (pending : List (ℕ × ℕ)) (old new : List ℕ) : Type 0 where
  pub at : ℕ
  pub count : ℕ
  pub range : Contains pending (at, count)
  pub was : List ℕ
  pub written : old ≡ overwritten was at (take count (drop at old))
  pub half : new ≡ overwritten was at (take (count / 2) (drop at old))

-- what a cut leaves, by its outcome: of what was written since the last sync nothing, all of it, all but the second half of one write, or 0xA5 in its place
pub record LeavesBy (outcome : ℕ) (d e : DiskState) : Type 0 where
  pub nothing : outcome ≡ 0 → e.kept ≡ d.now.synced
  pub everything : outcome ≡ 1 → e.kept ≡ d.kept
  pub half : outcome ≡ 2 → 0 < length d.now.pending → IsHalved d.now.pending d.kept e.kept
  pub filled : outcome ≡ 3 → IsFilled d.now.pending d.kept e.kept

-- a sync failed with the power on: what was pending stays pending, and a read gives one of the images
pub record StaysPending (d e : DiskState) : Type 0 where
  pub left : IsImage d.now e.kept
  pub now : e.now ≡ d.now
  pub history : e.past ≡ d.past

-- a sync failed: nothing changed, or all stays pending, or the power went
abbrev pub FailsSyncing : DiskState → DiskState → Type 0
FailsSyncing d e = (e ≡ d) ⊎ (StaysPending d e ⊎ LosesPower d.past d.now e)

-- a sync failed, and the power did not go
abbrev pub FailsSyncingUncut : DiskState → DiskState → Type 0
FailsSyncingUncut d e = (e ≡ d) ⊎ StaysPending d e

-- a write of n bytes failed with the power on: its range is pending too, and a read gives one of the images
pub record LeavesPending (d : DiskState) (at n : ℕ) (e : DiskState) : Type 0 where
  pub left : IsImage (with_range d.now at n) e.kept
  pub now : e.now ≡ with_range d.now at n
  pub history : e.past ≡ d.past ++ d.now ∷ []

-- a write of n bytes failed: nothing changed, or its range is pending, or the power went with its range pending
abbrev pub FailsWriting : DiskState → ℕ → ℕ → DiskState → Type 0
FailsWriting d at n e = (e ≡ d) ⊎ (LeavesPending d at n e ⊎ LosesPower (d.past ++ d.now ∷ []) (with_range d.now at n) e)

-- a write of n bytes failed, and the power did not go
abbrev pub FailsWritingUncut : DiskState → ℕ → ℕ → DiskState → Type 0
FailsWritingUncut d at n e = (e ≡ d) ⊎ LeavesPending d at n e

-- what a bay was attached as: a file of its name in a folder, or in memory where there is no folder. Both names are bytes
pub record Attached : Type 0 where
  pub folder : Option (List ℕ)
  pub name : List ℕ

-- a disk by itself, as contracts see it
pub record DiskAlone : Type 0 where
  pub tells : Bool
  pub state : DiskState
  pub faults : ℕ
  pub calm : Bool
  pub power : Bool
  pub fuse : Option (ℕ × ℕ)
  pub of_file : Bool
  -- what it was attached as last, none before that
  pub attached : Option Attached
  pub room_end : ℕ
  pub room_writes : ℕ

-- what a disk was attached as last, none before that; and of the first of two disks the second one, which stands beside it
pub record AttachedAs : Type 0 where
  pub own : Option Attached
  pub beside : Option DiskAlone

-- of a disk that has none beside it
abbrev pub by_itself : Option Attached → AttachedAs
by_itself own = record { own = own; beside = None }

-- a disk as contracts see it, and what stands beside it
pub record DiskSeen : Type 0 where
  -- it tells its content; of a file's content nothing is known
  pub tells : Bool
  pub state : DiskState
  pub faults : ℕ
  -- it gives no fault until it is asked to
  pub calm : Bool
  pub power : Bool
  -- at this write or sync from now, counted from 1, the power goes, with this outcome
  pub fuse : Option (ℕ × ℕ)
  pub of_file : Bool
  -- what it was attached as, and the disk beside it
  pub attached : AttachedAs
  -- this number of writes that end at or below this place have room
  pub room_end : ℕ
  pub room_writes : ℕ

-- a disk without what stands beside it
abbrev pub alone : DiskSeen → DiskAlone
alone v = record { tells = v.tells; state = v.state; faults = v.faults; calm = v.calm; power = v.power; fuse = v.fuse; of_file = v.of_file; attached = v.attached.own; room_end = v.room_end; room_writes = v.room_writes }

-- the first of two disks, with the second one beside it
abbrev pub with_beside : DiskSeen → DiskAlone → DiskSeen
with_beside first second = record first { attached = record { own = first.attached.own; beside = Some second } }

-- what a read gives, and without power what it will give; nothing of a disk that doesn't tell
pub record Kept (v : DiskSeen) (bytes : List ℕ) : Type 0 where
  pub tells : v.tells ≡ true
  pub kept : bytes ≡ v.state.kept

-- what a power cut at some moment since t may leave; nothing of a disk that doesn't tell
pub record Images (v : DiskSeen) (t : ℕ) (bytes : List ℕ) : Type 0 where
  pub tells : v.tells ≡ true
  pub image : ImagesSince v.state t bytes

-- this moment of a disk
abbrev pub moment_of : DiskSeen → ℕ
moment_of v = moment v.state

-- what a disk keeps is one of the images that a power cut may leave now
abbrev pub KeepsImage : DiskSeen → Type 0
KeepsImage v = (bytes : List ℕ) → Kept v bytes → Images v (moment_of v) bytes

-- where the disk tells its content, it went on so
abbrev pub IfTold : DiskSeen → DiskSeen → (DiskState → DiskState → Type 0) → Type 0
IfTold old new R = old.tells ≡ true → R old.state new.state

-- the fuse after one more write or sync
abbrev pub burnt : Option (ℕ × ℕ) → Option (ℕ × ℕ)
burnt None = None
burnt (Some f) = if f.0 == 1 then None else Some (f.0 - 1, f.1)

-- the fuse after this number of writes and syncs more
abbrev pub burnt_by : ℕ → Option (ℕ × ℕ) → Option (ℕ × ℕ)
burnt_by zero fuse = fuse
burnt_by (suc n) fuse = burnt_by n (burnt fuse)

-- the fuse fails this write or sync, and takes the power
abbrev pub blows : Option (ℕ × ℕ) → Bool
blows None = false
blows (Some f) = f.0 == 1

-- one of the next n writes and syncs takes the power
abbrev pub blows_within : ℕ → Option (ℕ × ℕ) → Bool
blows_within zero fuse = false
blows_within (suc n) fuse = blows fuse || blows_within n (burnt fuse)

-- what n writes and syncs do to power and fuse: with power each burns the fuse, which takes the power as it ends; without power nothing changes, and no call brings power back
pub record Burns (calls : ℕ) (old new : DiskSeen) : Type 0 where
  pub fuse : new.fuse ≡ (if old.power then burnt_by calls old.fuse else old.fuse)
  pub power : new.power ≡ (old.power && not (blows_within calls old.fuse))

-- what at most n of them do
abbrev pub BurnsUpTo : ℕ → DiskSeen → DiskSeen → Type 0
BurnsUpTo most old new = (calls : ℕ) × (calls ≤ most) × Burns calls old new

-- what no call but `make_room` and those of a bay changes
pub record SameRest (old new : DiskSeen) : Type 0 where
  pub tells : new.tells ≡ old.tells
  pub of_file : new.of_file ≡ old.of_file
  pub attached : new.attached ≡ old.attached
  pub room_end : new.room_end ≡ old.room_end
