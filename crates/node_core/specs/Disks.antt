-- What is on a node's disks, and what a call leaves of them.
use Rattle.std.specs.Prelude.{◌≡◌, ◌⊎◌, ℕ, ◌≤◌, List, ◌∷◌, [], ◌++◌, map, true, false, None}
use Rattle.outside.specs.Disk.{AttachedAs, Durable, DiskState, DiskSeen, IsImage, EachImage, IfTold, CutsPower, LeavesBy}
use Rattle.net_base.specs.declared.names.Identity.{Identity}
use Rattle.disk_journal.specs.Journal.{IsSound, IsYoung, journal_of}

-- ---- how all above a journal speaks of what is on a node's disks: what a power cut may leave of them, which journal that spells, and whether it is the
-- node's own

-- what a power cut leaves of a node's disks: the bytes of the one that the journal is on
abbrev pub Image : Type 0
Image = List ℕ

-- at this moment a power cut may leave this
abbrev pub MayLeave : Durable → Image → Type 0
MayLeave s c = IsImage s c

-- the journal that an image spells, body by body
abbrev pub spelt : Image → List (List ℕ)
spelt c = journal_of c

-- whatever a power cut leaves now is so
abbrev pub EachNow : DiskSeen → (Image → Type 0) → Type 0
EachNow disk P = (c : Image) → MayLeave disk.state.now c → P c

-- where the disks tell their content: at every moment since, whatever a power cut might have left was so
abbrev pub EachSince : DiskSeen → DiskSeen → (DiskState → Image → Type 0) → Type 0
EachSince old new P = IfTold old new (λ d e. EachImage d e (P d))

-- the journal that the disks keep
abbrev pub kept_journal : DiskSeen → List (List ℕ)
kept_journal disk = spelt disk.state.kept

-- whatever a power cut leaves now is a sound journal of this node
abbrev pub LeavesSound : Identity → DiskSeen → Type 0
LeavesSound id disk = EachNow disk (IsSound id)

-- whatever a power cut leaves now is such a journal, or one of the node's that is not begun: so an opening refuses it only for a record that does not fit
abbrev pub IsOpenable : Identity → DiskSeen → Type 0
IsOpenable id disk = EachNow disk (IsYoung id)

-- ---- what a call leaves

-- a disk as contracts see it, without its room
abbrev pub roomless : DiskSeen → DiskSeen
roomless v = record v { room_end = 0; room_writes = 0 }

-- what each of these disks is attached as
abbrev pub attached_as : List DiskSeen → List AttachedAs
attached_as disks = map (λ d. d.attached) disks

-- at every moment since the call began each image is as said, and so is what is kept, and what the disk is attached as stays; nothing is said of the images of a disk that doesn't tell
pub record Moves (old new : DiskSeen) (may : DiskState → Image → Type 0) : Type 0 where
  pub file : new.of_file ≡ old.of_file
  pub attached : new.attached ≡ old.attached
  pub tells : new.tells ≡ old.tells
  pub later : old.faults ≤ new.faults
  pub images : EachSince old new may
  pub kept : IfTold old new (λ d e. may d e.kept)

-- where each image was so, each is so at every moment since
abbrev pub KeepsImages : (Image → Type 0) → DiskSeen → DiskSeen → Type 0
KeepsImages P old new = IfTold old new (λ d e. ((c : Image) → MayLeave d.now c → P c) → EachImage d e P)

-- sound images stay sound, and those over which an opening gives no refusal stay so
pub record KeepsForm (id : Identity) (old new : DiskSeen) : Type 0 where
  pub sound : KeepsImages (IsSound id) old new
  pub young : KeepsImages (IsYoung id) old new

-- each image is sound and spells these bodies, and so does what is kept
pub record Holds (id : Identity) (disk : DiskSeen) (bodies : List (List ℕ)) : Type 0 where
  pub sound : disk.tells ≡ true → LeavesSound id disk
  pub images : disk.tells ≡ true → EachNow disk (λ c. spelt c ≡ bodies)
  pub kept : disk.tells ≡ true → kept_journal disk ≡ bodies

-- an image spells the old bodies, or these with one more
abbrev pub OldOrMore : List (List ℕ) → List ℕ → DiskState → Image → Type 0
OldOrMore bodies body d c = (spelt c ≡ bodies) ⊎ (spelt c ≡ bodies ++ body ∷ [])

-- a power cut leaves one of the images
abbrev pub OneOf : DiskState → Image → Type 0
OneOf d c = MayLeave d.now c

-- the power went now, and nothing else changed but that; what was pending is left as the outcome says
pub record CutsNow (outcome : ℕ) (old new : DiskSeen) : Type 0 where
  pub file : new.of_file ≡ old.of_file
  pub attached : new.attached ≡ old.attached
  pub tells : new.tells ≡ old.tells
  pub faults : new.faults ≡ old.faults
  pub state : IfTold old new CutsPower
  pub left : IfTold old new (LeavesBy outcome)
  pub power : new.power ≡ false
  pub fuse : new.fuse ≡ None
