-- What the bytes of a journal stand for.
use Rattle.std.specs.Prelude.{◌≡◌, ◌⊎◌, ℕ, zero, suc, ◌+◌, ◌<◌, ◌≤◌, ◌==◌, nat_lt, nat_le, not, ◌&&◌, ◌||◌, Bool, true, List, [], ◌∷◌, ◌++◌, length, take, drop, slice_index, codes, Option, Some, None, if◌then◌else◌}
use Rattle.std.specs.Int.{w32, to_be_bytes, from_be_bytes}
use Rattle.std.specs.Str.{bytes_eq}
use Rattle.outside.specs.Disk.{DiskState, DiskSeen, IsImage, clean}
use Rattle.net_base.specs.declared.names.Identity.{Identity}
use Rattle.disk_journal.specs.declared.fault.OpenFault.{OpenFault}
use Rattle.disk_journal.specs.declared.fault.OpenFault.TheVariants.{Fault, Memory, NotAJournal, WrongNode, Damaged}

-- the longest body, in bytes
abbrev pub body_limit : ℕ
body_limit = 524288

-- the most records
unfoldable pub record_limit : ℕ
record_limit = 65536

-- the length that stands behind a gate, four bytes with the most significant first
unfoldable pub length_at : List ℕ → ℕ
length_at bytes = from_be_bytes w32 (take 4 (drop 1 bytes))

-- an open gate stands first, and behind it a whole record and the next gate
unfoldable pub is_whole : List ℕ → Bool
is_whole bytes = (slice_index bytes 0 == 1) && (nat_le (length_at bytes) body_limit && nat_lt (5 + length_at bytes) (length bytes))

-- a closed gate stands first
unfoldable pub is_closed : List ℕ → Bool
is_closed bytes = nat_lt 0 (length bytes) && not (slice_index bytes 0 == 1)

-- the bodies of the whole records that stand first, at most the given number
abbrev pub bodies : ℕ → List ℕ → List (List ℕ)
bodies zero bytes = []
bodies (suc n) bytes = if is_whole bytes then take (length_at bytes) (drop 5 bytes) ∷ bodies n (drop (5 + length_at bytes) bytes) else []

-- how many bytes these are
abbrev pub extent : ℕ → List ℕ → ℕ
extent zero bytes = 0
extent (suc n) bytes = if is_whole bytes then 5 + length_at bytes + extent n (drop (5 + length_at bytes) bytes) else 0

-- where no closed gate ends them, the place of what stands there; the first stands at `at`
abbrev pub damage : ℕ → ℕ → List ℕ → Option ℕ
damage zero at bytes = if is_closed bytes then None else Some at
damage (suc n) at bytes = if is_whole bytes then damage n (at + (5 + length_at bytes)) (drop (5 + length_at bytes) bytes) else (if is_closed bytes then None else Some at)

-- the first ten bytes: the open format gate, the name of the format and its version
abbrev pub magic : List ℕ
magic = 1 ∷ codes "CORDAJNL" ++ 1 ∷ []

-- the identity that three bytes spell
abbrev pub identity_of : ℕ → ℕ → ℕ → Option Identity
identity_of party nodes notary = if nat_lt party 16 && (nat_lt 0 nodes && (nat_le nodes 16 && nat_lt notary 16)) then Some (record { party = record { 0 = party }; nodes = nodes; notary = record { 0 = notary } }) else None

-- the identity that sixteen bytes name
unfoldable pub named : List ℕ → Option Identity
named head = if bytes_eq (take 10 head) magic && bytes_eq (drop 13 head) (0 ∷ 0 ∷ 0 ∷ []) then identity_of (slice_index head 10) (slice_index head 11) (slice_index head 12) else None

-- the header of a journal, 16 bytes
unfoldable pub header : Identity → List ℕ
header id = magic ++ (id.party.0 ∷ id.nodes ∷ id.notary.0 ∷ 0 ∷ 0 ∷ 0 ∷ [])

-- the identity of a formatted image that is a journal
unfoldable pub found : List ℕ → Option Identity
found image = if nat_le 17 (length image) then named (take 16 image) else None

-- the records behind the header, where that names a node
abbrev pub bodies_of : Option Identity → List ℕ → List (List ℕ)
bodies_of None rest = []
bodies_of (Some id) rest = bodies record_limit rest

-- the records that an image spells, by their bodies
unfoldable pub journal_of : List ℕ → List (List ℕ)
journal_of image = bodies_of (found image) (drop 16 image)

-- an image is the sound journal of a node
pub record IsSound (id : Identity) (image : List ℕ) : Type 0 where
  pub named : found image ≡ Some id
  pub ends : damage record_limit 16 (drop 16 image) ≡ None

-- the bytes of a record behind its gate, and the closed gate behind it
abbrev pub entry : List ℕ → List ℕ
entry body = to_be_bytes w32 (length body) ++ (body ++ 0 ∷ [])

-- a journal as contracts see it
pub record JournalSeen : Type 0 where
  pub disk : DiskSeen
  pub of : Identity
  -- one more than the place of the closed gate that ends it
  pub length : ℕ
  pub count : ℕ
  -- this number of bytes has room in the buffer for one record
  pub buffer : ℕ

-- it takes no more records
abbrev pub is_full_at : ℕ → ℕ → Bool
is_full_at count len = nat_le 65536 count || nat_lt 133693435 len

-- what a node's journal is between two calls, where its disk tells its content
pub record Stands (j : JournalSeen) (d : DiskState) : Type 0 where
  pub synced : d.now ≡ clean d.kept
  pub sound : IsSound j.of d.kept
  pub ends : j.length ≡ 17 + extent record_limit (drop 16 d.kept)
  pub counts : j.count ≡ length (journal_of d.kept)

-- no append answered a fault since the opening
abbrev pub IsReady : JournalSeen → Type 0
IsReady j = j.disk.tells ≡ true → Stands j j.disk.state

-- there is room for a record with a body of this number of bytes
pub record HasRoom (j : JournalSeen) (size : ℕ) : Type 0 where
  pub end : j.length + 5 + size ≤ j.disk.room_end
  pub writes : 2 ≤ j.disk.room_writes
  pub buffer : 5 + size ≤ j.buffer

-- the old records, or these with the new one
abbrev pub IsOldOrNew : List (List ℕ) → List ℕ → List ℕ → Type 0
IsOldOrNew old body image = (journal_of image ≡ old) ⊎ (journal_of image ≡ old ++ body ∷ [])

-- each body with the place of its gate
abbrev pub placed : ℕ → List (List ℕ) → List (ℕ × List ℕ)
placed at [] = []
placed at (body ∷ rest) = (at, body) ∷ placed (at + (5 + length body)) rest

-- how many bytes these records take, with their gates and lengths
abbrev pub size_of : List (ℕ × List ℕ) → ℕ
size_of [] = 0
size_of (r ∷ rs) = 5 + length r.1 + size_of rs

-- no journal was begun, or not finished
unfoldable pub is_unformatted : List ℕ → Bool
is_unformatted image = nat_lt (length image) 17 || ((length image == 17) && not (slice_index image 0 == 1))

-- what an opening that succeeds leaves: a new journal where none was begun, or not finished, and any other image as it was
abbrev pub formatted : Identity → List ℕ → List ℕ
formatted id image = if is_unformatted image then header id ++ 0 ∷ [] else image

-- byte 0 reads 0
unfoldable pub is_shut : List ℕ → Bool
is_shut image = nat_lt 0 (length image) && (slice_index image 0 == 0)

-- how many writes and syncs formatting takes: three steps of two, of which the first is left out where byte 0 reads 0
abbrev pub formatting_calls : Bool → ℕ
formatting_calls shut = if shut then 4 else 6

-- how many writes and syncs an opening that succeeds takes: a sync, and those of formatting where it formats
abbrev pub opening_calls : List ℕ → ℕ
opening_calls image = if is_unformatted image then suc (formatting_calls (is_shut image)) else 1

-- both are the same node of the same network
abbrev pub is_same : Identity → Identity → Bool
is_same x y = (x.party.0 == y.party.0) && ((x.nodes == y.nodes) && (x.notary.0 == y.notary.0))

-- the refusal for what damage says
abbrev pub damaged : Option ℕ → Option OpenFault
damaged None = None
damaged (Some at) = Some (Damaged at)

-- why a formatted image is refused, by the identity found and by its damage: first no journal, then another node, then damage
abbrev pub refusal_of : Identity → Option Identity → Option ℕ → Option OpenFault
refusal_of id None harm = Some NotAJournal
refusal_of id (Some x) harm = if is_same x id then damaged harm else Some (WrongNode x)

-- why these bytes can't be opened by this node
unfoldable pub refusal : Identity → List ℕ → Option OpenFault
refusal id image = if is_unformatted image then None else refusal_of id (found image) (damage record_limit 16 (drop 16 image))

-- a call that gave up, by a fault of the disk or for want of memory
abbrev pub GivesUp : OpenFault → Type 0
GivesUp Fault = Unit {0}
GivesUp Memory = Unit {0}
GivesUp NotAJournal = ⊥
GivesUp (WrongNode found) = ⊥
GivesUp (Damaged at) = ⊥

-- an image of that moment spells the same records
abbrev pub WasSpelt : DiskState → List ℕ → Type 0
WasSpelt d bytes = (was : List ℕ) × IsImage d.now was × (journal_of bytes ≡ journal_of was)

-- the journal that was opened: what a read gave, synced and sound
pub record Opened (id : Identity) (gate count : ℕ) (d e : DiskState) : Type 0 where
  pub synced : e.now ≡ clean e.kept
  pub sound : IsSound id e.kept
  pub same : journal_of e.kept ≡ journal_of d.kept
  pub ends : gate ≡ 16 + extent record_limit (drop 16 e.kept)
  pub counts : count ≡ length (journal_of e.kept)

-- nothing but openings of this node may have written here, since there were no bytes: not formatted yet, or sound
abbrev pub IsYoung : Identity → List ℕ → Type 0
IsYoung id image = (length image < 17) ⊎ (((length image ≡ 17) × ((slice_index image 0 ≡ 0) ⊎ (drop 1 image ≡ drop 1 (header id ++ 0 ∷ [])))) ⊎ IsSound id image)
