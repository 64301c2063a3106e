-- What a node's history leaves as it was, over any disk.
use Rattle.std.specs.Prelude.{◌≡◌, ℕ, ◌*◌, ◌<◌, ◌≤◌, true, List, ◌++◌, length, None, Some}
use Rattle.outside.specs.Disk.{DiskSeen, Burns, BurnsUpTo}
use Rattle.outside.specs.Faults.{Rose}
use Rattle.session_frames.specs.declared.sending.Outgoing.{Outgoing}
use Rattle.net_model.specs.Environment.{Meaning}
use Rattle.node_core.specs.Disks.{Image, EachNow, EachSince, KeepsForm, spelt}
use Rattle.node_core.specs.Seen.{NodeSeen}
use Rattle.work_law.specs.Calls.{Went}
use Rattle.work_law.specs.Works.{Grows}

-- the journal goes on from the other one by this many records
pub record GoesOnBy (count : ℕ) (old new : List (List ℕ)) : Type 0 where
  pub more : List (List ℕ)
  pub front : new ≡ old ++ more
  pub counted : length more ≡ count

-- while the node is up each image of its disk spells its journal; nothing is said of a disk that doesn't tell
abbrev pub HoldsJournal : NodeSeen → Type 0
HoldsJournal n = (bodies : List (List ℕ)) → n.journal ≡ Some bodies → n.disk.tells ≡ true → EachNow n.disk (λ c. spelt c ≡ bodies)

-- an image spells a journal on the way from one to another
pub record SpellsBetween (first last : List (List ℕ)) (c : Image) : Type 0 where
  pub more : List (List ℕ)
  pub on : spelt c ≡ first ++ more
  pub rest : List (List ℕ)
  pub to : last ≡ spelt c ++ rest

-- how far the images of a node's disk went since it was up with this journal: to the one that it has while it is up, and where it went down by one record more at most than it committed
pub record ImagesGo (count : ℕ) (bodies : List (List ℕ)) (old new : NodeSeen) : Type 0 where
  pub last : List (List ℕ)
  pub is_last : (all : List (List ℕ)) → new.journal ≡ Some all → last ≡ all
  pub grows : Grows count 1 bodies last
  -- at every moment since
  pub images : EachSince old.disk new.disk (λ d. SpellsBetween bodies last)

-- for each record four writes and syncs were made, which left the power on, and for the one with which the node went down up to four more; without power none was committed
pub record WritesEach (count : ℕ) (old new : NodeSeen) : Type 0 where
  -- the disk behind the last record
  pub mid : DiskSeen
  pub each : Burns (4 * count) old.disk mid
  pub power : mid.power ≡ old.disk.power
  pub powered : 0 < count → old.disk.power ≡ true
  pub rest : BurnsUpTo 4 mid new.disk
  pub up : (bodies : List (List ℕ)) → new.journal ≡ Some bodies → new.disk ≡ mid

-- a node went on, over any disk, and committed this many records
pub record Lasts (count : ℕ) (old new : NodeSeen) : Type 0 where
  pub identity : new.identity ≡ old.identity
  pub down : old.journal ≡ None → (new ≡ old) × (count ≡ 0)
  pub journal : (bodies more : List (List ℕ)) → old.journal ≡ Some bodies → new.journal ≡ Some more → GoesOnBy count bodies more
  pub rose : (bodies : List (List ℕ)) → old.journal ≡ Some bodies → new.journal ≡ None → Rose old.disk.faults new.disk.faults
  pub later : old.disk.faults ≤ new.disk.faults
  -- a calm disk stays calm, and its node up
  pub calm : old.disk.calm ≡ true → new.disk.calm ≡ true
  pub stays_up : (bodies : List (List ℕ)) → old.disk.calm ≡ true → old.journal ≡ Some bodies → new.journal ≡ None → ⊥
  pub file : new.disk.of_file ≡ old.disk.of_file
  pub attached : new.disk.attached ≡ old.disk.attached
  pub tells : new.disk.tells ≡ old.disk.tells
  pub writes : WritesEach count old new
  -- sound images stay sound at every moment since, and those over which an opening gives no refusal stay so
  pub form : KeepsForm old.identity old.disk new.disk
  -- where each image spelt the journal, each does in the end while the node is up, and at every moment since each spells one on the way
  pub holds : HoldsJournal old → HoldsJournal new
  pub images : HoldsJournal old → (bodies : List (List ℕ)) → old.journal ≡ Some bodies → ImagesGo count bodies old new

-- the law: a node that went on so lasts, and it committed 65,536 records at most
abbrev pub HistoriesLast : (F : Type 0) → Type 0
HistoriesLast F = (m : Meaning F) (now : ℕ) (from n : NodeSeen) (took : List (List ℕ)) (sent : List Outgoing) (count : ℕ) → Went m now from n took sent count → Lasts count from n × (count ≤ 65536)
