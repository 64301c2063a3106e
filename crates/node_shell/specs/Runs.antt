-- A whole run: how the network opened, and how the script went.
use Rattle.std.specs.Prelude.{◌≡◌, ◌⊎◌, ◌↔◌, ℕ, ◌<◌, ◌≤◌, take, drop, List, [], ◌∷◌, ◌++◌, length, map, Option, Some, None, codes, decimal, true, false, slice_get, ⊤}
use Rattle.std.specs.Io.KnownBytes.{Appends}
use Rattle.outside.specs.Disk.{DiskAlone, DiskSeen, IfTold}
use Rattle.outside.specs.Faults.{Rose}
use Rattle.net_base.specs.declared.causes.Cause.{Cause}
use Rattle.net_base.specs.declared.names.Identity.{Identity}
use Rattle.net_base.specs.declared.values.Party.{Party}
use Rattle.shell_words.specs.declared.program.NetworkWords.{NetworkWords}
use Rattle.shell_words.specs.Program.{network_of_words, dir_of_words}
use Rattle.disk_journal.specs.Journal.{WasSpelt, placed, is_unformatted, formatted, refusal}
use Rattle.disk_journal.specs.declared.fault.OpenFault.TheVariants as open_fault
use Rattle.net_model.specs.Environment.{Environment, environment, party, Meaning}
use Rattle.net_model.specs.Runs.{IsFaithful, network_of, merged}
use Rattle.node_tables.specs.Fits.{misfit}
use Rattle.node_tables.specs.Journals.{Reads, records_of, state_of, causes_of}
use Rattle.node_core.specs.declared.faults.BootFault.{BootFault}
use Rattle.node_core.specs.declared.faults.BootFault.TheVariants as boot
use Rattle.network_core.specs.Worlds.{World, NodeWorld, NetSeen, MaySpell, Shows, AreOpenable, Coherent, Choice}
use Rattle.node_core.specs.Seen.{NodeSeen}
use Rattle.node_core.specs.Disks.{Image, MayLeave, kept_journal, spelt, roomless, attached_as}
use Rattle.network_core.specs.Begins.{member, nodes_over, net_over, Begun, BootsUpTo}
use Rattle.network_core.specs.Acknowledged.{Acknowledged, StandsOnce}
use Rattle.work_law.specs.Passages.{Attains}
use Rattle.ledger_laws.specs.Ledgers.{HasOneConsumerEach}
use Rattle.network_core.specs.Drains.{with_world}
use Rattle.node_shell.specs.Names.{own_name, name_beside, faults_beside, calm_beside}
use Rattle.node_shell.specs.declared.statuses.Status.{Status}
use Rattle.node_shell.specs.declared.statuses.Status.TheVariants as status
use Rattle.node_shell.specs.Lines.{Link, RunsShort}
use Rattle.node_shell.specs.Responds.{NetLink, NetShort}
use Rattle.node_shell.specs.Story.{Story, ScriptRun, IsScriptStatus}
use Rattle.node_shell.specs.Together.{PairLink, PairShort}

-- the number of a status
abbrev pub number_of_status : Status → ℕ
number_of_status status.Finished = 0
number_of_status status.BadWords = 2
number_of_status status.TooLong = 3
number_of_status status.ReadFault = 4
number_of_status status.WriteFault = 5
number_of_status status.DiskFault = 6
number_of_status status.NoMemory = 7
number_of_status status.BadJournal = 8

-- the environment of the network that words ask for
abbrev pub environment_for : {F : Type 0} → Meaning F → NetworkWords → Environment F
environment_for m n = environment m (member n.nodes (party n.notary) 0)

-- the network whose nodes are down over their disks, at a moment
abbrev pub over : {F : Type 0} → Environment F → ℕ → List DiskSeen → NetSeen
over e now disks = net_over e.nodes e.notary now disks

-- a world whose nodes are all down, and in which no frame waits
abbrev pub all_down : World → World
all_down w = record w { nodes = map (λ (x : NodeWorld). record x { up = false; acked = []; waiting = [] }) w.nodes }

-- nothing but the disks' counts of faults has changed, and they have not fallen
pub record MadeReady (w v : World) : Type 0 where
  pub count : length v.nodes ≡ length w.nodes
  pub each : (p : ℕ) (x y : NodeWorld) → slice_get w.nodes p ≡ Some x → slice_get v.nodes p ≡ Some y → (y ≡ record x { faults = y.faults }) × (x.faults ≤ y.faults)
  pub clock : v.now ≡ w.now

-- The disks show a coherent world, and whichever journals power cuts leave of them are those of one run of the network. In the book of that run's
-- notary each state has one consumer at most, and each item of each conflict names it.
pub record Rests {F : Type 0} (e : Environment F) (disks : List DiskSeen) (w : World) : Type 0 where
  pub shows : Shows e (over e w.now disks) w
  pub coherent : Coherent e w
  pub faithful : (lists : List (List (List ℕ))) → Choice w lists → IsFaithful e (map (records_of e.frame_at) lists) × (network_of e (map (causes_of e.frame_at) lists) ≡ Some (map (state_of e.frame_at) lists))
  pub consumers : (lists : List (List (List ℕ))) → Choice w lists → HasOneConsumerEach e (map (state_of e.frame_at) lists)

-- where a disk tells its content, no opening of this node refuses it: it keeps no begun journal, or a sound one of the node's own whose records fit
abbrev pub KeepsOwn : {F : Type 0} → Reads F → Identity → DiskSeen → Type 0
KeepsOwn frame_at id disk = disk.tells ≡ true → (refusal id disk.state.kept ≡ None) × (misfit frame_at id.notary id.nodes id.party (placed 16 (kept_journal disk)) ≡ None)

-- no opening of one of these nodes refuses its disk
abbrev pub KeepOwn : {F : Type 0} → Reads F → ℕ → Party → List DiskSeen → Type 0
KeepOwn frame_at nodes notary disks = (p : ℕ) (d : DiskSeen) → slice_get disks p ≡ Some d → KeepsOwn frame_at (member nodes notary p) d

-- each node opened its own journal, and the script went from the opening world to the last by steps, and the disks rest in that one; each world of
-- its story is reached from the opening one, and each world that is reached is coherent; what is acknowledged in any world on the way stands once in
-- the merged journals of every later one, whichever journals power cuts leave; and of no node's disk there is an image in the end that the node's
-- opening refuses
pub record Plays {F : Type 0} (e : Environment F) (w : World) (old new : List DiskSeen) (left0 left1 written0 written1 : Option (List ℕ)) (count : ℕ) (status : Status) : Type 0 where
  pub is_script : IsScriptStatus status
  pub own : KeepOwn e.frame_at e.nodes e.notary old
  pub ready : World
  pub made : MadeReady w ready
  pub start : World
  pub begins : Begun e ready start
  pub last : World
  pub script : ScriptRun (Link e) (RunsShort e) start left0 left1 written0 written1 count last status
  pub rests : Rests e new (all_down last)
  pub openable : AreOpenable (all_down last)
  pub attains : Attains e start last
  pub coherent : (u : World) → Attains e start u → Coherent e u
  pub on_the_way : (lines : List (List ℕ)) (out : List ℕ) (u : World) → Story (Link e) start lines out u → Attains e start u
  pub acknowledged : (u v : World) → Attains e start u → Attains e u v → (lists : List (List (List ℕ))) → Choice v lists → (p : ℕ) (cause : Cause) → Acknowledged e u p cause → StandsOnce (p, cause) (merged (map (causes_of e.frame_at) lists))

-- the line for a node's first opening that found no sound journal of its own
abbrev pub journal_line : ℕ → BootFault → List ℕ
journal_line node (boot.Damaged at) = codes "! journal " ++ decimal node ++ codes " damaged " ++ decimal at ++ 10 ∷ []
journal_line node boot.NotAJournal = codes "! journal " ++ decimal node ++ codes " foreign\n"
journal_line node (boot.WrongNode found) = codes "! journal " ++ decimal node ++ codes " wrong\n"
journal_line node boot.Fault = []
journal_line node boot.Memory = []

-- the line is written and the status says so; or memory runs out; or a proper front of it is written
abbrev pub Writes : List ℕ → Option (List ℕ) → Option (List ℕ) → Status → Type 0
Writes line written0 written1 status.BadJournal = Appends written0 written1 line
Writes line written0 written1 status.NoMemory = written1 ≡ written0
Writes line written0 written1 status.WriteFault = (front missing : List ℕ) × (line ≡ front ++ missing) × (0 < length missing) × Appends written0 written1 front
Writes line written0 written1 other = ⊥

-- the first opening was refused so: what is written, and the status
abbrev pub RefusedWith : ℕ → BootFault → Option (List ℕ) → Option (List ℕ) → Status → Type 0
RefusedWith node boot.Fault written0 written1 s = (s ≡ status.DiskFault) × (written1 ≡ written0)
RefusedWith node boot.Memory written0 written1 s = (s ≡ status.NoMemory) × (written1 ≡ written0)
RefusedWith node boot.NotAJournal written0 written1 s = Writes (journal_line node boot.NotAJournal) written0 written1 s
RefusedWith node (boot.WrongNode found) written0 written1 s = Writes (journal_line node (boot.WrongNode found)) written0 written1 s
RefusedWith node (boot.Damaged at) written0 written1 s = Writes (journal_line node (boot.Damaged at)) written0 written1 s

-- no journal is there that a power cut might not have left before
abbrev pub LeavesFewer : World → World → Type 0
LeavesFewer w v = (p : ℕ) (x y : NodeWorld) (l : List (List ℕ)) → slice_get w.nodes p ≡ Some x → slice_get v.nodes p ≡ Some y → MaySpell y l → MaySpell x l

-- what the disks keep is as before
abbrev pub KeepsJournals : World → World → Type 0
KeepsJournals w v = (p : ℕ) (x y : NodeWorld) → slice_get w.nodes p ≡ Some x → slice_get v.nodes p ≡ Some y → y.journal ≡ x.journal

-- a disk is as before but for its count of faults, which has not fallen, and what it is attached as; of one beside it nothing is said
abbrev pub StaysBut : DiskSeen → DiskSeen → Type 0
StaysBut old new = (new ≡ record old { faults = new.faults; attached = new.attached }) × (old.faults ≤ new.faults)

-- of the disk beside a node's first one: it is as before but for its count of faults, which has not fallen, and what it is attached as
abbrev pub StaysBeside : Option DiskAlone → Option DiskAlone → Type 0
StaysBeside None new = new ≡ None
StaysBeside (Some old) None = ⊥
StaysBeside (Some old) (Some new) = (new ≡ record old { faults = new.faults; attached = new.attached }) × (old.faults ≤ new.faults)

-- each node's first disk is as before but for its count of faults, which has not fallen, and what it is attached as
pub record AllStay (old new : List DiskSeen) : Type 0 where
  pub count : length new ≡ length old
  pub each : (p : ℕ) (d e : DiskSeen) → slice_get old p ≡ Some d → slice_get new p ≡ Some e → StaysBut d e

-- each node's second disk is so
abbrev pub SecondsStay : List DiskSeen → List DiskSeen → Type 0
SecondsStay old new = (p : ℕ) (d e : DiskSeen) → slice_get old p ≡ Some d → slice_get new p ≡ Some e → StaysBeside d.attached.beside e.attached.beside

-- no count of faults has fallen, of a node's first disk or of its second one
pub record NoneFalls (old new : List DiskSeen) : Type 0 where
  pub count : length new ≡ length old
  pub each : (p : ℕ) (d e : DiskSeen) → slice_get old p ≡ Some d → slice_get new p ≡ Some e → (d.faults ≤ e.faults) × (faults_beside d ≤ faults_beside e)

-- what making disks ready leaves of them: in memory each is as before but for its count of faults and what it is attached as, and in a folder no count has fallen
abbrev pub StayIn : Option (List ℕ) → List DiskSeen → List DiskSeen → Type 0
StayIn None old new = AllStay old new × SecondsStay old new
StayIn (Some path) old new = NoneFalls old new

-- both disks of a node are attached under their own names, in this folder or in memory
abbrev pub HasNames : Option (List ℕ) → ℕ → DiskSeen → Type 0
HasNames folder node new = (new.attached.own ≡ Some (own_name folder node false)) × (name_beside new ≡ Some (own_name folder node true))

-- the first one alone is, and the second one as it was before
abbrev pub HasFirstName : Option (List ℕ) → ℕ → DiskSeen → DiskSeen → Type 0
HasFirstName folder node old new = (new.attached.own ≡ Some (own_name folder node false)) × (name_beside new ≡ name_beside old)

-- both are attached as they were before
abbrev pub KeepsNames : DiskSeen → DiskSeen → Type 0
KeepsNames old new = (new.attached.own ≡ old.attached.own) × (name_beside new ≡ name_beside old)

-- both disks of each of the first nodes are attached under their own names, in this folder or in memory, and all others as they were before
pub record AreNamed (folder : Option (List ℕ)) (nodes : ℕ) (old new : List DiskSeen) : Type 0 where
  pub own : (p : ℕ) (e : DiskSeen) → p < nodes → slice_get new p ≡ Some e → HasNames folder p e
  pub rest : (p : ℕ) (d e : DiskSeen) → nodes ≤ p → slice_get old p ≡ Some d → slice_get new p ≡ Some e → KeepsNames d e

-- of the nodes' disks, in order, those before some disk are attached under their own names, and no others
pub record StopsNaming (folder : Option (List ℕ)) (nodes : ℕ) (old new : List DiskSeen) : Type 0 where
  pub place : ℕ
  pub within : place < nodes
  pub own : (p : ℕ) (e : DiskSeen) → p < place → slice_get new p ≡ Some e → HasNames folder p e
  pub here : (d e : DiskSeen) → slice_get old place ≡ Some d → slice_get new place ≡ Some e → KeepsNames d e ⊎ HasFirstName folder place d e
  pub rest : (p : ℕ) (d e : DiskSeen) → place < p → slice_get old p ≡ Some d → slice_get new p ≡ Some e → KeepsNames d e

-- the attaching stopped at a disk of the nodes, for a disk that failed or for want of memory, or did not begin: nothing was read, and the disks are left
-- as making them ready leaves them
pub record StopsAttaching (folder : Option (List ℕ)) (nodes : ℕ) (old new : List DiskSeen) (count number : ℕ) : Type 0 where
  pub named : StopsNaming folder nodes old new ⊎ (new ≡ old)
  pub stay : StayIn folder old new
  pub none : count ≡ 0
  pub status_is : (number ≡ 6) ⊎ (number ≡ 7)

-- both disks of each node are attached under their own names, in this folder or in memory, and all others as they were before; or the attaching stopped
abbrev pub NamesDisks : Option (List ℕ) → ℕ → List DiskSeen → List DiskSeen → ℕ → ℕ → Type 0
NamesDisks folder nodes old new count number = AreNamed folder nodes old new ⊎ StopsAttaching folder nodes old new count number

-- the count of faults of a disk rose, and the disk was not calm
pub record Fails (old new : DiskSeen) : Type 0 where
  pub rose : Rose old.faults new.faults
  pub uneasy : old.calm ≡ true → ⊥

-- of the disk beside a node's first one: its count of faults rose, and it was not calm
pub record FailsBeside (old new : DiskSeen) : Type 0 where
  pub rose : Rose (faults_beside old) (faults_beside new)
  pub uneasy : calm_beside old ≡ true → ⊥

-- of one node, among as many of the first ones as this, what it has before and after is so
pub record One (P : DiskSeen → DiskSeen → Type 0) (count : ℕ) (old new : List DiskSeen) : Type 0 where
  pub place : ℕ
  pub own : place < count
  pub before : DiskSeen
  pub after : DiskSeen
  pub at : slice_get old place ≡ Some before
  pub now : slice_get new place ≡ Some after
  pub is : P before after

-- the first disk of one of these nodes failed
abbrev pub OneFails : ℕ → List DiskSeen → List DiskSeen → Type 0
OneFails count old new = One Fails count old new

-- the first or the second disk of one of them failed
abbrev pub SomeFails : ℕ → List DiskSeen → List DiskSeen → Type 0
SomeFails count old new = One (λ d e. Fails d e ⊎ FailsBeside d e) count old new

-- the count of faults of the first or the second disk of one of them rose
abbrev pub SomeRises : ℕ → List DiskSeen → List DiskSeen → Type 0
SomeRises count old new = One (λ d e. Rose d.faults e.faults ⊎ Rose (faults_beside d) (faults_beside e)) count old new

-- a disk's count of faults has not fallen, and if it was calm it is so
abbrev pub KeepsCalm : DiskSeen → DiskSeen → Type 0
KeepsCalm old new = (old.faults ≤ new.faults) × (old.calm ≡ true → new.calm ≡ true)

-- a node's journal was opened: its disk keeps what it kept, with a journal begun where there was none, and every image spells the journal that was kept
abbrev pub IsOpened : Identity → DiskSeen → DiskSeen → Type 0
IsOpened id old new = IfTold old new (λ d e. (e.kept ≡ formatted id d.kept) × ((c : Image) → MayLeave e.now c → spelt c ≡ spelt d.kept))

-- what a refused opening leaves of its node's disk: every image spells a journal that an image spelt before; and but for a fault the disk keeps the
-- same journal, and the same bytes where one was begun and finished
abbrev pub AfterRefusal : BootFault → DiskSeen → DiskSeen → Type 0
AfterRefusal why old new = IfTold old new (λ d e. ((c : Image) → MayLeave e.now c → WasSpelt d c)
    × ((why ≡ boot.Fault → ⊥) → (spelt e.kept ≡ spelt d.kept) × (is_unformatted d.kept ≡ false → e.kept ≡ d.kept)))

-- these bytes are those of a journal of this node whose records do not fit, the first of them at that place
abbrev pub MisfitsAt : {F : Type 0} → Reads F → Identity → Image → ℕ → Type 0
MisfitsAt frame_at id bytes at = (refusal id bytes ≡ None) × (misfit frame_at id.notary id.nodes id.party (placed 16 (spelt bytes)) ≡ Some at)

-- why the first opening of a node over a disk was refused: the disk failed; or memory ran out; or it keeps no sound journal of the node's, or
-- one whose records do not fit, and then it keeps the same bytes as before
abbrev pub HasCause : {F : Type 0} → Reads F → Identity → DiskSeen → BootFault → DiskSeen → Type 0
HasCause frame_at id old boot.Fault new = Fails old new
HasCause frame_at id old boot.Memory new = ⊤
HasCause frame_at id old boot.NotAJournal new = IfTold old new (λ d e. (refusal id d.kept ≡ Some open_fault.NotAJournal) × (e.kept ≡ d.kept))
HasCause frame_at id old (boot.WrongNode found) new = IfTold old new (λ d e. (refusal id d.kept ≡ Some (open_fault.WrongNode found)) × (e.kept ≡ d.kept))
HasCause frame_at id old (boot.Damaged at) new = IfTold old new (λ d e. ((refusal id d.kept ≡ Some (open_fault.Damaged at)) ⊎ MisfitsAt frame_at id d.kept at) × (e.kept ≡ d.kept))

-- a disk failed, or memory ran out, and nothing was written
abbrev pub GivesUp : Option (List ℕ) → Option (List ℕ) → Status → Type 0
GivesUp written0 written1 s = ((s ≡ status.DiskFault) ⊎ (s ≡ status.NoMemory)) × (written1 ≡ written0)

-- the disks were not made ready: one failed, or memory ran out, and nothing was written; each is as before but for its count of faults and what it is attached as
abbrev pub IsUnready : List DiskSeen → List DiskSeen → Option (List ℕ) → Option (List ℕ) → Status → Type 0
IsUnready old new written0 written1 s = GivesUp written0 written1 s × AllStay old new

-- an opening was refused for a cause, which what was written tells, with the number of the node: the first one, since no opening of those before it
-- refuses its disk. The disks of those keep what they kept, and those of the nodes behind it are as before but for their counts of faults, their room and what they are attached as;
-- of the node's own disk only a fault may have lost what was pending. No count has fallen, and each disk that was calm is so
pub record IsToldWhy {F : Type 0} (frame_at : Reads F) (nodes : ℕ) (notary : Party) (old new : List DiskSeen) (written0 written1 : Option (List ℕ)) (s : Status) : Type 0 where
  pub node : ℕ
  pub within : node < nodes
  pub earlier : (p : ℕ) (d : DiskSeen) → p < node → slice_get old p ≡ Some d → KeepsOwn frame_at (member nodes notary p) d
  pub opened : (p : ℕ) (d b : DiskSeen) → p < node → slice_get old p ≡ Some d → slice_get new p ≡ Some b → IsOpened (member nodes notary p) d b
  pub later : (p : ℕ) (d b : DiskSeen) → node < p → slice_get old p ≡ Some d → slice_get new p ≡ Some b → StaysBut (roomless d) (roomless b)
  pub why : BootFault
  pub cause : (d b : DiskSeen) → slice_get old node ≡ Some d → slice_get new node ≡ Some b → HasCause frame_at (member nodes notary node) d why b
  pub left : (d b : DiskSeen) → slice_get old node ≡ Some d → slice_get new node ≡ Some b → AfterRefusal why d b
  pub calm : (p : ℕ) (d b : DiskSeen) → slice_get old p ≡ Some d → slice_get new p ≡ Some b → KeepsCalm d b
  pub told : RefusedWith node why written0 written1 s

-- some node did not open: nothing was read, and the disks rest on journals that they may have left before; what was written says why. Where no node's
-- disk had an image that the node's opening refuses, none has one then, and what came is a disk that failed or want of memory
pub record Refuses {F : Type 0} (e : Environment F) (w : World) (old new : List DiskSeen) (left0 left1 written0 written1 : Option (List ℕ)) (count : ℕ) (s : Status) : Type 0 where
  pub unread : left1 ≡ left0
  pub none : count ≡ 0
  pub world : World
  pub rests : Rests e new world
  pub fewer : LeavesFewer w world
  pub kept : (s ≡ status.DiskFault → ⊥) → KeepsJournals w world
  pub openable : AreOpenable w → AreOpenable world
  pub why : IsUnready old new written0 written1 s ⊎ IsToldWhy e.frame_at e.nodes e.notary old new written0 written1 s
  pub opens : AreOpenable w → GivesUp written0 written1 s

-- the statuses of a disk that was not made ready
abbrev pub IsOpeningStatus : Status → Type 0
IsOpeningStatus status.DiskFault = ⊤
IsOpeningStatus status.NoMemory = ⊤
IsOpeningStatus other = ⊥

-- the statuses of a first opening that was refused
abbrev pub IsRefusedStatus : Status → Type 0
IsRefusedStatus status.DiskFault = ⊤
IsRefusedStatus status.NoMemory = ⊤
IsRefusedStatus status.WriteFault = ⊤
IsRefusedStatus status.BadJournal = ⊤
IsRefusedStatus other = ⊥

-- the numbers of the statuses that come only once all nodes have opened
abbrev pub IsPlayedNumber : ℕ → Type 0
IsPlayedNumber number = (number ≡ 0) ⊎ ((number ≡ 3) ⊎ (number ≡ 4))

-- ---- over any disks

-- whatever the disks tell: they were made ready, each node opened its journal, and the script went from there to the last network, line by line; its nodes' disks are those that come back
pub record GoesOn {F : Type 0} (m : Meaning F) (nodes : ℕ) (notary : Party) (old new : List DiskSeen) (left0 left1 written0 written1 : Option (List ℕ)) (count : ℕ) (status : Status) : Type 0 where
  pub ready : List DiskSeen
  pub made : AllStay old ready
  pub begun : NetSeen
  pub opened : BootsUpTo m.frame_at nodes begun.now (nodes_over nodes notary 0 ready) begun.nodes
  -- no frame waits
  pub quiet : begun.waiting ≡ map (λ (n : NodeSeen). []) begun.nodes
  pub last : NetSeen
  pub script : ScriptRun (NetLink m) (NetShort m) begun left0 left1 written0 written1 count last status
  pub back : map (λ (n : NodeSeen). n.disk) last.nodes ≡ map roomless new

-- whatever the disks tell: nothing was read, since one was not made ready, or some node did not open
pub record Halts {F : Type 0} (frame_at : Reads F) (nodes : ℕ) (notary : Party) (old new : List DiskSeen) (left0 left1 written0 written1 : Option (List ℕ)) (count : ℕ) (status : Status) : Type 0 where
  pub unread : left1 ≡ left0
  pub none : count ≡ 0
  pub why : IsUnready old new written0 written1 status ⊎ IsToldWhy frame_at nodes notary old new written0 written1 status

-- a run over any disks
abbrev pub GoesOrHalts : {F : Type 0} → Meaning F → ℕ → Party → List DiskSeen → List DiskSeen → Option (List ℕ) → Option (List ℕ) → Option (List ℕ) → Option (List ℕ) → ℕ → Status → Type 0
GoesOrHalts m nodes notary old new left0 left1 written0 written1 count s = GoesOn m nodes notary old new left0 left1 written0 written1 count s ⊎ Halts m.frame_at nodes notary old new left0 left1 written0 written1 count s

-- a run over any disks, by the number of its status
pub record RunsAnyhow {F : Type 0} (m : Meaning F) (nodes : ℕ) (notary : Party) (old new : List DiskSeen) (left0 left1 written0 written1 : Option (List ℕ)) (count number : ℕ) : Type 0 where
  pub status : Status
  pub is : number ≡ number_of_status status
  pub ran : GoesOrHalts m nodes notary old new left0 left1 written0 written1 count status

-- ---- over disks that show a coherent world

-- the networks of the script went together with these worlds, line by line: so the script is one passage (`scripts_are_passages`)
pub record GoTogether {F : Type 0} (m : Meaning F) (nodes : ℕ) (notary : Party) (start last : World) (old new : List DiskSeen) (left0 left1 written0 written1 : Option (List ℕ)) (count : ℕ) (status : Status) : Type 0 where
  pub went : GoesOn m nodes notary old new left0 left1 written0 written1 count status
  pub shows : Shows (environment m (member nodes notary 0)) went.begun start
  pub coherent : Coherent (environment m (member nodes notary 0)) start
  pub shows_last : Shows (environment m (member nodes notary 0)) went.last last
  pub coherent_last : Coherent (environment m (member nodes notary 0)) last
  pub script : ScriptRun (PairLink m (member nodes notary 0)) (PairShort m (member nodes notary 0)) (with_world went.begun start shows coherent) left0 left1 written0 written1 count (with_world went.last last shows_last coherent_last) status

-- the nodes opened and the script was played, and at every moment of it the networks went together with the worlds
pub record PlaysTogether {F : Type 0} (m : Meaning F) (nodes : ℕ) (notary : Party) (w : World) (old new : List DiskSeen) (left0 left1 written0 written1 : Option (List ℕ)) (count : ℕ) (status : Status) : Type 0 where
  pub plays : Plays (environment m (member nodes notary 0)) w old new left0 left1 written0 written1 count status
  pub together : GoTogether m nodes notary plays.start plays.last old new left0 left1 written0 written1 count status

-- the nodes opened and the script was played, or one did not open
abbrev pub PlaysOrRefuses : {F : Type 0} → Meaning F → ℕ → Party → World → List DiskSeen → List DiskSeen → Option (List ℕ) → Option (List ℕ) → Option (List ℕ) → Option (List ℕ) → ℕ → Status → Type 0
PlaysOrRefuses m nodes notary w old new left0 left1 written0 written1 count s =
    PlaysTogether m nodes notary w old new left0 left1 written0 written1 count s
    ⊎ Refuses (environment m (member nodes notary 0)) w old new left0 left1 written0 written1 count s

-- a run over disks that show this world while their nodes are down: the nodes opened and the script was played, or one did not open
pub record RunsAs {F : Type 0} (m : Meaning F) (nodes : ℕ) (notary : Party) (w : World) (old new : List DiskSeen) (left0 left1 written0 written1 : Option (List ℕ)) (count number : ℕ) : Type 0 where
  pub status : Status
  pub is : number ≡ number_of_status status
  pub ran : PlaysOrRefuses m nodes notary w old new left0 left1 written0 written1 count status

-- ---- a whole run, whatever its words and its disks

-- what something was before and is after
pub record Change (A : Type 0) : Type 0 where
  pub old : A
  pub new : A

-- What a run was handed and what it left: its words; the disks; what the source has left and what the sink was told, where these tell it; the counts of
-- faults of both; how many bytes were read; and the number of the status.
pub record Ran (B : Type 0) : Type 0 where
  pub words : List (List ℕ)
  pub disks : Change (List B)
  pub left : Change (Option (List ℕ))
  pub written : Change (Option (List ℕ))
  pub source_faults : Change ℕ
  pub sink_faults : Change ℕ
  pub count : ℕ
  pub status : ℕ

-- so the run ended
abbrev pub Ends : {B : Type 0} → Ran B → Status → Type 0
Ends r s = r.status ≡ number_of_status s

-- the disks as contracts see them
abbrev pub views : {B : Type 0} → (B → DiskSeen) → Change (List B) → Change (List DiskSeen)
views seen disks = record { old = map seen disks.old; new = map seen disks.new }

-- of these the disks of the run's nodes, which are the first ones
abbrev pub of_nodes : ℕ → Change (List DiskSeen) → Change (List DiskSeen)
of_nodes nodes disks = record { old = take nodes disks.old; new = take nodes disks.new }

-- this holds of the network that the words ask for, where they ask for one
abbrev pub OfNetwork : List (List ℕ) → (NetworkWords → Type 0) → Type 0
OfNetwork words P = (n : NetworkWords) → network_of_words words ≡ Some n → P n

-- and where they name no folder for its disks
abbrev pub InMemory : List (List ℕ) → (NetworkWords → Type 0) → Type 0
InMemory words P = dir_of_words words ≡ None → OfNetwork words P

-- and where they name one
abbrev pub InFolder : List (List ℕ) → (NetworkWords → Type 0) → Type 0
InFolder words P = (path : List ℕ) → dir_of_words words ≡ Some path → OfNetwork words P

-- where the nodes' disks show a coherent world, the script is a story that begins in it, or a node did not open
abbrev pub IsStory : {F B : Type 0} → Meaning F → Ran B → Change (List DiskSeen) → NetworkWords → Type 0
IsStory m r disks n = (w : World) → Shows (environment_for m n) (over (environment_for m n) w.now disks.old) w → Coherent (environment_for m n) w
    → RunsAs m n.nodes (party n.notary) w disks.old disks.new r.left.old r.left.new r.written.old r.written.new r.count r.status

-- whatever the disks tell, the script went line by line, or nothing was read
abbrev pub Went : {F B : Type 0} → Meaning F → Ran B → Change (List DiskSeen) → NetworkWords → Type 0
Went m r disks n = RunsAnyhow m n.nodes (party n.notary) disks.old disks.new r.left.old r.left.new r.written.old r.written.new r.count r.status

-- the disks behind those of the nodes are handed back as they were
abbrev pub KeepsOthers : {B : Type 0} → Change (List B) → NetworkWords → Type 0
KeepsOthers disks n = drop n.nodes disks.new ≡ drop n.nodes disks.old

-- the second disk of each node is as it was but for its count of faults and its name
abbrev pub KeepsSeconds : Change (List DiskSeen) → NetworkWords → Type 0
KeepsSeconds disks n = (p : ℕ) (d e : DiskSeen) → p < n.nodes → slice_get disks.old p ≡ Some d → slice_get disks.new p ≡ Some e → StaysBeside d.attached.beside e.attached.beside

-- nothing was read or written, and the disks are as they were
pub record IsUntouched {B : Type 0} (r : Ran B) : Type 0 where
  pub count : r.count ≡ 0
  pub disks : r.disks.new ≡ r.disks.old
  pub left : r.left.new ≡ r.left.old
  pub written : r.written.new ≡ r.written.old

-- an opening was refused and told, the first of the nodes on these disks
abbrev pub ToldWhy : {F B : Type 0} → Meaning F → Ran B → Change (List DiskSeen) → NetworkWords → Type 0
ToldWhy m r disks n = IsToldWhy m.frame_at n.nodes (party n.notary) disks.old disks.new r.written.old r.written.new status.BadJournal

-- no opening refuses what these disks keep
abbrev pub OpensOwn : {F : Type 0} → Meaning F → Change (List DiskSeen) → NetworkWords → Type 0
OpensOwn m disks n = KeepOwn m.frame_at n.nodes (party n.notary) disks.old

-- Why the run ended so: 4 and 5 come only where the source or the sink failed. In memory 6 comes only where a disk failed that was not calm, 8 only where
-- the disk of some node keeps no journal that the node can open, which was told; and where the script was read no opening refuses what its disk keeps.
pub record HasCauses {F B : Type 0} (m : Meaning F) (r : Ran B) (disks : Change (List DiskSeen)) : Type 0 where
  pub read_fault : Ends r status.ReadFault → Rose r.source_faults.old r.source_faults.new
  pub write_fault : Ends r status.WriteFault → Rose r.sink_faults.old r.sink_faults.new
  pub disk_fault : Ends r status.DiskFault → InMemory r.words (λ n. SomeFails n.nodes disks.old disks.new)
  pub bad_journal : Ends r status.BadJournal → InMemory r.words (λ n. ToldWhy m r (of_nodes n.nodes disks) n)
  pub own : IsPlayedNumber r.status → InMemory r.words (λ n. OpensOwn m (of_nodes n.nodes disks) n)

-- A run over the nodes' own disks, which were made ready: over such as show a coherent world it is a story, over any it went line by line or nothing
-- was read. It is as long as its status says, which has its cause, and as many disks come back under the same names.
pub record PlaysOwn {F B : Type 0} (m : Meaning F) (seen : B → DiskSeen) (r : Ran B) (n : NetworkWords) : Type 0 where
  pub runs : IsStory m r (views seen r.disks) n
  pub went : Went m r (views seen r.disks) n
  pub words : Ends r status.BadWords → ⊥
  pub too_long : Ends r status.TooLong ↔ (r.count ≡ 16777217)
  pub few : r.count ≤ 16777217
  pub read_fault : Ends r status.ReadFault → Rose r.source_faults.old r.source_faults.new
  pub write_fault : Ends r status.WriteFault → Rose r.sink_faults.old r.sink_faults.new
  pub disk_fault : Ends r status.DiskFault → OneFails n.nodes (map seen r.disks.old) (map seen r.disks.new)
  pub bad_journal : Ends r status.BadJournal → ToldWhy m r (views seen r.disks) n
  pub own : IsPlayedNumber r.status → OpensOwn m (views seen r.disks) n
  pub count : length r.disks.new ≡ length r.disks.old
  pub attached : attached_as (map seen r.disks.new) ≡ attached_as (map seen r.disks.old)
  -- no count of faults of the source or the sink falls
  pub later : (r.source_faults.old ≤ r.source_faults.new) × (r.sink_faults.old ≤ r.sink_faults.new)

-- A run over disks that were made ready: over such as show a coherent world it is a story, over any it went line by line or nothing was read.
pub record IsPlayed {F B : Type 0} (m : Meaning F) (seen : B → DiskSeen) (r : Ran B) (n : NetworkWords) : Type 0 where
  pub story : IsStory m r (of_nodes n.nodes (views seen r.disks)) n
  pub went : Went m r (of_nodes n.nodes (views seen r.disks)) n
  pub bad_journal : Ends r status.BadJournal → ToldWhy m r (of_nodes n.nodes (views seen r.disks)) n
  pub own : IsPlayedNumber r.status → OpensOwn m (of_nodes n.nodes (views seen r.disks)) n
  pub seconds : KeepsSeconds (views seen r.disks) n
  -- each is attached as it was, so that the disk beside it is as it was
  pub attached : attached_as (map seen r.disks.new) ≡ attached_as (map seen r.disks.old)

-- How a run ends for which the words were taken: 3 is exactly a script that is too long, 4 and 5 come only where the source or the sink failed, the disks of 16 nodes come
-- back, those behind the nodes' as they were, and no count of faults of the source or the sink falls.
pub record EndsWell {B : Type 0} (r : Ran B) (n : NetworkWords) : Type 0 where
  pub words : Ends r status.BadWords → ⊥
  pub too_long : Ends r status.TooLong ↔ (r.count ≡ 16777217)
  pub few : r.count ≤ 16777217
  pub disks : length r.disks.new ≡ 16
  pub others : KeepsOthers r.disks n
  pub read_fault : Ends r status.ReadFault → Rose r.source_faults.old r.source_faults.new
  pub write_fault : Ends r status.WriteFault → Rose r.sink_faults.old r.sink_faults.new
  pub later : (r.source_faults.old ≤ r.source_faults.new) × (r.sink_faults.old ≤ r.sink_faults.new)

-- a run over disks that were made ready, and why it ended so
pub record RanReady {F B : Type 0} (m : Meaning F) (seen : B → DiskSeen) (r : Ran B) (n : NetworkWords) : Type 0 where
  pub played : IsPlayed m seen r n
  pub disk_fault : Ends r status.DiskFault → SomeFails n.nodes (map seen r.disks.old) (map seen r.disks.new)
  pub ends : EndsWell r n

-- a run in memory, in which the disks are made ready first, and why it ended so
pub record RanInMemory {F B : Type 0} (m : Meaning F) (seen : B → DiskSeen) (r : Ran B) (n : NetworkWords) : Type 0 where
  pub story : IsStory m r (of_nodes n.nodes (views seen r.disks)) n
  pub went : Went m r (of_nodes n.nodes (views seen r.disks)) n
  pub disk_fault : Ends r status.DiskFault → SomeFails n.nodes (map seen r.disks.old) (map seen r.disks.new)
  pub bad_journal : Ends r status.BadJournal → ToldWhy m r (of_nodes n.nodes (views seen r.disks)) n
  pub own : IsPlayedNumber r.status → OpensOwn m (of_nodes n.nodes (views seen r.disks)) n
  pub seconds : KeepsSeconds (views seen r.disks) n
  pub named : NamesDisks None n.nodes (map seen r.disks.old) (map seen r.disks.new) r.count r.status
  pub ends : EndsWell r n

-- A run over files: once they were made ready, by which no count of faults fell, it is a run over them; 6 comes only where a count rose.
pub record RunsOverFiles {F B : Type 0} (m : Meaning F) (seen : B → DiskSeen) (r : Ran B) (n : NetworkWords) : Type 0 where
  pub ready : List B
  pub none_falls : NoneFalls (map seen r.disks.old) (map seen ready)
  pub played : IsPlayed m seen (record r { disks = record r.disks { old = ready } }) n
  pub disk_fault : Ends r status.DiskFault → SomeRises n.nodes (map seen r.disks.old) (map seen r.disks.new)

-- a run over the files of a folder, in which the disks are made ready first, and why it ended so
pub record RanInFolder {F B : Type 0} (m : Meaning F) (seen : B → DiskSeen) (path : List ℕ) (r : Ran B) (n : NetworkWords) : Type 0 where
  pub files : RunsOverFiles m seen r n
  pub named : NamesDisks (Some path) n.nodes (map seen r.disks.old) (map seen r.disks.new) r.count r.status
  pub ends : EndsWell r n

-- A run. In memory, over disks that show a coherent world it is a story (`story`), over any disks it went line by line or nothing was read (`went`), each
-- status has its cause (`causes`), and the second disks stay as they were; over files this holds of the disks once they were made ready (`files`). 2 comes
-- only where the words are refused (`words`), which leaves everything untouched, and is the status then unless memory ran out (`refused`); 3 is exactly a script
-- that is too long (`too_long`). The disks of 16 nodes come back in order, those of the run's nodes under their names, and those behind them as they were. No count of
-- faults of the source or the sink falls.
pub record IsRun {F B : Type 0} (m : Meaning F) (seen : B → DiskSeen) (r : Ran B) : Type 0 where
  pub story : InMemory r.words (λ n. IsStory m r (of_nodes n.nodes (views seen r.disks)) n)
  pub went : InMemory r.words (λ n. Went m r (of_nodes n.nodes (views seen r.disks)) n)
  pub causes : HasCauses m r (views seen r.disks)
  pub seconds : InMemory r.words (KeepsSeconds (views seen r.disks))
  pub files : InFolder r.words (RunsOverFiles m seen r)
  pub words : Ends r status.BadWords → network_of_words r.words ≡ None
  pub refused : network_of_words r.words ≡ None → Ends r status.BadWords ⊎ Ends r status.NoMemory
  pub untouched : network_of_words r.words ≡ None → IsUntouched r
  pub too_long : Ends r status.TooLong ↔ (r.count ≡ 16777217)
  pub few : r.count ≤ 16777217
  pub disks : length r.disks.new ≡ 16
  pub others : OfNetwork r.words (KeepsOthers r.disks)
  pub named : OfNetwork r.words (λ n. NamesDisks (dir_of_words r.words) n.nodes (views seen r.disks).old (views seen r.disks).new r.count r.status)
  pub later : (r.source_faults.old ≤ r.source_faults.new) × (r.sink_faults.old ≤ r.sink_faults.new)
