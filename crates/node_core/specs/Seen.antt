-- What contracts see of a node, and what its calls answer.
use Rattle.std.specs.Prelude.{◌≡◌, ◌⊎◌, ℕ, zero, suc, ◌+◌, ◌<◌, ◌≤◌, true, false, MatchOption, List, [], ◌∷◌, ◌++◌, length, map, Option, Some, None, Result, Ok, Err, IsOk, IfSome, ⊤}
use Rattle.outside.specs.Disk.{DiskSeen, IfTold, LeavesBy, Burns, BurnsUpTo}
use Rattle.outside.specs.Faults.{Rose}
use Rattle.net_base.specs.declared.names.Identity.{Identity}
use Rattle.net_base.specs.declared.causes.Event.{Event}
use Rattle.net_base.specs.declared.causes.Event.TheVariants as event
use Rattle.net_base.specs.Names.{IsIdentity}
use Rattle.session_wire.specs.Sessions.{Sent}
use Rattle.flow_machine.specs.declared.flow_set.MakeFault.{MakeFault}
use Rattle.flow_machine.specs.declared.flow_set.MakeFault.TheVariants as make
use Rattle.net_model.specs.Environment.{Environment}
use Rattle.net_model.specs.State.{Record, Effect}
use Rattle.net_model.specs.Steps.{place, body_in, stamp_in, node_step, next_cause}
use Rattle.net_model.specs.Enabled.{picked}
use Rattle.disk_journal.specs.Journal.{JournalSeen, IsReady, WasSpelt, is_unformatted, formatted, opening_calls, refusal, placed}
use Rattle.disk_journal.specs.declared.fault.OpenFault.{OpenFault}
use Rattle.disk_journal.specs.declared.fault.OpenFault.TheVariants as open_fault
use Rattle.flow_records.specs.declared.step.Step.{Step}
use Rattle.flow_records.specs.Records.{record_of}
use Rattle.flow_steps.specs.Going.{flow_in}
use Rattle.flow_steps.specs.Ready.{IsReady as IsReadyStep}
use Rattle.node_tables.specs.declared.boot.RebuildFault.{RebuildFault}
use Rattle.node_tables.specs.declared.boot.RebuildFault.TheVariants as rebuild_fault
use Rattle.node_tables.specs.Fits.{misfit}
use Rattle.node_tables.specs.Journals.{Reads, state_of}
use Rattle.node_tables.specs.Seen.{padded}
use Rattle.node_core.specs.declared.faults.BootFault.{BootFault}
use Rattle.node_core.specs.declared.faults.BootFault.TheVariants as boot_fault
use Rattle.node_core.specs.declared.faults.CutFault.{CutFault}
use Rattle.node_core.specs.declared.faults.CutFault.TheVariants as cut_fault
use Rattle.node_core.specs.declared.faults.StartFault.{StartFault}
use Rattle.node_core.specs.declared.faults.StartFault.TheVariants as start_fault
use Rattle.node_core.specs.declared.faults.CommitFault.{CommitFault}
use Rattle.node_core.specs.declared.faults.CommitFault.TheVariants as commit_fault
use Rattle.node_core.specs.declared.faults.TurnFault.{TurnFault}
use Rattle.node_core.specs.declared.faults.TurnFault.TheVariants as turn_fault
use Rattle.node_core.specs.declared.faults.Turned.{Turned}
use Rattle.node_core.specs.declared.faults.Turned.TheVariants as turned
use Rattle.node_core.specs.Journals.{bytes_of, is_full}
use Rattle.node_core.specs.Disks.{roomless, spelt, kept_journal, IsOpenable, Moves, KeepsForm, Holds, OldOrMore, OneOf}

-- a node that is up as contracts see it
pub record UpSeen : Type 0 where
  pub journal : JournalSeen
  pub bodies : List (List ℕ)
  pub acked : List ℕ

-- a node as contracts see it: its disk without the room, and its bodies while it is up, none while it is down
pub record NodeSeen : Type 0 where
  pub identity : Identity
  pub disk : DiskSeen
  pub journal : Option (List (List ℕ))
  -- how many of the items that it sent are acknowledged, session by session; none while it is down
  pub acked : List ℕ

-- the node is one of its network's, and so is the notary
pub record IsMember (id : Identity) : Type 0 where
  pub limits : IsIdentity id
  pub node : id.party.0 < id.nodes
  pub notary : id.notary.0 < id.nodes

-- a journal of a node in its limits, which took every append, holds these bodies
pub record Tied (id : Identity) (journal : JournalSeen) (bodies : List (List ℕ)) : Type 0 where
  pub limits : IsIdentity id
  pub of : journal.of ≡ id
  pub ready : IsReady journal
  pub counted : journal.count ≡ length bodies
  pub ended : journal.length ≡ 17 + bytes_of bodies
  pub kept : journal.disk.tells ≡ true → kept_journal journal.disk ≡ bodies

-- ---- commits

-- the one body that an event adds, over the item that it accepts: its record's effect is that of the step, and the state goes where the step goes
pub record Pends {F : Type 0} (w : Environment F) (me now : ℕ) (bodies : List (List ℕ)) (event : Event) (item : Option Sent) (body : List ℕ) : Type 0 where
  pub effect : Effect F
  pub reads : record_of w.frame_at body ≡ Some (record { cause = next_cause (state_of w.frame_at bodies) now event item; effect = effect })
  pub step : node_step w me (state_of w.frame_at bodies) (next_cause (state_of w.frame_at bodies) now event item) item ≡ Some (state_of w.frame_at (bodies ++ body ∷ []), effect)

-- an append is four writes and syncs, with power to the end: a fuse that ends within them fails it
pub record AppendsWithPower (old new : DiskSeen) : Type 0 where
  pub burns : Burns 4 old new
  pub before : old.power ≡ true
  pub after : new.power ≡ true

-- one record was appended, and every image has it
pub record Appended {F : Type 0} (w : Environment F) (id : Identity) (now : ℕ) (bodies : List (List ℕ)) (event : Event) (item : Option Sent) (body : List ℕ) (old new : DiskSeen) : Type 0 where
  pub pends : Pends w id.party.0 now bodies event item body
  pub room : is_full w.frame_at (stamp_in item) bodies ≡ false
  pub moves : Moves old new (OldOrMore bodies body)
  pub form : KeepsForm id old new
  pub holds : Holds id new (bodies ++ body ∷ [])
  pub calm : old.calm ≡ true → new.calm ≡ true
  pub power : AppendsWithPower old new

-- the disk failed: each image has the old bodies, or these and the one pending
pub record Failing {F : Type 0} (w : Environment F) (id : Identity) (now : ℕ) (bodies : List (List ℕ)) (event : Event) (item : Option Sent) (body : List ℕ) (old new : DiskSeen) : Type 0 where
  pub pends : Pends w id.party.0 now bodies event item body
  pub room : is_full w.frame_at (stamp_in item) bodies ≡ false
  pub moves : Moves old new (OldOrMore bodies body)
  pub form : KeepsForm id old new
  pub rose : Rose old.faults new.faults
  pub calm : old.calm ≡ true → ⊥
  -- no call of it brings power back
  pub burns : BurnsUpTo 4 old new

-- what an append of a record answers: every image has it; nothing changed but the room; or it may stand or not
abbrev pub LogsAs : {F : Type 0} → Reads F → Record F → List (List ℕ) → JournalSeen → Result (List ℕ) CommitFault → JournalSeen → Type 0
LogsAs frame_at r bodies old (Ok body) new = (record_of frame_at body ≡ Some r) × Tied old.of new (bodies ++ body ∷ []) × Moves (roomless old.disk) (roomless new.disk) (OldOrMore bodies body) × KeepsForm old.of (roomless old.disk) (roomless new.disk) × (old.disk.calm ≡ true → new.disk.calm ≡ true) × AppendsWithPower (roomless old.disk) (roomless new.disk)
LogsAs frame_at r bodies old (Err commit_fault.Memory) new = (roomless new.disk ≡ roomless old.disk) × Tied old.of new bodies
LogsAs frame_at r bodies old (Err commit_fault.Fault) new = (body : List ℕ) × (record_of frame_at body ≡ Some r) × Moves (roomless old.disk) (roomless new.disk) (OldOrMore bodies body) × KeepsForm old.of (roomless old.disk) (roomless new.disk) × Rose old.disk.faults new.disk.faults × (old.disk.calm ≡ true → ⊥) × BurnsUpTo 4 (roomless old.disk) (roomless new.disk)

-- the acknowledged numbers once a journal has these bodies: those of new sessions are 0
abbrev pub acks_over : {F : Type 0} → Environment F → List ℕ → List (List ℕ) → List ℕ
acks_over w acked bodies = padded acked (state_of w.frame_at bodies).sessions

-- a step that a node with this journal may commit at a moment, over an item or none: there is room, its cause is the next one, and it is worked out
pub record MayCommit {F : Type 0} (w : Environment F) (id : Identity) (now : ℕ) (within : F → Type 0) (bodies : List (List ℕ)) (item : Option Sent) (step : Step F) : Type 0 where
  pub room : is_full w.frame_at (stamp_in item) bodies ≡ false
  pub cause : step.cause ≡ next_cause (state_of w.frame_at bodies) now step.cause.event item
  pub ready : IsReadyStep w id.party.0 now within (state_of w.frame_at bodies) (body_in item) step

-- what a commit answers
abbrev pub CommitsAs : {F : Type 0} → Environment F → Identity → ℕ → Event → Option Sent → {T : Type 0} → UpSeen → Result T CommitFault → UpSeen → Type 0
CommitsAs w id now event item old (Ok _) new =
    (body : List ℕ) × Appended w id now old.bodies event item body (roomless old.journal.disk) (roomless new.journal.disk) × (new.bodies ≡ old.bodies ++ body ∷ []) × (new.acked ≡ acks_over w old.acked new.bodies) × Tied id new.journal new.bodies
CommitsAs w id now event item old (Err commit_fault.Memory) new = (new.bodies ≡ old.bodies) × (new.acked ≡ old.acked) × (roomless new.journal.disk ≡ roomless old.journal.disk) × Tied id new.journal new.bodies
CommitsAs w id now event item old (Err commit_fault.Fault) new = (body : List ℕ) × Failing w id now old.bodies event item body (roomless old.journal.disk) (roomless new.journal.disk)

-- a node that is up committed a record
pub record Commits {F : Type 0} (w : Environment F) (now : ℕ) (bodies : List (List ℕ)) (event : Event) (item : Option Sent) (old new : NodeSeen) : Type 0 where
  pub body : List ℕ
  pub appended : Appended w old.identity now bodies event item body old.disk new.disk
  pub journal : new.journal ≡ Some (bodies ++ body ∷ [])
  pub acked : new.acked ≡ acks_over w old.acked (bodies ++ body ∷ [])
  pub identity : new.identity ≡ old.identity

-- a node went down by its disk
pub record Faults {F : Type 0} (w : Environment F) (now : ℕ) (bodies : List (List ℕ)) (event : Event) (item : Option Sent) (old new : NodeSeen) : Type 0 where
  pub body : List ℕ
  pub failing : Failing w old.identity now bodies event item body old.disk new.disk
  pub journal : new.journal ≡ None
  pub acked : new.acked ≡ []
  pub identity : new.identity ≡ old.identity

-- ---- starts and turns

-- why no flow is started where none is made
abbrev pub start_of : MakeFault → StartFault
start_of make.UnknownClass = start_fault.UnknownClass
start_of make.BadArgs = start_fault.BadArgs
start_of make.Memory = start_fault.Memory

-- how many flows a node with this journal has
abbrev pub flow_count : {F : Type 0} → Environment F → List (List ℕ) → ℕ
flow_count w bodies = length (state_of w.frame_at bodies).flows

-- what a start answers at a node that is up
abbrev pub StartsAs : {F : Type 0} → Environment F → ℕ → ℕ → List ℕ → List (List ℕ) → NodeSeen → Result ℕ StartFault → NodeSeen → Type 0
StartsAs w now class args bodies old (Ok f) new = (f ≡ flow_count w bodies) × Commits w now bodies (event.Start f class args) None old new
StartsAs w now class args bodies old (Err start_fault.UnknownClass) new = (w.machine.made class args (place w old.identity.party.0 (flow_count w bodies) 0 now) ≡ Err make.UnknownClass) × (new ≡ old)
StartsAs w now class args bodies old (Err start_fault.BadArgs) new = (w.machine.made class args (place w old.identity.party.0 (flow_count w bodies) 0 now) ≡ Err make.BadArgs) × (new ≡ old)
StartsAs w now class args bodies old (Err start_fault.Full) new = IsOk (w.machine.made class args (place w old.identity.party.0 (flow_count w bodies) 0 now)) × (is_full w.frame_at 0 bodies ≡ true) × (new ≡ old)
StartsAs w now class args bodies old (Err start_fault.Memory) new = new ≡ old
StartsAs w now class args bodies old (Err start_fault.Fault) new = Faults w now bodies (event.Start (flow_count w bodies) class args) None old new
StartsAs w now class args bodies old (Err start_fault.NodeDown) new = ⊥

-- the event by which a node with this journal goes on
abbrev pub picked_at : {F : Type 0} → Environment F → ℕ → Option ℕ → List (List ℕ) → Option Event
picked_at w now pick bodies = picked (state_of w.frame_at bodies).sessions now pick (state_of w.frame_at bodies).flows

-- what a turn answers at a node that is up
abbrev pub TurnsAs : {F : Type 0} → Environment F → ℕ → Option ℕ → List (List ℕ) → NodeSeen → Result Turned TurnFault → NodeSeen → Type 0
TurnsAs w now pick bodies old (Ok turned.Idle) new = (picked_at w now pick bodies ≡ None) × (new ≡ old)
TurnsAs w now pick bodies old (Ok (turned.Moved f)) new = (event : Event) × (picked_at w now pick bodies ≡ Some event) × (flow_in event ≡ f) × Commits w now bodies event None old new
TurnsAs w now pick bodies old (Err turn_fault.Full) new = (event : Event) × (picked_at w now pick bodies ≡ Some event) × (is_full w.frame_at 0 bodies ≡ true) × (new ≡ old)
TurnsAs w now pick bodies old (Err turn_fault.Memory) new = (event : Event) × (picked_at w now pick bodies ≡ Some event) × (is_full w.frame_at 0 bodies ≡ false) × (new ≡ old)
TurnsAs w now pick bodies old (Err turn_fault.Fault) new = (event : Event) × (picked_at w now pick bodies ≡ Some event) × Faults w now bodies event None old new
TurnsAs w now pick bodies old (Err turn_fault.NodeDown) new = ⊥

-- what a start answers at any node: exactly at one that is down, that it is down
abbrev pub StartAnswers : {F : Type 0} → Environment F → ℕ → ℕ → List ℕ → NodeSeen → Result ℕ StartFault → NodeSeen → Type 0
StartAnswers w now class args old answer new = MatchOption old.journal ((answer ≡ Err start_fault.NodeDown) × (new ≡ old)) (λ bodies. StartsAs w now class args bodies old answer new)

-- what a turn answers at any node
abbrev pub TurnAnswers : {F : Type 0} → Environment F → ℕ → Option ℕ → NodeSeen → Result Turned TurnFault → NodeSeen → Type 0
TurnAnswers w now pick old answer new = MatchOption old.journal ((answer ≡ Err turn_fault.NodeDown) × (new ≡ old)) (λ bodies. TurnsAs w now pick bodies old answer new)

-- no cause of a node that is up is later than a moment
abbrev pub IsBy : {F : Type 0} → Reads F → Option (List (List ℕ)) → ℕ → Type 0
IsBy frame_at journal now = IfSome journal (λ bodies. (state_of frame_at bodies).moment ≤ now)

-- ---- boots

-- what a refused rebuilding of the tables is at a boot
abbrev pub boot_by : RebuildFault → BootFault
boot_by (rebuild_fault.Damaged at) = boot_fault.Damaged at
boot_by rebuild_fault.Memory = boot_fault.Memory

-- what a refused opening is at a boot
abbrev pub boot_of : OpenFault → BootFault
boot_of open_fault.Fault = boot_fault.Fault
boot_of open_fault.NotAJournal = boot_fault.NotAJournal
boot_of (open_fault.WrongNode found) = boot_fault.WrongNode found
boot_of (open_fault.Damaged at) = boot_fault.Damaged at
boot_of open_fault.Memory = boot_fault.Memory

-- a journal was opened, and gave this list of bodies, each with the place of its gate
pub record Opens (id : Identity) (old new : DiskSeen) (list : List (ℕ × List ℕ)) : Type 0 where
  pub moves : Moves old new WasSpelt
  pub form : KeepsForm id old new
  pub holds : Holds id new (map (λ x. x.1) list)
  pub few : length list ≤ 65536
  pub told : old.tells ≡ true → list ≡ placed 16 (kept_journal old)
  pub format : old.tells ≡ true → refusal id old.state.kept ≡ None
  pub left : IfTold old new (λ d e. e.kept ≡ formatted id d.kept)
  pub same : IfTold old new (λ d e. spelt e.kept ≡ spelt d.kept)
  pub calm : old.calm ≡ true → new.calm ≡ true
  pub power : (old.power ≡ true) × (new.power ≡ true)
  -- a fuse that ends within its writes and syncs fails it
  pub burns : old.tells ≡ true → Burns (opening_calls old.state.kept) old new
  pub no_more : BurnsUpTo 7 old new

-- why an opening was refused, and what it left
abbrev pub Refuses : Identity → OpenFault → DiskSeen → DiskSeen → Type 0
Refuses id open_fault.Fault old new = Rose old.faults new.faults × (old.calm ≡ true → ⊥)
Refuses id open_fault.Memory old new = ⊤
Refuses id open_fault.NotAJournal old new = old.tells ≡ true → refusal id old.state.kept ≡ Some open_fault.NotAJournal
Refuses id (open_fault.WrongNode found) old new = old.tells ≡ true → refusal id old.state.kept ≡ Some (open_fault.WrongNode found)
Refuses id (open_fault.Damaged at) old new = old.tells ≡ true → refusal id old.state.kept ≡ Some (open_fault.Damaged at)

-- the opening was refused
abbrev pub Unopened : Identity → DiskSeen → BootFault → DiskSeen → Type 0
Unopened id old why new = (fault : OpenFault) × (why ≡ boot_of fault) × Refuses id fault old new

-- the journal was opened, and its records refused
abbrev pub Unfit : {F : Type 0} → Reads F → Identity → DiskSeen → BootFault → DiskSeen → Type 0
Unfit frame_at id old (boot_fault.Damaged at) new = (list : List (ℕ × List ℕ)) × Opens id old new list × (misfit frame_at id.notary id.nodes id.party list ≡ Some at)
Unfit frame_at id old boot_fault.Memory new = (list : List (ℕ × List ℕ)) × Opens id old new list
Unfit frame_at id old _ new = ⊥

-- a boot gave up: the disk failed, or memory ran out
abbrev pub GaveUp : BootFault → Type 0
GaveUp boot_fault.Fault = ⊤
GaveUp boot_fault.Memory = ⊤
GaveUp _ = ⊥

-- a boot was refused: what is kept spells the same journal, and is the same bytes where a journal was begun and finished, but after a fault; where no image was foreign or damaged as it began, it gave up, or a record doesn't fit
pub record Unbooted {F : Type 0} (frame_at : Reads F) (id : Identity) (old : DiskSeen) (why : BootFault) (new : DiskSeen) : Type 0 where
  pub moves : Moves old new WasSpelt
  pub form : KeepsForm id old new
  pub same : (why ≡ boot_fault.Fault → ⊥) → IfTold old new (λ d e. spelt e.kept ≡ spelt d.kept)
  pub bytes : (why ≡ boot_fault.Fault → ⊥) → IfTold old new (λ d e. is_unformatted d.kept ≡ false → e.kept ≡ d.kept)
  pub calm : old.calm ≡ true → new.calm ≡ true
  -- no call of it brings power back, and a refusal that is no fault leaves it on
  pub no_more : BurnsUpTo 7 old new
  pub power : (why ≡ boot_fault.Fault → ⊥) → (old.power ≡ true) × (new.power ≡ true)
  -- such a refusal comes after one sync, but where the records that were read don't fit
  pub burns : (why ≡ boot_fault.Fault → ⊥) → Burns 1 old new ⊎ Unfit frame_at id old why new
  pub cause : Unopened id old why new ⊎ Unfit frame_at id old why new
  pub begun : old.tells ≡ true → IsOpenable id old → GaveUp why ⊎ Unfit frame_at id old why new

-- a boot gave this list of bodies, each a record that fits
pub record Booted {F : Type 0} (frame_at : Reads F) (id : Identity) (old new : DiskSeen) (list : List (ℕ × List ℕ)) : Type 0 where
  pub opens : Opens id old new list
  pub fits : misfit frame_at id.notary id.nodes id.party list ≡ None

-- what a boot answers
abbrev pub BootsAs : {F : Type 0} → Reads F → {T : Type 0} → NodeSeen → Result T BootFault → NodeSeen → Type 0
BootsAs frame_at old (Ok _) new =
    (list : List (ℕ × List ℕ)) × (new.journal ≡ Some (map (λ x. x.1) list)) × (new.acked ≡ padded [] (state_of frame_at (map (λ x. x.1) list)).sessions) × (new.identity ≡ old.identity) × Booted frame_at old.identity old.disk new.disk list
BootsAs frame_at old (Err why) new = (new.journal ≡ None) × (new.acked ≡ []) × (new.identity ≡ old.identity) × Unbooted frame_at old.identity old.disk why new.disk

-- ---- power

-- the journal after a cut: none where the power goes now
abbrev pub after_cut : ℕ → List (List ℕ) → Option (List (List ℕ))
after_cut zero bodies = None
after_cut (suc calls) bodies = Some bodies

-- the acknowledged numbers after a cut: none where the power goes now
abbrev pub acks_after_cut : ℕ → List ℕ → List ℕ
acks_after_cut zero acked = []
acks_after_cut (suc calls) acked = acked

-- the disk after a cut: the power is gone and what is kept is an image, as the outcome says, or a fuse is armed and all else is as it was
pub record CutsDisk (id : Identity) (calls outcome : ℕ) (old new : DiskSeen) : Type 0 where
  pub memory : old.of_file ≡ false
  pub moves : Moves old new OneOf
  pub form : KeepsForm id old new
  pub dark : calls ≡ 0 → (new.power ≡ false) × (new.fuse ≡ None)
  pub left : calls ≡ 0 → IfTold old new (LeavesBy outcome)
  pub armed : 0 < calls → new ≡ record old { fuse = Some (calls, outcome); calm = new.calm }
  pub faults : new.faults ≡ old.faults

-- what a cut answers at a node that is up
abbrev pub CutsAs : {T : Type 0} → ℕ → ℕ → List (List ℕ) → NodeSeen → Result T CutFault → NodeSeen → Type 0
CutsAs calls outcome bodies old (Ok _) new = (new.journal ≡ after_cut calls bodies) × (new.acked ≡ acks_after_cut calls old.acked) × (new.identity ≡ old.identity) × CutsDisk old.identity calls outcome old.disk new.disk
CutsAs calls outcome bodies old (Err cut_fault.NodeDown) new = ⊥
CutsAs calls outcome bodies old (Err cut_fault.NoFuse) new = (old.disk.of_file ≡ true) × (new ≡ old)

-- what a cut answers at any node
abbrev pub CutAnswers : {T : Type 0} → ℕ → ℕ → NodeSeen → Result T CutFault → NodeSeen → Type 0
CutAnswers calls outcome old answer new = MatchOption old.journal ((answer ≡ Err cut_fault.NodeDown) × (new ≡ old)) (λ bodies. CutsAs calls outcome bodies old answer new)
