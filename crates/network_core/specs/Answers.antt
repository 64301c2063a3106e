-- What a step of the network answers, and why, over any disks.
use Rattle.std.specs.Prelude.{◌≡◌, ◌⊎◌, ℕ, zero, suc, ◌+◌, ◌<◌, ◌≤◌, ◌^◌, ⊤, Bool, if◌then◌else◌, List, [], ◌∷◌, length, max, slice_get, slice_set, Option, Some, None, IsSome, option_and_then, true, false, Result, Ok, Err}
use Rattle.std.specs.Option.{option_to_list}
use Rattle.net_model.specs.Environment.{environment, Meaning}
use Rattle.node_core.specs.declared.faults.StartFault.{StartFault}
use Rattle.node_core.specs.declared.faults.StartFault.TheVariants as start_fault
use Rattle.node_core.specs.declared.faults.TurnFault.{TurnFault}
use Rattle.node_core.specs.declared.faults.TurnFault.TheVariants as turn_fault
use Rattle.node_core.specs.declared.faults.Turned.{Turned}
use Rattle.node_core.specs.declared.faults.Turned.TheVariants as turned
use Rattle.node_core.specs.declared.faults.CutFault.{CutFault}
use Rattle.node_core.specs.declared.faults.CutFault.TheVariants as cut_fault
use Rattle.node_core.specs.declared.faults.BootFault.{BootFault}
use Rattle.node_core.specs.declared.faults.BootFault.TheVariants as boot_fault
use Rattle.node_core.specs.declared.faults.Taken.{Taken}
use Rattle.node_core.specs.declared.faults.Taken.TheVariants as taken
use Rattle.node_core.specs.declared.faults.TakeFault.{TakeFault}
use Rattle.node_core.specs.declared.faults.TakeFault.TheVariants as take_fault
use Rattle.node_tables.specs.Journals.{Reads, state_of}
use Rattle.node_core.specs.Seen.{NodeSeen, StartAnswers, TurnAnswers, CutAnswers, BootsAs}
use Rattle.node_core.specs.Takes.{TakeAnswers, unacked_at}
use Rattle.session_table.specs.Tables.{unacked}
use Rattle.session_frames.specs.declared.sending.Outgoing.{Outgoing}
use Rattle.session_frames.specs.Sending.{AreMessages}
use Rattle.waiting_frames.specs.Waiting.{is_waiting, joined}
use Rattle.network_core.specs.declared.serving.Delivery.{Delivery}
use Rattle.network_core.specs.declared.refusal.Refusal.TheVariants as refusal
use Rattle.network_core.specs.declared.steps.Outcome.{Outcome}
use Rattle.network_core.specs.declared.steps.Outcome.TheVariants as outcome
use Rattle.network_core.specs.declared.steps.Step.{Step}
use Rattle.network_core.specs.declared.steps.Step.TheVariants as step
use Rattle.network_core.specs.Worlds.{NetSeen}
use Rattle.network_core.specs.WorldSteps.{waits_on, without}
use Rattle.network_core.specs.Rounds.{DrainSteps, EndsHands, DrainsTo}

-- the outcome of a call that had one, none at want of memory
abbrev pub said : {E : Type 0} → Result Outcome E → Option Outcome
said (Ok o) = Some o
said (Err e) = None

-- the outcome of a start
abbrev pub start_outcome : Result ℕ StartFault → Option Outcome
start_outcome (Ok f) = Some (outcome.Started f)
start_outcome (Err start_fault.NodeDown) = Some (outcome.Refused refusal.NodeDown)
start_outcome (Err start_fault.UnknownClass) = Some (outcome.Refused refusal.UnknownClass)
start_outcome (Err start_fault.BadArgs) = Some (outcome.Refused refusal.BadArgs)
start_outcome (Err start_fault.Full) = Some (outcome.Refused refusal.Full)
start_outcome (Err start_fault.Memory) = None
start_outcome (Err start_fault.Fault) = Some outcome.Fault

-- the outcome of a turn
abbrev pub turn_outcome : Result Turned TurnFault → Option Outcome
turn_outcome (Ok turned.Idle) = Some outcome.Idle
turn_outcome (Ok (turned.Moved f)) = Some (outcome.Moved f)
turn_outcome (Err turn_fault.NodeDown) = Some (outcome.Refused refusal.NodeDown)
turn_outcome (Err turn_fault.Full) = Some (outcome.Refused refusal.Full)
turn_outcome (Err turn_fault.Memory) = None
turn_outcome (Err turn_fault.Fault) = Some outcome.Fault

-- the outcome of a cut at the call that comes as that number, or now
abbrev pub cut_outcome : {T : Type 0} → ℕ → Result T CutFault → Option Outcome
cut_outcome zero (Ok _) = Some outcome.Down
cut_outcome (suc calls) (Ok _) = Some outcome.Armed
cut_outcome calls (Err cut_fault.NodeDown) = Some (outcome.Refused refusal.NodeDown)
cut_outcome calls (Err cut_fault.NoFuse) = Some (outcome.Refused refusal.NoFuse)

-- the outcome of a boot
abbrev pub boot_outcome : Result (Unit {0}) BootFault → Option Outcome
boot_outcome (Ok u) = Some outcome.Booted
boot_outcome (Err boot_fault.Fault) = Some outcome.Fault
boot_outcome (Err boot_fault.NotAJournal) = Some (outcome.Refused refusal.Journal)
boot_outcome (Err (boot_fault.WrongNode found)) = Some (outcome.Refused refusal.Journal)
boot_outcome (Err (boot_fault.Damaged at)) = Some (outcome.Refused refusal.Journal)
boot_outcome (Err boot_fault.Memory) = None

-- a start at a node, and its outcome
abbrev pub StartServes : {F E : Type 0} → Meaning F → ℕ → ℕ → List ℕ → NodeSeen → Result Outcome E → NodeSeen → Type 0
StartServes m now class args old result new = (answer : Result ℕ StartFault) × StartAnswers (environment m old.identity) now class args old answer new × (said result ≡ start_outcome answer)

-- a turn at a node, and its outcome
abbrev pub TurnServes : {F E : Type 0} → Meaning F → ℕ → Option ℕ → NodeSeen → Result Outcome E → NodeSeen → Type 0
TurnServes m now pick old result new = (answer : Result Turned TurnFault) × TurnAnswers (environment m old.identity) now pick old answer new × (said result ≡ turn_outcome answer)

-- a cut at a node, and its outcome
abbrev pub CutServes : {E : Type 0} → ℕ → ℕ → NodeSeen → Result Outcome E → NodeSeen → Type 0
CutServes calls kind old result new = (answer : Result (Unit {0}) CutFault) × CutAnswers calls kind old answer new × (said result ≡ cut_outcome calls answer)

-- the power is back, and nothing else changed
pub record Restored (old new : NodeSeen) : Type 0 where
  pub journal : new.journal ≡ None
  pub identity : new.identity ≡ old.identity
  pub disk : new.disk ≡ record old.disk { power = true; fuse = None; calm = new.disk.calm }
  pub calm : old.disk.of_file ≡ false → new.disk.calm ≡ true
  pub stays_calm : old.disk.calm ≡ true → new.disk.calm ≡ true

-- a node that is down has its power back, and is booted
abbrev pub DownBoots : {F E : Type 0} → Reads F → NodeSeen → Result Outcome E → NodeSeen → Type 0
DownBoots frame_at old result new = (mid : NodeSeen) × (answer : Result (Unit {0}) BootFault) × Restored old mid × BootsAs frame_at mid answer new × (said result ≡ boot_outcome answer)

-- a boot of a node, and its outcome
abbrev pub BootServes : {F E : Type 0} → Reads F → NodeSeen → Result Outcome E → NodeSeen → Type 0
BootServes frame_at old result new =
    (IsSome old.journal × (said result ≡ Some (outcome.Refused refusal.NodeUp)) × (new ≡ old))
    ⊎ ((old.journal ≡ None) × DownBoots frame_at old result new)

-- a step at one place: refused where there is no such node, and nothing else changes
abbrev pub AtPlace : {E : Type 0} → ℕ → NetSeen → Result Outcome E → NetSeen → (NodeSeen → Result Outcome E → NodeSeen → Type 0) → Type 0
AtPlace place old result new serves =
    ((length old.nodes ≤ place) × (said result ≡ Some (outcome.Refused refusal.UnknownNode)) × (new ≡ old))
    ⊎ ((n : NodeSeen) × (k : NodeSeen) × (slice_get old.nodes place ≡ Some n) × (new.nodes ≡ slice_set old.nodes place k) × (new.waiting ≡ old.waiting) × serves n result k)

-- the moment becomes the one that was asked for, which isn't before it
abbrev pub ClockServes : ℕ → NetSeen → Outcome → NetSeen → Type 0
ClockServes to old result new = ((to < old.now) × (result ≡ outcome.Refused refusal.Backwards) × (new ≡ old)) ⊎ ((old.now ≤ to) × (result ≡ outcome.Fine) × (new ≡ record { nodes = old.nodes; waiting = old.waiting; now = to }))

-- the moment of the last cause in a node's journal, 0 without one or while the node is down
abbrev pub last_moment : {F : Type 0} → Reads F → Option (List (List ℕ)) → ℕ
last_moment frame_at None = 0
last_moment frame_at (Some bodies) = (state_of frame_at bodies).moment

-- the moment after a boot, by its outcome: where the node came up the greater of the one that stood and that of its journal's last cause,
-- and else the one that stood
abbrev pub booted_at : {F : Type 0} → Reads F → ℕ → Option Outcome → Option (List (List ℕ)) → ℕ
booted_at frame_at now (Some outcome.Booted) journal = max now (last_moment frame_at journal)
booted_at frame_at now _ journal = now

-- the journal of the node at a place, none where there is no such node or it is down
abbrev pub journal_at : ℕ → NetSeen → Option (List (List ℕ))
journal_at place net = option_and_then (λ k. k.journal) (slice_get net.nodes place)

-- so the moment of the network, by the journal that the node at the place has then
abbrev pub BootClock : {F E : Type 0} → Reads F → ℕ → NetSeen → Result Outcome E → NetSeen → Type 0
BootClock frame_at place old result new = new.now ≡ booted_at frame_at old.now (said result) (journal_at place new)

-- ---- frames

-- the outcome of a frame that was handed to a node; none that waits is garbled or another's
abbrev pub take_outcome : Result Taken TakeFault → Option Outcome
take_outcome (Ok taken.Acked) = Some outcome.Acked
take_outcome (Ok (taken.Again expected ack)) = Some (outcome.Again expected)
take_outcome (Ok (taken.Early expected)) = Some (outcome.Early expected)
take_outcome (Ok taken.NoSession) = Some outcome.NoSession
take_outcome (Ok (taken.Took upto ack)) = Some (outcome.Took upto)
take_outcome (Err take_fault.NodeDown) = Some (outcome.Refused refusal.NodeDown)
take_outcome (Err take_fault.Garbled) = Some outcome.NoSession
take_outcome (Err (take_fault.NotMine to)) = Some outcome.NoSession
take_outcome (Err take_fault.Full) = Some (outcome.Refused refusal.Full)
take_outcome (Err take_fault.Memory) = None
take_outcome (Err take_fault.Fault) = Some outcome.Fault

-- what is sent where a frame was handed to a node: an acknowledgement, or nothing
abbrev pub take_sent : Result Taken TakeFault → List Outgoing
take_sent (Ok (taken.Again expected ack)) = ack ∷ []
take_sent (Ok (taken.Took upto ack)) = ack ∷ []
take_sent _ = []

-- the counts that an answer tells are numbers of 32 bits
abbrev pub IsCounted : Result Taken TakeFault → Type 0
IsCounted (Ok (taken.Again expected ack)) = expected < 2 ^ 32
IsCounted (Ok (taken.Took upto ack)) = upto < 2 ^ 32
IsCounted _ = ⊤

-- the outcome that was reached, none at want of memory
abbrev pub reached : {E : Type 0} → Result Delivery E → Option Outcome
reached (Ok delivery) = Some delivery.outcome
reached (Err e) = None

-- the acknowledgement that was made, if there is one
abbrev pub replied : {E : Type 0} → Result Delivery E → List Outgoing
replied (Ok delivery) = option_to_list delivery.ack
replied (Err e) = []

-- a frame was handed to a node, with its outcome and the acknowledgement that it sends
abbrev pub TakeServes : {F E : Type 0} → Meaning F → ℕ → List ℕ → NodeSeen → Result Delivery E → NodeSeen → Type 0
TakeServes m now bytes old result new =
    (answer : Result Taken TakeFault) × TakeAnswers (environment m old.identity) now bytes old answer new × (reached result ≡ take_outcome answer) × (replied result ≡ take_sent answer) × IsCounted answer

-- the messages that a node has to send, each a frame; none exactly where it is down
abbrev pub SendServes : {F E : Type 0} → Reads F → NodeSeen → Result (Option (List Outgoing)) E → Type 0
SendServes frame_at n (Ok None) = n.journal ≡ None
SendServes frame_at n (Ok (Some frames)) = (bodies : List (List ℕ)) × (n.journal ≡ Some bodies) × (frames ≡ unacked_at frame_at n.identity.party bodies n.acked) × AreMessages n.identity.party (unacked n.identity.party (state_of frame_at bodies).sessions n.acked)
SendServes frame_at n (Err e) = IsSome n.journal

-- the frames that wait at each node once one was sent, by those that wait at its addressee, if there is such a node
abbrev pub mailed_to : Outgoing → List (List (List ℕ)) → Option (List (List ℕ)) → List (List (List ℕ))
mailed_to o waiting None = waiting
mailed_to o waiting (Some frames) = slice_set waiting o.to.0 (joined o.bytes frames)

abbrev pub mailed_once : Outgoing → List (List (List ℕ)) → List (List (List ℕ))
mailed_once o waiting = mailed_to o waiting (slice_get waiting o.to.0)

-- once these frames were sent, in order
abbrev pub mailed : List Outgoing → List (List (List ℕ)) → List (List (List ℕ))
mailed [] waiting = waiting
mailed (o ∷ os) waiting = mailed os (mailed_once o waiting)

-- 1 where a frame is new among those that wait where it goes
abbrev pub fresh_at : List ℕ → Option (List (List ℕ)) → ℕ
fresh_at bytes None = 0
fresh_at bytes (Some frames) = if is_waiting bytes frames then 0 else 1

-- how many of these frames are new where they go, when they are sent in order
abbrev pub count_fresh : List Outgoing → List (List (List ℕ)) → ℕ
count_fresh [] waiting = 0
count_fresh (o ∷ os) waiting = fresh_at o.bytes (slice_get waiting o.to.0) + count_fresh os (mailed_once o waiting)

-- how a post of a node ended
abbrev pub Posting : {F : Type 0} → Reads F → NodeSeen → NetSeen → Option Outcome → NetSeen → Type 0
Posting frame_at n old None new = IsSome n.journal × (new ≡ old)
Posting frame_at n old (Some (outcome.Posted count)) new =
    (bodies : List (List ℕ)) × (n.journal ≡ Some bodies)
    × AreMessages n.identity.party (unacked n.identity.party (state_of frame_at bodies).sessions n.acked)
    × (count ≡ count_fresh (unacked_at frame_at n.identity.party bodies n.acked) old.waiting)
    × (new ≡ record { nodes = old.nodes; waiting = mailed (unacked_at frame_at n.identity.party bodies n.acked) old.waiting; now = old.now })
Posting frame_at n old (Some (outcome.Refused why)) new = (why ≡ refusal.NodeDown) × (n.journal ≡ None) × (new ≡ old)
Posting frame_at n old (Some _) new = ⊥

-- a post of the node at a place
abbrev pub PostServes : {F E : Type 0} → Reads F → ℕ → NetSeen → Result Outcome E → NetSeen → Type 0
PostServes frame_at place old result new =
    ((length old.nodes ≤ place) × (said result ≡ Some (outcome.Refused refusal.UnknownNode)) × (new ≡ old))
    ⊎ ((n : NodeSeen) × (slice_get old.nodes place ≡ Some n) × Posting frame_at n old (said result) new)

-- the frames that wait once the one at a place of a node is taken away, or left
abbrev pub parted : Bool → ℕ → ℕ → List (List ℕ) → List (List (List ℕ)) → List (List (List ℕ))
parted true place at frames waiting = waiting
parted false place at frames waiting = slice_set waiting place (without at frames)

-- a node that is up was handed the frame at a place of those that wait there
pub record Handed {F : Type 0} (m : Meaning F) (repeated : Bool) (place at : ℕ) (n : NodeSeen) (frames : List (List ℕ)) (old : NetSeen) (o : Option Outcome) (new : NetSeen) : Type 0 where
  pub bytes : List ℕ
  pub there : slice_get frames at ≡ Some bytes
  pub answer : Result Taken TakeFault
  pub node : NodeSeen
  pub takes : TakeAnswers (environment m n.identity) old.now bytes n answer node
  pub counted : IsCounted answer
  pub outcome_is : o ≡ take_outcome answer
  pub nodes : new.nodes ≡ slice_set old.nodes place node
  pub waiting : new.waiting ≡ mailed (take_sent answer) (parted (waits_on repeated o) place at frames old.waiting)
  pub now : new.now ≡ old.now

-- how handing over the frame at a place of a node ended
abbrev pub Handing : {F : Type 0} → Meaning F → Bool → ℕ → ℕ → NodeSeen → List (List ℕ) → NetSeen → Option Outcome → NetSeen → Type 0
Handing m repeated place at n frames old o new =
    ((n.journal ≡ None) × (o ≡ Some (outcome.Refused refusal.NodeDown)) × (new ≡ old))
    ⊎ (IsSome n.journal × (((slice_get frames at ≡ None) × (o ≡ Some (outcome.Refused refusal.NoFrame)) × (new ≡ old)) ⊎ Handed m repeated place at n frames old o new))

-- a delivery, or a repetition, of the frame at a place of a node
abbrev pub HandServes : {F E : Type 0} → Meaning F → Bool → ℕ → ℕ → NetSeen → Result Outcome E → NetSeen → Type 0
HandServes m repeated place at old result new =
    ((length old.nodes ≤ place) × (said result ≡ Some (outcome.Refused refusal.UnknownNode)) × (new ≡ old))
    ⊎ ((n : NodeSeen) × (frames : List (List ℕ)) × (slice_get old.nodes place ≡ Some n) × (slice_get old.waiting place ≡ Some frames) × Handing m repeated place at n frames old (said result) new)

-- the frame at a place of a node is lost
abbrev pub LoseServes : {E : Type 0} → ℕ → ℕ → NetSeen → Result Outcome E → NetSeen → Type 0
LoseServes place at old result new =
    ((length old.nodes ≤ place) × (said result ≡ Some (outcome.Refused refusal.UnknownNode)) × (new ≡ old))
    ⊎ ((frames : List (List ℕ)) × (slice_get old.waiting place ≡ Some frames)
    × (((slice_get frames at ≡ None) × (said result ≡ Some (outcome.Refused refusal.NoFrame)) × (new ≡ old))
    ⊎ ((bytes : List ℕ) × (slice_get frames at ≡ Some bytes) × (said result ≡ Some outcome.Lost) × (new ≡ record { nodes = old.nodes; waiting = slice_set old.waiting place (without at frames); now = old.now }))))

-- ---- steps

-- the answer that has an outcome, none at want of memory
abbrev pub answer_of : Option Outcome → Result Outcome (Unit {0})
answer_of (Some o) = Ok o
answer_of None = Err tt

-- a turn of a drain at a place
abbrev pub NetTurn : {F : Type 0} → Meaning F → ℕ → NetSeen → Option Outcome → NetSeen → Type 0
NetTurn m place old o new = AtPlace place old (answer_of o) new (λ n r k. TurnServes m old.now None n r k) × (new.now ≡ old.now)

-- a post of a drain at a place
abbrev pub NetPost : {F : Type 0} → Reads F → ℕ → NetSeen → Option Outcome → NetSeen → Type 0
NetPost frame_at place old o new = PostServes frame_at place old (answer_of o) new

-- a delivery of a drain at a place
abbrev pub NetHand : {F : Type 0} → Meaning F → ℕ → NetSeen → Option Outcome → NetSeen → Type 0
NetHand m place old o new = HandServes m false place 0 old (answer_of o) new

-- this many frames wait at a place
abbrev pub AreWaiting : NetSeen → ℕ → ℕ → Type 0
AreWaiting net place n = (frames : List (List ℕ)) × (slice_get net.waiting place ≡ Some frames) × (length frames ≡ n)

-- the deliveries at a place end: no frame waits, or the node is down; or as many were made as frames waited there before them
abbrev pub NetEnds : {F : Type 0} → Meaning F → ℕ → ℕ → NetSeen → NetSeen → NetSeen → Type 0
NetEnds m place count old mid new = EndsHands (NetHand m) place mid new ⊎ (AreWaiting old place count × (new ≡ mid))

-- what a drain is made of, over any disks
abbrev pub net_steps : {F : Type 0} → Meaning F → DrainSteps NetSeen
net_steps m = record { count = λ net. length net.nodes; turn = NetTurn m; post = NetPost m.frame_at; hand = NetHand m; ends = NetEnds m }

-- What a step answers, and what it makes of the network, whatever its disks tell and its journals hold: each refusal, each fault and each
-- outcome has its cause. A drain is rounds of turns, posts and deliveries, each of which has its own, and which end as its outcome says.
abbrev pub Answered : {F E : Type 0} → Meaning F → Step → NetSeen → Result Outcome E → NetSeen → Type 0
Answered m (step.Clock to) old result new = (o : Outcome) × (said result ≡ Some o) × ClockServes to.0 old o new
Answered m (step.Start node class args) old result new = AtPlace node old result new (λ n r k. StartServes m old.now class args n r k) × (new.now ≡ old.now)
Answered m (step.Turn node pick) old result new = AtPlace node old result new (λ n r k. TurnServes m old.now pick n r k) × (new.now ≡ old.now)
Answered m (step.Post node) old result new = PostServes m.frame_at node old result new
Answered m (step.Deliver node at) old result new = HandServes m false node at old result new
Answered m (step.Repeat node at) old result new = HandServes m true node at old result new
Answered m (step.Lose node at) old result new = LoseServes node at old result new
Answered m (step.Cut node calls kind) old result new =
    ((3 < kind) × (said result ≡ Some (outcome.Refused refusal.Syntax)) × (new ≡ old)) ⊎ ((kind ≤ 3) × AtPlace node old result new (λ n r k. CutServes calls kind n r k) × (new.now ≡ old.now))
Answered m (step.Boot node) old result new = AtPlace node old result new (λ n r k. BootServes m.frame_at n r k) × BootClock m.frame_at node old result new
Answered m step.Drain old result new = DrainsTo (net_steps m) old (said result) new × (new.now ≡ old.now)
