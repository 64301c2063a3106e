-- What a step at one node makes of its world, and what it answers.
use Rattle.std.specs.Prelude.{◌≡◌, ◌⊎◌, ℕ, ◌+◌, ◌<◌, ◌≤◌, ◌^◌, Bool, true, false, if◌then◌else◌, List, [], ◌∷◌, ◌++◌, length, take, drop, slice_get, slice_set, Option, Some, None, IsOk, Err}
use Rattle.outside.specs.Faults.{Rose}
use Rattle.net_base.specs.declared.causes.Event.{Event}
use Rattle.net_base.specs.declared.causes.Event.TheVariants as event
use Rattle.flow_machine.specs.declared.flow_set.MakeFault.TheVariants as make
use Rattle.net_base.specs.declared.names.Key.{Key}
use Rattle.net_base.specs.declared.values.Party.{Party}
use Rattle.session_wire.specs.Sessions.{Sent}
use Rattle.session_table.specs.Tables.{raised, unacked}
use Rattle.session_frames.specs.declared.judged.Judged.{Judged}
use Rattle.session_frames.specs.declared.judged.Judged.TheVariants as judged
use Rattle.session_frames.specs.declared.sending.Outgoing.{Outgoing}
use Rattle.session_frames.specs.Items.{GoesFurther}
use Rattle.session_frames.specs.Judging.{IsJudged}
use Rattle.session_frames.specs.Sending.{AreMessages}
use Rattle.waiting_frames.specs.Waiting.{is_waiting, joined}
use Rattle.net_model.specs.Environment.{Environment, identity, party}
use Rattle.net_model.specs.Steps.{place, stamp_in}
use Rattle.node_tables.specs.Journals.{state_of}
use Rattle.node_core.specs.Journals.{is_full}
use Rattle.flow_steps.specs.Going.{flow_in}
use Rattle.node_core.specs.Seen.{Pends, flow_count, picked_at, acks_over}
use Rattle.node_core.specs.Takes.{accepting, ack_to, unacked_at}
use Rattle.network_core.specs.declared.refusal.Refusal.{Refusal}
use Rattle.network_core.specs.declared.refusal.Refusal.TheVariants as refusal
use Rattle.network_core.specs.declared.steps.Outcome.{Outcome}
use Rattle.network_core.specs.declared.steps.Outcome.TheVariants as outcome
use Rattle.network_core.specs.Worlds.{NodeWorld, World, MaySpell}

-- ---- commits and faults

-- the journal has one record more, in every image, each of which is sound, and the disk stays calm
pub record WorldCommits {F : Type 0} (e : Environment F) (p now : ℕ) (event : Event) (item : Option Sent) (x y : NodeWorld) : Type 0 where
  pub was_up : x.up ≡ true
  pub room : is_full e.frame_at (stamp_in item) x.journal ≡ false
  pub body : List ℕ
  pub pends : Pends e p now x.journal event item body
  pub after : y ≡ record { up = true; journal = x.journal ++ body ∷ []; other = None; faults = y.faults; calm = y.calm; file = x.file; openable = true; acked = acks_over e x.acked (x.journal ++ body ∷ []); waiting = x.waiting }
  pub later : x.faults ≤ y.faults
  pub calm : x.calm ≡ true → y.calm ≡ true

-- the disk, which wasn't calm, failed, and the node went down; its images spell the old journal, or this with the one pending record
pub record WorldFaults {F : Type 0} (e : Environment F) (p now : ℕ) (event : Event) (item : Option Sent) (x y : NodeWorld) : Type 0 where
  pub was_up : x.up ≡ true
  pub room : is_full e.frame_at (stamp_in item) x.journal ≡ false
  pub body : List ℕ
  pub pends : Pends e p now x.journal event item body
  pub down : y.up ≡ false
  pub lists : (l : List (List ℕ)) → MaySpell y l → (l ≡ x.journal) ⊎ (l ≡ x.journal ++ body ∷ [])
  pub rose : Rose x.faults y.faults
  pub calm : x.calm ≡ false
  pub file : y.file ≡ x.file
  pub openable : y.openable ≡ x.openable
  pub acked : y.acked ≡ []
  pub waiting : y.waiting ≡ x.waiting

-- ---- starts

-- why a start is refused: the node is down; or it is up, and no flow is made, or one is and the journal is full
abbrev pub RefusesStart : {F : Type 0} → Environment F → ℕ → ℕ → ℕ → List ℕ → NodeWorld → Refusal → Type 0
RefusesStart e p now class args x why =
    let made = e.machine.made class args (place e p (flow_count e x.journal) 0 now) in
    ((why ≡ refusal.NodeDown) × (x.up ≡ false))
    ⊎ ((x.up ≡ true) × (((why ≡ refusal.UnknownClass) × (made ≡ Err make.UnknownClass)) ⊎ (((why ≡ refusal.BadArgs) × (made ≡ Err make.BadArgs)) ⊎ ((why ≡ refusal.Full) × IsOk made × (is_full e.frame_at 0 x.journal ≡ true)))))

-- what a start makes of a node, and its outcome, none at want of memory
abbrev pub WorldStarts : {F : Type 0} → Environment F → ℕ → ℕ → ℕ → List ℕ → NodeWorld → Option Outcome → NodeWorld → Type 0
WorldStarts e p now class args x None y = (x.up ≡ true) × (y ≡ x)
WorldStarts e p now class args x (Some (outcome.Started f)) y = (f ≡ flow_count e x.journal) × WorldCommits e p now (event.Start f class args) None x y
WorldStarts e p now class args x (Some outcome.Fault) y = WorldFaults e p now (event.Start (flow_count e x.journal) class args) None x y
WorldStarts e p now class args x (Some (outcome.Refused why)) y = RefusesStart e p now class args x why × (y ≡ x)
WorldStarts e p now class args x (Some _) y = ⊥

-- ---- turns

-- why a turn is refused: the node is down; or it is up, a flow can go on, and the journal is full
abbrev pub RefusesTurn : {F : Type 0} → Environment F → ℕ → Option ℕ → NodeWorld → Refusal → Type 0
RefusesTurn e now pick x why =
    ((why ≡ refusal.NodeDown) × (x.up ≡ false))
    ⊎ ((why ≡ refusal.Full) × (x.up ≡ true) × (is_full e.frame_at 0 x.journal ≡ true) × (event : Event) × (picked_at e now pick x.journal ≡ Some event))

-- what a turn makes of a node, and its outcome, none at want of memory
abbrev pub WorldTurns : {F : Type 0} → Environment F → ℕ → ℕ → Option ℕ → NodeWorld → Option Outcome → NodeWorld → Type 0
WorldTurns e p now pick x None y = (x.up ≡ true) × (is_full e.frame_at 0 x.journal ≡ false) × ((event : Event) × (picked_at e now pick x.journal ≡ Some event)) × (y ≡ x)
WorldTurns e p now pick x (Some outcome.Idle) y = (x.up ≡ true) × (picked_at e now pick x.journal ≡ None) × (y ≡ x)
WorldTurns e p now pick x (Some (outcome.Moved f)) y = (event : Event) × (picked_at e now pick x.journal ≡ Some event) × (flow_in event ≡ f) × WorldCommits e p now event None x y
WorldTurns e p now pick x (Some outcome.Fault) y = (event : Event) × (picked_at e now pick x.journal ≡ Some event) × WorldFaults e p now event None x y
WorldTurns e p now pick x (Some (outcome.Refused why)) y = RefusesTurn e now pick x why × (y ≡ x)
WorldTurns e p now pick x (Some _) y = ⊥

-- ---- cuts

-- why a cut is refused: the node is down; or it is up, and its disk is a file
abbrev pub RefusesCut : NodeWorld → Refusal → Type 0
RefusesCut x why = ((why ≡ refusal.NodeDown) × (x.up ≡ false)) ⊎ ((why ≡ refusal.NoFuse) × (x.up ≡ true) × (x.file ≡ true))

-- what a cut makes of a node, and its outcome: with 0 the node is down at once, on the same journal; else only the disk's calm ends
abbrev pub WorldCuts : ℕ → NodeWorld → Option Outcome → NodeWorld → Type 0
WorldCuts calls x (Some outcome.Down) y = (calls ≡ 0) × (x.up ≡ true) × (x.file ≡ false) × (y ≡ record x { up = false; calm = y.calm; acked = [] })
WorldCuts calls x (Some outcome.Armed) y = (0 < calls) × (x.up ≡ true) × (x.file ≡ false) × (y ≡ record x { calm = y.calm })
WorldCuts calls x (Some (outcome.Refused why)) y = RefusesCut x why × (y ≡ x)
WorldCuts calls x _ y = ⊥

-- ---- boots

-- a node that was down had its power back and stayed down; its images spell no journal that they didn't spell before
pub record StaysDown (x y : NodeWorld) : Type 0 where
  pub was_down : x.up ≡ false
  pub down : y.up ≡ false
  pub lists : (l : List (List ℕ)) → MaySpell y l → MaySpell x l
  pub later : x.faults ≤ y.faults
  pub calm : x.file ≡ false → y.calm ≡ true
  pub stays_calm : x.calm ≡ true → y.calm ≡ true
  pub file : y.file ≡ x.file
  pub openable : y.openable ≡ x.openable
  pub acked : y.acked ≡ []
  pub waiting : y.waiting ≡ x.waiting

-- a node that was down is up on its journal, which every image spells, each of them sound; nothing that it sent is acknowledged
pub record ComesUp {F : Type 0} (e : Environment F) (x y : NodeWorld) : Type 0 where
  pub was_down : x.up ≡ false
  pub after : y ≡ record { up = true; journal = x.journal; other = None; faults = y.faults; calm = y.calm; file = x.file; openable = true; acked = acks_over e [] x.journal; waiting = x.waiting }
  pub later : x.faults ≤ y.faults
  pub calm : x.file ≡ false → y.calm ≡ true
  pub stays_calm : x.calm ≡ true → y.calm ≡ true

-- what a boot makes of a node, and its outcome: only a file that isn't calm fails, and only a disk that had an image which the opening refuses is refused by its journal
abbrev pub WorldBoots : {F : Type 0} → Environment F → NodeWorld → Option Outcome → NodeWorld → Type 0
WorldBoots e x None y = StaysDown x y × (y.journal ≡ x.journal)
WorldBoots e x (Some outcome.Booted) y = ComesUp e x y
WorldBoots e x (Some outcome.Fault) y = StaysDown x y × Rose x.faults y.faults × (x.file ≡ true) × (x.calm ≡ false)
WorldBoots e x (Some (outcome.Refused why)) y = ((why ≡ refusal.NodeUp) × (x.up ≡ true) × (y ≡ x)) ⊎ ((why ≡ refusal.Journal) × (x.openable ≡ false) × StaysDown x y × (y.journal ≡ x.journal))
WorldBoots e x (Some _) y = ⊥

-- ---- the whole network

-- a step at one place of a world: refused where there is no such node, and nothing else changes
abbrev pub WorldPlace : ℕ → World → Option Outcome → World → (NodeWorld → Option Outcome → NodeWorld → Type 0) → Type 0
WorldPlace p w o v goal =
    ((length w.nodes ≤ p) × (o ≡ Some (outcome.Refused refusal.UnknownNode)) × (v ≡ w))
    ⊎ ((x : NodeWorld) × (y : NodeWorld) × (slice_get w.nodes p ≡ Some x) × (v ≡ record { nodes = slice_set w.nodes p y; now = w.now }) × goal x o y)

-- ---- frames under way

-- a frame is sent: it joins those that wait at its addressee, unless equal bytes wait there
abbrev pub with_frame : List ℕ → NodeWorld → NodeWorld
with_frame bytes x = record x { waiting = joined bytes x.waiting }

-- where there is such a node
abbrev pub sent_to : Outgoing → List NodeWorld → Option NodeWorld → List NodeWorld
sent_to o nodes None = nodes
sent_to o nodes (Some x) = slice_set nodes o.to.0 (with_frame o.bytes x)

-- the nodes once a frame was sent
abbrev pub sent_once : Outgoing → List NodeWorld → List NodeWorld
sent_once o nodes = sent_to o nodes (slice_get nodes o.to.0)

-- the nodes once these frames were sent, in order
abbrev pub sent_all : List Outgoing → List NodeWorld → List NodeWorld
sent_all [] nodes = nodes
sent_all (o ∷ os) nodes = sent_all os (sent_once o nodes)

-- 1 where a frame is new among those that wait at its addressee
abbrev pub new_at : List ℕ → Option NodeWorld → ℕ
new_at bytes None = 0
new_at bytes (Some x) = if is_waiting bytes x.waiting then 0 else 1

-- how many of these frames are new where they are sent, in order
abbrev pub count_new : List Outgoing → List NodeWorld → ℕ
count_new [] nodes = 0
count_new (o ∷ os) nodes = new_at o.bytes (slice_get nodes o.to.0) + count_new os (sent_once o nodes)

-- the frames but the one at a place
abbrev pub without : ℕ → List (List ℕ) → List (List ℕ)
without i frames = take i frames ++ drop (i + 1) frames

-- ---- posts

-- what a post of a node makes of the world: the messages that aren't acknowledged are sent, each a frame, and those counted that are new where they go
abbrev pub PostsFrom : {F : Type 0} → Environment F → ℕ → World → NodeWorld → Option Outcome → World → Type 0
PostsFrom e p w x None v = (x.up ≡ true) × (v ≡ w)
PostsFrom e p w x (Some (outcome.Posted count)) v =
    let frames = unacked_at e.frame_at (party p) x.journal x.acked in
    (x.up ≡ true) × (count ≡ count_new frames w.nodes) × (v ≡ record { nodes = sent_all frames w.nodes; now = w.now })
    × AreMessages (party p) (unacked (party p) (state_of e.frame_at x.journal).sessions x.acked)
PostsFrom e p w x (Some (outcome.Refused why)) v = (why ≡ refusal.NodeDown) × (x.up ≡ false) × (v ≡ w)
PostsFrom e p w x (Some _) v = ⊥

-- a post of the node at a place, and its outcome, none at want of memory
abbrev pub WorldPosts : {F : Type 0} → Environment F → ℕ → World → Option Outcome → World → Type 0
WorldPosts e p w o v =
    ((length w.nodes ≤ p) × (o ≡ Some (outcome.Refused refusal.UnknownNode)) × (v ≡ w))
    ⊎ ((x : NodeWorld) × (slice_get w.nodes p ≡ Some x) × PostsFrom e p w x o v)

-- ---- deliveries

-- what an item that comes next makes of a node, and what is sent: it is committed and acknowledged, but where the journal is full or the disk fails
abbrev pub HearsNext : {F : Type 0} → Environment F → ℕ → ℕ → Party → Key → ℕ → ℕ → Sent → NodeWorld → Outcome → NodeWorld → List Outgoing → Type 0
HearsNext e p now from key direction number item x (outcome.Took upto) y sent =
    (upto ≡ number + 1) × WorldCommits e p now (accepting (state_of e.frame_at x.journal).sessions key direction number) (Some item) x y × (sent ≡ ack_to (party p) from key direction (number + 1) ∷ []) × (upto < 2 ^ 32)
HearsNext e p now from key direction number item x outcome.Fault y sent = WorldFaults e p now (accepting (state_of e.frame_at x.journal).sessions key direction number) (Some item) x y × (sent ≡ [])
HearsNext e p now from key direction number item x (outcome.Refused why) y sent = (why ≡ refusal.Full) × (is_full e.frame_at item.stamp x.journal ≡ true) × (y ≡ x) × (sent ≡ [])
HearsNext e p now from key direction number item x _ y sent = ⊥

-- what a frame makes of a node, by what the node says of it, and what is sent; none that waits is garbled or another's
abbrev pub Hears : {F : Type 0} → Environment F → ℕ → ℕ → Judged → NodeWorld → Outcome → NodeWorld → List Outgoing → Type 0
Hears e p now judged.NoSession x o y sent = (o ≡ outcome.NoSession) × (y ≡ x) × (sent ≡ [])
Hears e p now (judged.Early expected) x o y sent = (o ≡ outcome.Early expected) × (y ≡ x) × (sent ≡ [])
Hears e p now (judged.Acked key direction upto) x o y sent =
    (o ≡ outcome.Acked) × (y ≡ record x { acked = raised (party p) key direction upto (state_of e.frame_at x.journal).sessions x.acked }) × (sent ≡ [])
Hears e p now (judged.Again from key direction expected) x o y sent = (o ≡ outcome.Again expected) × (y ≡ x) × (sent ≡ ack_to (party p) from key direction expected ∷ []) × (expected < 2 ^ 32)
Hears e p now (judged.Next from key direction number stamp body) x o y sent = HearsNext e p now from key direction number (record { body = body; stamp = stamp }) x o y sent
Hears e p now _ x o y sent = ⊥

-- what a frame makes of a node that is up, its outcome, none at want of memory, and what is sent
abbrev pub WorldTakes : {F : Type 0} → Environment F → ℕ → ℕ → List ℕ → NodeWorld → Option Outcome → NodeWorld → List Outgoing → Type 0
WorldTakes e p now bytes x None y sent = (y ≡ x) × (sent ≡ [])
WorldTakes e p now bytes x (Some o) y sent =
    (said : Judged) × IsJudged (identity e p) (state_of e.frame_at x.journal).sessions bytes said × GoesFurther (identity e p) (state_of e.frame_at x.journal).sessions said × Hears e p now said x o y sent

-- whether a frame that was handed over waits on: where it is repeated, where the journal is full, and at want of memory
abbrev pub waits_on : Bool → Option Outcome → Bool
waits_on true o = true
waits_on false None = true
waits_on false (Some (outcome.Refused why)) = true
waits_on false (Some _) = false

-- the node once the frame at a place was handed over
abbrev pub handed_over : Bool → ℕ → NodeWorld → NodeWorld
handed_over true i y = y
handed_over false i y = record y { waiting = without i y.waiting }

-- a node that is up is handed the frame at a place, if there is one
abbrev pub HandsTo : {F : Type 0} → Environment F → Bool → ℕ → ℕ → World → NodeWorld → Option Outcome → World → Type 0
HandsTo e repeated p i w x o v =
    ((slice_get x.waiting i ≡ None) × (o ≡ Some (outcome.Refused refusal.NoFrame)) × (v ≡ w))
    ⊎ ((bytes : List ℕ) × (y : NodeWorld) × (sent : List Outgoing) × (slice_get x.waiting i ≡ Some bytes) × WorldTakes e p w.now bytes x o y sent
    × (v ≡ record { nodes = sent_all sent (slice_set w.nodes p (handed_over (waits_on repeated o) i y)); now = w.now }))

-- a delivery, or a repetition, of the frame at a place of a node, and its outcome, none at want of memory
abbrev pub WorldHands : {F : Type 0} → Environment F → Bool → ℕ → ℕ → World → Option Outcome → World → Type 0
WorldHands e repeated p i w o v =
    ((length w.nodes ≤ p) × (o ≡ Some (outcome.Refused refusal.UnknownNode)) × (v ≡ w))
    ⊎ ((x : NodeWorld) × (slice_get w.nodes p ≡ Some x) × (((x.up ≡ false) × (o ≡ Some (outcome.Refused refusal.NodeDown)) × (v ≡ w)) ⊎ ((x.up ≡ true) × HandsTo e repeated p i w x o v)))

-- the frame at a place of a node is lost, whether the node is up or down
abbrev pub LosesAt : ℕ → NodeWorld → Option Outcome → NodeWorld → Type 0
LosesAt i x (Some outcome.Lost) y = ((bytes : List ℕ) × (slice_get x.waiting i ≡ Some bytes)) × (y ≡ record x { waiting = without i x.waiting })
LosesAt i x (Some (outcome.Refused why)) y = (why ≡ refusal.NoFrame) × (slice_get x.waiting i ≡ None) × (y ≡ x)
LosesAt i x _ y = ⊥

-- ---- the clock

-- the moment becomes the one that was asked for; an earlier one is refused
abbrev pub WorldClock : ℕ → World → Option Outcome → World → Type 0
WorldClock to w o v = ((to < w.now) × (o ≡ Some (outcome.Refused refusal.Backwards)) × (v ≡ w)) ⊎ ((w.now ≤ to) × (o ≡ Some outcome.Fine) × (v ≡ record { nodes = w.nodes; now = to }))
