-- What a node answers where a frame is handed to it, and which frames it sends.
use Rattle.std.specs.Prelude.{◌≡◌, ◌⊎◌, ℕ, ◌+◌, true, if◌then◌else◌, is_none, MatchOption, List, map, Some, Result, Ok, Err}
use Rattle.net_base.specs.declared.names.Key.{Key}
use Rattle.net_base.specs.declared.values.Party.{Party}
use Rattle.net_base.specs.declared.causes.Event.{Event}
use Rattle.net_base.specs.declared.causes.Event.TheVariants as event
use Rattle.session_wire.specs.Frames.{frame}
use Rattle.session_wire.specs.declared.frame.Frame.TheVariants.{Ack}
use Rattle.session_wire.specs.Sessions.{Session, Sent, session_of}
use Rattle.session_table.specs.Tables.{raised, unacked}
use Rattle.session_frames.specs.declared.judged.Judged.{Judged}
use Rattle.session_frames.specs.declared.judged.Judged.TheVariants as judged
use Rattle.session_frames.specs.declared.sending.Outgoing.{Outgoing}
use Rattle.session_frames.specs.Items.{GoesFurther}
use Rattle.session_frames.specs.Judging.{IsJudged}
use Rattle.session_frames.specs.Sending.{outgoing, AreMessages}
use Rattle.net_model.specs.Environment.{Environment}
use Rattle.node_tables.specs.Journals.{Reads, state_of}
use Rattle.node_core.specs.declared.faults.Taken.{Taken}
use Rattle.node_core.specs.declared.faults.Taken.TheVariants as taken
use Rattle.node_core.specs.declared.faults.TakeFault.{TakeFault}
use Rattle.node_core.specs.declared.faults.TakeFault.TheVariants as take_fault
use Rattle.node_core.specs.declared.faults.UnackedFault.{UnackedFault}
use Rattle.node_core.specs.declared.faults.UnackedFault.TheVariants as unacked_fault
use Rattle.node_core.specs.Journals.{is_full}
use Rattle.node_core.specs.Seen.{NodeSeen, Commits, Faults}

-- ---- taking

-- the event by which an item is accepted: where there is no session of its key it begins one
abbrev pub accepting : List Session → Key → ℕ → ℕ → Event
accepting sessions key direction number = if is_none (session_of key sessions) then event.Answer key else event.Arrive key direction number

-- the acknowledgement of a number of items, with its addressee
abbrev pub ack_to : Party → Party → Key → ℕ → ℕ → Outgoing
ack_to me from key direction upto = record { to = from; bytes = frame (Ack me from key direction upto) }

-- what a node that is up answers where an item comes next: it is committed, but where the journal is full or the disk fails
abbrev pub AcceptsAs : {F : Type 0} → Environment F → ℕ → List (List ℕ) → Party → Key → ℕ → ℕ → Sent → NodeSeen → Result Taken TakeFault → NodeSeen → Type 0
AcceptsAs w now bodies from key direction number item old (Ok (taken.Took upto ack)) new =
    (upto ≡ number + 1) × (ack ≡ ack_to old.identity.party from key direction (number + 1)) × Commits w now bodies (accepting (state_of w.frame_at bodies).sessions key direction number) (Some item) old new
AcceptsAs w now bodies from key direction number item old (Err take_fault.Full) new = (is_full w.frame_at item.stamp bodies ≡ true) × (new ≡ old)
AcceptsAs w now bodies from key direction number item old (Err take_fault.Fault) new = Faults w now bodies (accepting (state_of w.frame_at bodies).sessions key direction number) (Some item) old new
AcceptsAs w now bodies from key direction number item old _ new = ⊥

-- what a node that is up answers, by what it says of the frame; nothing but an item that comes next is committed
abbrev pub Responds : {F : Type 0} → Environment F → ℕ → List (List ℕ) → Judged → NodeSeen → Result Taken TakeFault → NodeSeen → Type 0
Responds w now bodies judged.Garbled old answer new = (answer ≡ Err take_fault.Garbled) × (new ≡ old)
Responds w now bodies (judged.NotMine to) old answer new = (answer ≡ Err (take_fault.NotMine to)) × (new ≡ old)
Responds w now bodies judged.NoSession old answer new = (answer ≡ Ok taken.NoSession) × (new ≡ old)
Responds w now bodies (judged.Early expected) old answer new = (answer ≡ Ok (taken.Early expected)) × (new ≡ old)
Responds w now bodies (judged.Acked key direction upto) old answer new =
    (answer ≡ Ok taken.Acked) × (new ≡ record old { acked = raised old.identity.party key direction upto (state_of w.frame_at bodies).sessions old.acked })
Responds w now bodies (judged.Again from key direction expected) old answer new = (answer ≡ Ok (taken.Again expected (ack_to old.identity.party from key direction expected))) × (new ≡ old)
Responds w now bodies (judged.Next from key direction number stamp body) old answer new = AcceptsAs w now bodies from key direction number (record { body = body; stamp = stamp }) old answer new

-- what a node that is up answers to a frame: memory runs out, and nothing changes; or it answers by what it says of the frame
abbrev pub TakesAs : {F : Type 0} → Environment F → ℕ → List ℕ → List (List ℕ) → NodeSeen → Result Taken TakeFault → NodeSeen → Type 0
TakesAs w now bytes bodies old answer new =
    ((answer ≡ Err take_fault.Memory) × (new ≡ old))
    ⊎ ((said : Judged) × IsJudged old.identity (state_of w.frame_at bodies).sessions bytes said × GoesFurther old.identity (state_of w.frame_at bodies).sessions said × Responds w now bodies said old answer new)

-- what any node answers to a frame
abbrev pub TakeAnswers : {F : Type 0} → Environment F → ℕ → List ℕ → NodeSeen → Result Taken TakeFault → NodeSeen → Type 0
TakeAnswers w now bytes old answer new = MatchOption old.journal ((answer ≡ Err take_fault.NodeDown) × (new ≡ old)) (λ bodies. TakesAs w now bytes bodies old answer new)

-- ---- sending

-- the messages of the items of a node with this journal that aren't acknowledged
abbrev pub unacked_at : {F : Type 0} → Reads F → Party → List (List ℕ) → List ℕ → List Outgoing
unacked_at frame_at me bodies acked = map (outgoing me) (unacked me (state_of frame_at bodies).sessions acked)

-- which frames a node that is up has to send; each is a frame
abbrev pub SendsAs : {F : Type 0} → Reads F → List (List ℕ) → NodeSeen → Result (List Outgoing) UnackedFault → Type 0
SendsAs frame_at bodies n (Ok frames) = (frames ≡ unacked_at frame_at n.identity.party bodies n.acked) × AreMessages n.identity.party (unacked n.identity.party (state_of frame_at bodies).sessions n.acked)
SendsAs frame_at bodies n (Err unacked_fault.NodeDown) = ⊥
SendsAs frame_at bodies n (Err unacked_fault.Memory) = Unit {0}

-- which frames any node has to send
abbrev pub SendAnswers : {F : Type 0} → Reads F → NodeSeen → Result (List Outgoing) UnackedFault → Type 0
SendAnswers frame_at n answer = MatchOption n.journal (answer ≡ Err unacked_fault.NodeDown) (λ bodies. SendsAs frame_at bodies n answer)
