-- One step of a node: the effect of a cause, where it is defined.
use Rattle.std.specs.Prelude.{ℕ, ◌+◌, ◌^◌, ◌==◌, ◌&&◌, List, [], ◌∷◌, Option, Some, None, Result, Ok, Err, Bool, true, false, if◌then◌else◌, map, option_map, option_and_then, nat_le, nat_lt, max, length, slice_get}
use Rattle.net_base.specs.declared.values.Hash32.{Hash32}
use Rattle.net_base.specs.declared.values.Party.{Party}
use Rattle.net_base.specs.declared.names.Key.{Key}
use Rattle.net_base.specs.declared.causes.Cause.{Cause}
use Rattle.net_base.specs.declared.causes.Event.{Event}
use Rattle.net_base.specs.declared.causes.Event.TheVariants as event
use Rattle.ledger_types.specs.declared.tx.Tx.{Tx}
use Rattle.ledger_types.specs.declared.tx.SignedTx.{SignedTx}
use Rattle.ledger_types.specs.declared.tx.Resolved.{Resolved}
use Rattle.ledger_types.specs.declared.notary.Request.{Request}
use Rattle.ledger_types.specs.declared.notary.Entry.{Entry}
use Rattle.ledger_types.specs.declared.held.Held.{Held}
use Rattle.ledger_types.specs.declared.value.Value.{Value}
use Rattle.ledger_types.specs.declared.verdict.Verdict.{Verdict}
use Rattle.ledger_types.specs.declared.verdict.Verdict.TheVariants as verdict
use Rattle.ledger_types.specs.Rules.{is_other_notary}
use Rattle.ledger_types.specs.Signatures.{tx_id, is_signed}
use Rattle.ledger_types.specs.Stores.{stored_of, is_stored, resolved_of, missing_ids, untagged}
use Rattle.ledger_types.specs.Vaults.{vault_of, reserved, reservable}
use Rattle.ledger_types.specs.Notary.{Reply, reply, entry_of, tag_by}
use Rattle.session_wire.specs.declared.body.Body.{Body}
use Rattle.session_wire.specs.declared.body.Body.TheVariants as body_of
use Rattle.flow_machine.specs.declared.acts.Act.{Act}
use Rattle.flow_machine.specs.declared.acts.Act.TheVariants as act
use Rattle.flow_machine.specs.declared.acts.Place.{Place}
use Rattle.flow_machine.specs.declared.acts.Resumed.{Resumed}
use Rattle.flow_machine.specs.declared.acts.Resumed.TheVariants as resumed
use Rattle.flow_machine.specs.declared.flow_set.MakeFault.{MakeFault}
use Rattle.flow_machine.specs.declared.flows.Checkpoint.{Checkpoint}
use Rattle.flow_machine.specs.declared.flows.FlowState.{FlowState}
use Rattle.flow_machine.specs.declared.flows.FlowState.TheVariants as state
use Rattle.session_wire.specs.Sessions.{Sent, Session, next_item, session_of}
use Rattle.session_wire.specs.Rules.{next_key, is_no_peer, sessions_of, owned, has_many, waits_for, item_on, is_next, is_new_key}
use Rattle.net_model.specs.Environment.{Environment, party, identity}
use Rattle.net_model.specs.State.{NodeState, FlowPart, no_flow, now_live, now_ended, now_failed, Change, Effect, nothing, with_ids, apply_effect}

-- ---- names at a node

-- where and when a node's flow is made or resumed
abbrev pub place : {F : Type 0} → Environment F → ℕ → ℕ → ℕ → ℕ → Place
place w me f step now = record { me = party me; notary = w.notary; nodes = w.nodes; flow = f; step = step; now = record { 0 = now } }

-- ---- what an act does, and what the frame is resumed with

-- what the frame is resumed with, and what changes besides
abbrev pub Done : Type 0
Done = Resumed × Change

-- the next session is opened, and its Init is sent
abbrev pub opening : ℕ → List Session → Party → ℕ → Value → Done
opening me sessions to class first =
    let key = next_key (party me) sessions in
    (resumed.Opened key, record nothing { opened = Some (key, to); sent = record { key = key; direction = 0; seq = 0; body = body_of.Init class first } ∷ [] })

-- Open: the session, or that the party is no other node, or that the flow has 64 sessions
abbrev pub opens : ℕ → ℕ → List Session → ℕ → Party → ℕ → Value → Done
opens nodes me sessions f to class first =
    if is_no_peer nodes (party me) to then (resumed.Refused 48, nothing)
    else if has_many f sessions then (resumed.Refused 57, nothing)
    else opening me sessions to class first

-- Send: Data in a session that the flow owns
abbrev pub sends : ℕ → Value → Option Session → Done
sends me value None = (resumed.Refused 58, nothing)
sends me value (Some session) = (resumed.Sent, record nothing { sent = item_on (party me) session (body_of.Data value) ∷ [] })

-- what a frame is resumed with once an item is taken
abbrev pub handed : Body → Resumed
handed (body_of.Init class first) = resumed.Got first
handed body_of.Confirm = resumed.Ended
handed (body_of.Reject code) = resumed.Rejected code
handed (body_of.Data value) = resumed.Got value
handed (body_of.Error code) = resumed.Failed code
handed body_of.End = resumed.Ended

-- an item is taken: those before it are passed over; a repeated ending changes nothing
abbrev pub takes : Session → Option ℕ × Body → Done
takes session next = (handed next.1, record nothing { taken = option_map (λ n. (session.key, n + 1)) next.0 })

-- Receive: the next item of a session that the flow owns, where one is there
abbrev pub receives : Option Session → Option Done
receives None = Some (resumed.Refused 58, nothing)
receives (Some session) = option_map (takes session) (next_item session session.ending)

-- Verify: the verdict, where each state that is named can be had
abbrev pub verifies : {F : Type 0} → Environment F → Tx → Option Resolved → Done
verifies w tx None = (resumed.Refused 35, nothing)
verifies w tx (Some states) = (resumed.Verdict (w.judge tx states), nothing)

-- the vault of a node
abbrev pub vault_at : {F : Type 0} → ℕ → NodeState F → List Held
vault_at me s = vault_of (party me) (untagged (with_ids s.stored)) s.locked

-- Reserve: the coins, which are locked, or the sum that there is
abbrev pub reserves : ℕ → Option (List Held) → Done
reserves have None = (resumed.Short have, nothing)
reserves have (Some list) = (resumed.Coins list, record nothing { locked = map (λ h. h.reference) list })

-- Lookup: the recorded transaction, if there is one
abbrev pub finds : Option SignedTx → Done
finds None = (resumed.Absent, nothing)
finds (Some stx) = (resumed.Found stx, nothing)

-- Sign: the tag of the node's party, but never that of the notary
abbrev pub signs_id : {F : Type 0} → Environment F → ℕ → Hash32 → Done
signs_id w me id = if w.notary.0 == me then (resumed.Refused 46, nothing) else (resumed.Tagged (tag_by w.mark (party me) id), nothing)

-- the entry that a reply adds to the book
abbrev pub booked_by : Request → Reply → Option Entry
booked_by q r = if r.fresh then Some (entry_of q r.answer) else None

-- Notarise: what the notary replies, and the entry that is added
abbrev pub notarises : {F : Type 0} → Environment F → ℕ → NodeState F → ℕ → Request → Done
notarises w me s now q =
    let r = reply w.mark s.entries q (identity w me) (record { 0 = now }) in
    (resumed.Answer r.answer, record nothing { booked = booked_by q r })

-- a transaction is recorded where it was accepted and has the tags that it needs
abbrev pub records_by : {F : Type 0} → Environment F → SignedTx → Verdict → Done
records_by w stx verdict.Accepted = if is_signed w.mark stx then (resumed.Recorded, record nothing { recorded = Some stx }) else (resumed.Refused 34, nothing)
records_by w stx (verdict.Broken rule) = (resumed.Refused 31, nothing)
records_by w stx (verdict.Refused contract clause) = (resumed.Refused 32, nothing)
records_by w stx (verdict.NoContract id) = (resumed.Refused 33, nothing)

-- a transaction is judged where each state that it names can be had
abbrev pub records_in : {F : Type 0} → Environment F → SignedTx → Option Resolved → Done
records_in w stx None = (resumed.Refused 35, nothing)
records_in w stx (Some states) = records_by w stx (w.judge stx.tx states)

-- Record: nothing changes where the id is recorded, and a transaction that names another notary is refused
abbrev pub records : {F : Type 0} → Environment F → NodeState F → SignedTx → Done
records w s stx =
    if is_stored (with_ids s.stored) (tx_id stx.tx) then (resumed.Recorded, nothing)
    else if is_other_notary stx.tx.notary w.notary then (resumed.Refused 41, nothing)
    else records_in w stx (resolved_of (with_ids s.stored) stx.tx)

-- ---- how a flow goes on

-- a flow that waits on an act
abbrev pub live : {F : Type 0} → ℕ → ℕ → ℕ → List F → F × Act F → FlowPart F
live f step class below made = now_live (record { flow = f; step = step; class = class; waiting = made.1; stack = record { top = made.0; below = below } })

-- the frame goes on over those below, with the result
abbrev pub onwards : {F : Type 0} → Environment F → ℕ → ℕ → Checkpoint F → F → List F → Resumed → FlowPart F
onwards w me now at frame below with = live at.flow (at.step + 1) at.class below (w.machine.next frame with (place w me at.flow at.step now))

-- the top frame goes on with the result
abbrev pub goes_on : {F : Type 0} → Environment F → ℕ → ℕ → Checkpoint F → Done → Effect F
goes_on w me now at done = record { flow = onwards w me now at at.stack.top at.stack.below done.0; change = done.1 }

-- the last item to each session of a flow
abbrev pub last_items : ℕ → List Session → ℕ → Body → Change
last_items me sessions f body = record nothing { sent = map (λ session. item_on (party me) session body) (sessions_of f sessions) }

-- Sub: the frame begins above the others, of which there are 8 at most
abbrev pub pushes : {F : Type 0} → Environment F → ℕ → ℕ → Checkpoint F → F → Effect F
pushes w me now at frame =
    if nat_lt (length at.stack.below) 7 then record { flow = onwards w me now at frame (at.stack.top ∷ at.stack.below) resumed.Started; change = nothing }
    else goes_on w me now at (resumed.Refused 49, nothing)

-- Return: the frame below goes on with the value; at the bottom the flow has ended, which each of its sessions is told
abbrev pub returns : {F : Type 0} → Environment F → ℕ → NodeState F → ℕ → Checkpoint F → Value → List F → Effect F
returns w me s now at value [] = record { flow = now_ended at.flow (at.step + 1) at.class value; change = last_items me s.sessions at.flow body_of.End }
returns w me s now at value (frame ∷ below) = record { flow = onwards w me now at frame below (resumed.Returned value); change = nothing }

-- Fail: the flow has failed, which each of its sessions is told
abbrev pub fails : {F : Type 0} → ℕ → NodeState F → Checkpoint F → ℕ → Effect F
fails me s at code = record { flow = now_failed at.flow (at.step + 1) at.class code; change = last_items me s.sessions at.flow (body_of.Error code) }

-- the act that a flow waits on is performed, where it is enabled other than by a lapse
abbrev pub performed : {F : Type 0} → Environment F → ℕ → NodeState F → ℕ → Checkpoint F → Act F → Option (Effect F)
performed w me s now at (act.Open to class first) = Some (goes_on w me now at (opens w.nodes me s.sessions at.flow to class first))
performed w me s now at (act.Send key value) = Some (goes_on w me now at (sends me value (owned at.flow key s.sessions)))
performed w me s now at (act.Receive key) = option_map (goes_on w me now at) (receives (owned at.flow key s.sessions))
performed w me s now at (act.ReceiveBy key until) = option_map (goes_on w me now at) (receives (owned at.flow key s.sessions))
performed w me s now at (act.Sleep until) = None
performed w me s now at (act.Sub frame) = Some (pushes w me now at frame)
performed w me s now at (act.Verify tx) = Some (goes_on w me now at (verifies w tx (resolved_of (with_ids s.stored) tx)))
performed w me s now at (act.Reserve token amount) = Some (goes_on w me now at (reserves (reservable token (vault_at me s)) (reserved token amount (vault_at me s))))
performed w me s now at (act.Lookup id) = Some (goes_on w me now at (finds (stored_of (with_ids s.stored) id)))
performed w me s now at (act.Missing tx) = Some (goes_on w me now at (resumed.Ids (missing_ids (with_ids s.stored) tx), nothing))
performed w me s now at (act.Sign id) = Some (goes_on w me now at (signs_id w me id))
performed w me s now at (act.Notarise request) = Some (goes_on w me now at (notarises w me s now request))
performed w me s now at (act.Record stx) = Some (goes_on w me now at (records w s stx))
performed w me s now at (act.Return value) = Some (returns w me s now at value at.stack.below)
performed w me s now at (act.Fail code) = Some (fails me s at code)

-- a flow goes on where its act lapses
abbrev pub lapsed : {F : Type 0} → Environment F → ℕ → ℕ → Checkpoint F → Bool → Option (Effect F)
lapsed w me now at true = Some (goes_on w me now at (resumed.Lapsed, nothing))
lapsed w me now at false = None

-- whether the act that a flow waits on lapses now
abbrev pub lapses : {F : Type 0} → NodeState F → ℕ → ℕ → Act F → Bool
lapses s now f (act.Sleep until) = nat_le until now
lapses s now f (act.ReceiveBy key until) = nat_le until now && waits_for (owned f key s.sessions)
lapses s now f _ = false

-- the checkpoint of a flow that is live
abbrev pub checkpoint_of : {F : Type 0} → FlowState F → Option (Checkpoint F)
checkpoint_of (state.Live at) = Some at
checkpoint_of _ = None

-- the checkpoint of the flow of that number, where it is live
abbrev pub live_at : {F : Type 0} → NodeState F → ℕ → Option (Checkpoint F)
live_at s f = option_and_then checkpoint_of (slice_get s.flows f)

-- ---- what is accepted

-- a new flow is live at step 0
abbrev pub started : {F : Type 0} → ℕ → ℕ → Result (F × Act F) MakeFault → Option (Effect F)
started f class (Ok made) = Some (record { flow = live f 0 class [] made; change = nothing })
started f class (Err fault) = None

-- the effect of an Init that is accepted: the flow that answers it, or none where its class is unknown
abbrev pub answering : {F : Type 0} → Key → ℕ → ℕ → Body → Option (F × Act F) → Effect F
answering key f class init (Some made) = record {
  flow = live f 0 class [] made;
  change = record nothing { came = Some init; sent = record { key = key; direction = 1; seq = 0; body = body_of.Confirm } ∷ [] };
}
answering key f class init None = record {
  flow = no_flow;
  change = record nothing { came = Some init; sent = record { key = key; direction = 1; seq = 0; body = body_of.Reject 5 } ∷ [] };
}

-- an Init is answered
abbrev pub answered_with : {F : Type 0} → Environment F → ℕ → NodeState F → ℕ → Key → Body → Option (Effect F)
answered_with w me s now key (body_of.Init class first) = Some (answering key (length s.flows) class (body_of.Init class first) (w.machine.begun class key (place w me (length s.flows) 0 now)))
answered_with w me s now key _ = None

-- the first item of a new session is answered
abbrev pub answered : {F : Type 0} → Environment F → ℕ → NodeState F → ℕ → Key → Body → Option (Effect F)
answered w me s now key body = if is_new_key w.nodes (party me) s.sessions key then answered_with w me s now key body else None

-- the next item of a session arrives
abbrev pub arrived : {F : Type 0} → ℕ → Key → ℕ → ℕ → Body → Session → Option (Effect F)
arrived me key direction number body session =
    if is_next (party me) key direction number body session
    then Some (record { flow = no_flow; change = record nothing { came = Some body } })
    else None

-- ---- the step

-- the effect that an event has, where it is defined; the body is that of the accepted item
unfoldable pub effect_of : {F : Type 0} → Environment F → ℕ → NodeState F → ℕ → Event → Option Body → Option (Effect F)
effect_of w me s now (event.Start f class args) body = if f == length s.flows then started f class (w.machine.made class args (place w me f 0 now)) else None
effect_of w me s now (event.Answer key) body = option_and_then (answered w me s now key) body
effect_of w me s now (event.Arrive key direction number) body = option_and_then (λ session. option_and_then (λ b. arrived me key direction number b session) body) (session_of key s.sessions)
effect_of w me s now (event.Move f) body = option_and_then (λ at. performed w me s now at at.waiting) (live_at s f)
effect_of w me s now (event.Lapse f) body = option_and_then (λ at. lapsed w me now at (lapses s now at.flow at.waiting)) (live_at s f)

-- the body of an item
abbrev pub body_in : Option Sent → Option Body
body_in item = option_map (λ sent. sent.body) item

-- the stamp of an item, 0 without one
abbrev pub stamp_in : Option Sent → ℕ
stamp_in None = 0
stamp_in (Some sent) = sent.stamp

-- the stamp is the next one after the node's and the item's, and the moment doesn't fall
abbrev pub in_order : {F : Type 0} → NodeState F → Cause → ℕ → Bool
in_order s cause stamp = (cause.stamp == max s.stamp stamp + 1) && (nat_lt cause.stamp (2 ^ 63) && nat_le s.moment cause.moment.0)

-- the state after a cause and its effect, where they are defined; the item is the one that is accepted
unfoldable pub node_step : {F : Type 0} → Environment F → ℕ → NodeState F → Cause → Option Sent → Option (NodeState F × Effect F)
node_step w me s cause item =
    if in_order s cause (stamp_in item)
    then option_map (λ e. (apply_effect s cause e, e)) (effect_of w me s cause.moment.0 cause.event (body_in item))
    else None

-- the cause of an event that accepts this item, or none
abbrev pub next_cause : {F : Type 0} → NodeState F → ℕ → Event → Option Sent → Cause
next_cause s now event item = record { stamp = max s.stamp (stamp_in item) + 1; moment = record { 0 = now }; event = event }
