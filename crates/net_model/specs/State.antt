-- The state of a node, the effect of a cause, and what an effect makes of a state.
use Rattle.std.specs.Prelude.{ℕ, ◌==◌, List, [], ◌∷◌, ◌++◌, Option, Some, None, if◌then◌else◌, map, option_to_list, slice_set, length, unwrap_or}
use Rattle.net_base.specs.declared.values.Hash32.{Hash32}
use Rattle.net_base.specs.declared.values.Party.{Party}
use Rattle.net_base.specs.declared.names.Key.{Key}
use Rattle.net_base.specs.declared.names.StateRef.{StateRef}
use Rattle.net_base.specs.declared.causes.Cause.{Cause}
use Rattle.net_base.specs.declared.causes.Event.{Event}
use Rattle.net_base.specs.declared.causes.Event.TheVariants as event
use Rattle.ledger_types.specs.declared.tx.SignedTx.{SignedTx}
use Rattle.ledger_types.specs.declared.notary.Entry.{Entry}
use Rattle.ledger_types.specs.declared.value.Value.{Value}
use Rattle.ledger_types.specs.Signatures.{tx_id}
use Rattle.ledger_types.specs.Vaults.{Lock, locks_of, released}
use Rattle.session_wire.specs.declared.body.Body.{Body}
use Rattle.session_wire.specs.declared.change.SentItem.{SentItem}
use Rattle.flow_machine.specs.declared.flows.Checkpoint.{Checkpoint}
use Rattle.flow_machine.specs.declared.flows.FlowState.{FlowState}
use Rattle.flow_machine.specs.declared.flows.FlowState.TheVariants as state
use Rattle.session_wire.specs.Sessions.{Session, changed_at, new_session, opened_on, sent_on, taken_on, with_came}
use Rattle.session_wire.specs.declared.change.SessionChange.{SessionChange}

-- ---- the state

-- the state of a node
pub record NodeState (F : Type 0) : Type 0 where
  -- by number
  pub flows : List (FlowState F)
  -- in order of making
  pub sessions : List Session
  -- in order of recording
  pub stored : List SignedTx
  -- the states that flows have soft-locked
  pub locked : List Lock
  -- of the notary's book
  pub entries : List Entry
  -- of the last cause, 0 before the first
  pub stamp : ℕ
  pub moment : ℕ

-- the recorded transactions, each with its id
abbrev pub with_ids : List SignedTx → List (Hash32 × SignedTx)
with_ids stored = map (λ stx. (tx_id stx.tx, stx)) stored

-- ---- effects

-- what becomes of the one flow that a cause changes, by its number: there is none, it is live, it has ended, or it has failed
pub data FlowPart (F : Type 0) : Type 0 where
  no_flow : FlowPart F
  now_live : Checkpoint F → FlowPart F
  now_ended : ℕ → ℕ → ℕ → Value → FlowPart F
  now_failed : ℕ → ℕ → ℕ → ℕ → FlowPart F

-- what a cause changes beside its flow
pub record Change : Type 0 where
  -- the session that is opened, and its peer
  pub opened : Option (Key × Party)
  pub sent : List SentItem
  -- the item that is accepted
  pub came : Option Body
  -- how many items of a session are taken now
  pub taken : Option (Key × ℕ)
  pub recorded : Option SignedTx
  pub locked : List StateRef
  pub booked : Option Entry

-- what a cause changes
pub record Effect (F : Type 0) : Type 0 where
  pub flow : FlowPart F
  pub change : Change

-- nothing changes but the flow
abbrev pub nothing : Change
nothing = record { opened = None; sent = []; came = None; taken = None; recorded = None; locked = []; booked = None }

-- what changes of a node where its sessions change so: nothing is recorded, locked or booked
abbrev pub session_part : SessionChange → Change
session_part change = record { opened = change.opened; sent = change.sent; came = change.came; taken = change.taken; recorded = None; locked = []; booked = None }

-- one record of a journal
pub record Record (F : Type 0) : Type 0 where
  pub cause : Cause
  pub effect : Effect F

-- ---- sessions

-- the sessions once an item was accepted: an Answer makes the session, an Arrive adds to it
abbrev pub came_on : Event → List Body → Option ℕ → List Session → List Session
came_on (event.Answer key) bodies owner sessions = sessions ++ new_session key key.initiator owner bodies ∷ []
came_on (event.Arrive key direction number) bodies owner sessions = changed_at key (with_came bodies) sessions
came_on _ bodies owner sessions = sessions

-- ---- flows and locks

-- the number of the flow that changes
abbrev pub flow_of : {F : Type 0} → FlowPart F → Option ℕ
flow_of no_flow = None
flow_of (now_live checkpoint) = Some checkpoint.flow
flow_of (now_ended flow step class value) = Some flow
flow_of (now_failed flow step class code) = Some flow

-- the flows with one of them set: the flow of the next number is added
abbrev pub placed : {F : Type 0} → List (FlowState F) → ℕ → FlowState F → List (FlowState F)
placed flows f flow = if f == length flows then flows ++ flow ∷ [] else slice_set flows f flow

-- the flows once one has changed
abbrev pub flows_on : {F : Type 0} → FlowPart F → List (FlowState F) → List (FlowState F)
flows_on no_flow flows = flows
flows_on (now_live checkpoint) flows = placed flows checkpoint.flow (state.Live checkpoint)
flows_on (now_ended flow step class value) flows = placed flows flow (state.Ended step class value)
flows_on (now_failed flow step class code) flows = placed flows flow (state.Failed step class code)

-- the locks of a flow that is over are given back
abbrev pub locks_on : {F : Type 0} → FlowPart F → List Lock → List Lock
locks_on no_flow locked = locked
locks_on (now_live checkpoint) locked = locked
locks_on (now_ended flow step class value) locked = released flow locked
locks_on (now_failed flow step class code) locked = released flow locked

-- ---- the whole state

-- the sessions after a cause with its effect: the item is accepted, a session opened, items sent, and items taken, in this order
abbrev pub sessions_on : {F : Type 0} → Cause → Effect F → List Session → List Session
sessions_on cause e sessions = taken_on e.change.taken (sent_on cause.stamp e.change.sent (opened_on e.change.opened (flow_of e.flow) (came_on cause.event (option_to_list e.change.came) (flow_of e.flow) sessions)))

-- what a cause with its effect makes of a state, whether or not the machine gives that effect there
unfoldable pub apply_effect : {F : Type 0} → NodeState F → Cause → Effect F → NodeState F
apply_effect s cause e = record {
  flows = flows_on e.flow s.flows;
  sessions = sessions_on cause e s.sessions;
  stored = s.stored ++ option_to_list e.change.recorded;
  locked = locks_on e.flow (s.locked ++ locks_of (unwrap_or (flow_of e.flow) 0) e.change.locked);
  entries = s.entries ++ option_to_list e.change.booked;
  stamp = cause.stamp;
  moment = cause.moment.0;
}

-- nothing has happened yet
abbrev pub fresh : {F : Type 0} → NodeState F
fresh = record { flows = []; sessions = []; stored = []; locked = []; entries = []; stamp = 0; moment = 0 }

-- the state after records that follow on a state
abbrev pub replay_from : {F : Type 0} → NodeState F → List (Record F) → NodeState F
replay_from s [] = s
replay_from s (r ∷ rs) = replay_from (apply_effect s r.cause r.effect) rs

-- the state of a node with these records
unfoldable pub replay : {F : Type 0} → List (Record F) → NodeState F
replay records = replay_from fresh records
