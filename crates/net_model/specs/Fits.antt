-- Which record fits after a state: the rules that a journal keeps, whether or not it is a run's.
use Rattle.std.specs.Prelude.{◌≡◌, ℕ, ◌+◌, ◌<◌, ◌≤◌, ◌^◌, ◌==◌, ◌&&◌, ◌||◌, nat_lt, not, List, [], ◌∷◌, ◌++◌, Option, Some, None, Bool, true, false, ⊤, find, option_to_list, length}
use Rattle.std.specs.List.{list_all, list_any}
use Rattle.net_base.specs.declared.names.Key.{Key}
use Rattle.net_base.specs.declared.values.Party.{Party}
use Rattle.net_base.specs.declared.causes.Cause.{Cause}
use Rattle.net_base.specs.declared.causes.Event.{Event}
use Rattle.net_base.specs.declared.causes.Event.TheVariants as event
use Rattle.ledger_types.specs.declared.tx.SignedTx.{SignedTx}
use Rattle.ledger_types.specs.declared.notary.Entry.{Entry}
use Rattle.session_wire.specs.declared.body.Body.{Body}
use Rattle.session_wire.specs.declared.body.Body.TheVariants as body_of
use Rattle.session_wire.specs.declared.change.SentItem.{SentItem}
use Rattle.flow_machine.specs.declared.flows.Checkpoint.{Checkpoint}
use Rattle.session_wire.specs.Sessions.{Sent, Session, key_eq, opened_on, session_of}
use Rattle.session_wire.specs.Rules.{direction_in, next_key, is_new_key, is_lawful, sessions_of, OpensNext, FitsSent, FitsTaken}
use Rattle.ledger_types.specs.Names.{ref_eq, has_repeat}
use Rattle.net_model.specs.Environment.{Environment, party, identity}
use Rattle.ledger_types.specs.Stores.{is_stored, may_record, untagged}
use Rattle.ledger_types.specs.Signatures.{tx_id}
use Rattle.ledger_types.specs.Vaults.{vault_of, has_coin}
use Rattle.ledger_types.specs.Notary.{repeats, is_notary}
use Rattle.net_model.specs.State.{NodeState, FlowPart, no_flow, now_live, now_ended, now_failed, Change, Effect, nothing, with_ids, came_on, flow_of, apply_effect, fresh}
use Rattle.net_model.specs.Steps.{live_at, node_step}

-- the flow is a new one of the number and class, at step 0
abbrev pub IsNewFlow : {F : Type 0} → ℕ → ℕ → FlowPart F → Type 0
IsNewFlow f class (now_live at) = (at.flow ≡ f) × (at.step ≡ 0) × (at.class ≡ class)
IsNewFlow f class _ = ⊥

-- the flow is the one of the number and class at the next step
abbrev pub IsNextOf : {F : Type 0} → ℕ → ℕ → ℕ → FlowPart F → Type 0
IsNextOf f step class no_flow = ⊥
IsNextOf f step class (now_live at) = (at.flow ≡ f) × (at.step ≡ step + 1) × (at.class ≡ class)
IsNextOf f step class (now_ended flow now of value) = (flow ≡ f) × (now ≡ step + 1) × (of ≡ class)
IsNextOf f step class (now_failed flow now of code) = (flow ≡ f) × (now ≡ step + 1) × (of ≡ class)

-- the first sent item answers the Init: with Confirm there is a flow, with Reject none
abbrev pub AnswersBy : {F : Type 0} → ℕ → ℕ → FlowPart F → Body → Type 0
AnswersBy f class flow body_of.Confirm = IsNewFlow f class flow
AnswersBy f class flow (body_of.Reject code) = flow ≡ no_flow
AnswersBy f class flow _ = ⊥

-- the first sent item is the first answer of the key
abbrev pub AnswersFirst : {F : Type 0} → ℕ → Key → ℕ → FlowPart F → List SentItem → Type 0
AnswersFirst f key class flow [] = ⊥
AnswersFirst f key class flow (item ∷ items) = (item.key ≡ key) × (item.direction ≡ 1) × (item.seq ≡ 0) × AnswersBy f class flow item.body

-- the accepted item is an Init, and is answered
abbrev pub AcceptsInit : {F : Type 0} → ℕ → Key → Effect F → Option Body → Type 0
AcceptsInit f key e None = ⊥
AcceptsInit f key e (Some (body_of.Init class first)) = AnswersFirst f key class e.flow e.change.sent
AcceptsInit f key e (Some _) = ⊥

-- the item arrives in turn and is lawful, and nothing else happens
pub record ArrivesAt {F : Type 0} (me : ℕ) (s : NodeState F) (key : Key) (direction number : ℕ) (e : Effect F) : Type 0 where
  pub session : Session
  pub stands : session_of key s.sessions ≡ Some session
  pub incoming : direction ≡ direction_in (party me) key
  pub expected : number ≡ length session.came
  pub body : Body
  pub lawful : is_lawful direction number body ≡ true
  pub alone : e ≡ record { flow = no_flow; change = record nothing { came = Some body } }

-- the flow is live and goes on by one step, and no item is accepted
pub record GoesOn {F : Type 0} (s : NodeState F) (f : ℕ) (e : Effect F) : Type 0 where
  pub at : Checkpoint F
  pub live : live_at s f ≡ Some at
  pub next : IsNextOf f at.step at.class e.flow
  pub alone : e.change.came ≡ None

-- the effect is one that such an event may have
abbrev pub FitsEvent : {F : Type 0} → Environment F → ℕ → NodeState F → Event → Effect F → Type 0
FitsEvent w me s (event.Start f class args) e = (f ≡ length s.flows) × IsNewFlow f class e.flow × (e.change.came ≡ None)
FitsEvent w me s (event.Answer key) e = (is_new_key w.nodes (party me) s.sessions key ≡ true) × AcceptsInit (length s.flows) key e e.change.came
FitsEvent w me s (event.Arrive key direction number) e = ArrivesAt me s key direction number e
FitsEvent w me s (event.Move f) e = GoesOn s f e
FitsEvent w me s (event.Lapse f) e = GoesOn s f e

-- the flow opens the node's next session, with another node of the network, and owns 64 at most with it
pub record OpensOwned {F : Type 0} (w : Environment F) (me : ℕ) (s : NodeState F) (sessions : List Session) (owner : Option ℕ) (sent : List SentItem) (key : Key) (peer : Party) : Type 0 where
  pub flow : ℕ
  pub owned : owner ≡ Some flow
  pub opens : OpensNext (party me) s.sessions sent key peer
  pub there : nat_lt peer.0 w.nodes ≡ true
  pub few : length (sessions_of flow sessions) ≤ 64

-- the opened session, if there is one, is the next one
abbrev pub FitsOpened : {F : Type 0} → Environment F → ℕ → NodeState F → List Session → Option ℕ → List SentItem → Option (Key × Party) → Type 0
FitsOpened w me s sessions owner sent None = ⊤
FitsOpened w me s sessions owner sent (Some opened) = OpensOwned w me s sessions owner sent opened.0 opened.1

-- the added entry is the notary's, and repeats none
abbrev pub FitsBooked : {F : Type 0} → Environment F → ℕ → List Entry → Option Entry → Type 0
FitsBooked w me book None = ⊤
FitsBooked w me book (Some e) = (is_notary (identity w me) ≡ true) × (find (repeats e.request) book ≡ None)

-- the change of a flow fits; before are the sessions once an item was accepted
pub record FitsChange {F : Type 0} (w : Environment F) (me : ℕ) (s : NodeState F) (stamp : ℕ) (before : List Session) (owner : Option ℕ) (change : Change) : Type 0 where
  pub opened : FitsOpened w me s (opened_on change.opened owner before) owner change.sent change.opened
  pub sent : FitsSent (party me) stamp (opened_on change.opened owner before) change.sent
  -- the session stands before the record
  pub taken : FitsTaken s.sessions change.taken
  pub recorded : may_record (with_ids s.stored) change.recorded ≡ true
  pub locked : list_all (has_coin (vault_of (party me) (untagged (with_ids (s.stored ++ option_to_list change.recorded))) s.locked)) change.locked ≡ true
  pub once : has_repeat ref_eq change.locked ≡ false
  pub booked : FitsBooked w me s.entries change.booked

-- the record of this cause and effect fits after the state
pub record Fits {F : Type 0} (w : Environment F) (me : ℕ) (s : NodeState F) (cause : Cause) (e : Effect F) : Type 0 where
  pub later : s.stamp < cause.stamp
  pub bounded : cause.stamp < 2 ^ 63
  pub moment : s.moment ≤ cause.moment.0
  pub event : FitsEvent w me s cause.event e
  pub change : FitsChange w me s cause.stamp (came_on cause.event (option_to_list e.change.came) (flow_of e.flow) s.sessions) (flow_of e.flow) e.change

-- ---- what records that fit make

-- whether no two sessions have one key
abbrev pub keys_differ : List Session → Bool
keys_differ [] = true
keys_differ (session ∷ sessions) = not (list_any (λ other. key_eq session.key other.key) sessions) && keys_differ sessions

-- whether no two transactions have one id
abbrev pub ids_differ : List SignedTx → Bool
ids_differ [] = true
ids_differ (stx ∷ stored) = not (is_stored (with_ids stored) (tx_id stx.tx)) && ids_differ stored

-- whether a session, if the node opened it, has a number below the next one
abbrev pub is_counted : ℕ → ℕ → Session → Bool
is_counted me next session = not (session.key.initiator.0 == me) || nat_lt session.key.number next

-- the state is one that records which fit have made
pub record IsSound {F : Type 0} (me : ℕ) (s : NodeState F) : Type 0 where
  -- a live flow has its own number
  pub numbered : (f : ℕ) (at : Checkpoint F) → live_at s f ≡ Some at → at.flow ≡ f
  -- each session has sent its first item
  pub begun : list_all (λ session. not (length session.sent == 0)) s.sessions ≡ true
  pub counted : list_all (is_counted me (next_key (party me) s.sessions).number) s.sessions ≡ true
  pub keys : keys_differ s.sessions ≡ true
  pub ids : ids_differ s.stored ≡ true

-- ---- laws

-- a step of a sound state gives a record that fits
abbrev pub StepsFit : (F : Type 0) → Type 0
StepsFit F = (w : Environment F) (p : ℕ) (s next : NodeState F) (cause : Cause) (item : Option Sent) (e : Effect F) → IsSound p s → node_step w p s cause item ≡ Some (next, e) → Fits w p s cause e

-- a record that fits keeps a state sound
abbrev pub FitsKeepSound : (F : Type 0) → Type 0
FitsKeepSound F = (w : Environment F) (p : ℕ) (s : NodeState F) (cause : Cause) (e : Effect F) → IsSound p s → Fits w p s cause e → IsSound p (apply_effect s cause e)

-- the state in which nothing has happened is sound
abbrev pub FreshIsSound : (F : Type 0) → Type 0
FreshIsSound F = (p : ℕ) → IsSound p (fresh {F = F})
