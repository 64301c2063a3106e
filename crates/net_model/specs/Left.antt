-- What a network may still do: a number that, in a run, falls at each cause but Start, where the weights of frames fall, loads are enough, and frames are over exactly where they return or fail.
use Rattle.std.specs.Prelude.{◌≡◌, ℕ, ◌+◌, ◌≤◌, ◌&&◌, not, List, [], ◌∷◌, Option, Some, None, Bool, true, false, drop, length, slice_get, nat_lt}
use Rattle.std.specs.List.{list_all}
use Rattle.net_base.specs.declared.names.Key.{Key}
use Rattle.net_base.specs.declared.causes.Cause.{Cause}
use Rattle.net_base.specs.declared.causes.Event.{Event}
use Rattle.net_base.specs.declared.causes.Event.TheVariants as event
use Rattle.session_wire.specs.declared.body.Body.{Body}
use Rattle.session_wire.specs.declared.body.Body.TheVariants as body_of
use Rattle.flow_machine.specs.Machine.{Machine}
use Rattle.flow_machine.specs.declared.flows.FlowState.{FlowState}
use Rattle.flow_machine.specs.declared.flows.FlowState.TheVariants as state
use Rattle.flow_machine.specs.Flows.{cost, Falls, LoadHolds, is_fair, OversHold}
use Rattle.session_wire.specs.Sessions.{Session, session_of}
use Rattle.session_wire.specs.Rules.{is_owner}
use Rattle.net_model.specs.Environment.{Environment}
use Rattle.net_model.specs.State.{NodeState, Effect}
use Rattle.net_model.specs.Runs.{net_step, run_of}
use Rattle.net_model.specs.Fits.{IsSound}

-- whether the frames of a flow that are over are those that wait on Return or Fail
abbrev pub flow_is_fair : {F : Type 0} → Machine F → FlowState F → Bool
flow_is_fair m (state.Live at) = is_fair m at.stack.top at.waiting && list_all (λ frame. not (m.over frame)) at.stack.below
flow_is_fair m _ = true

-- ---- the number

-- the sum over a list
abbrev pub total : {X : Type 0} → (X → ℕ) → List X → ℕ
total f [] = 0
total f (x ∷ xs) = f x + total f xs

-- 1 where it is so
abbrev pub one_of : Bool → ℕ
one_of true = 1
one_of false = 0

-- how many sessions a flow owns
abbrev pub owns : List Session → ℕ → ℕ
owns sessions f = total (λ session. one_of (is_owner f session.owner)) sessions

-- what a flow may still do: the weights of its frames, the cost of its act, and 1 for each session that it owns
abbrev pub flow_left : {F : Type 0} → Machine F → List Session → FlowState F → ℕ
flow_left m sessions (state.Live at) = m.weight at.stack.top + total m.weight at.stack.below + cost m at.waiting + owns sessions at.flow
flow_left m sessions _ = 0

-- what an item that has not arrived may still cause
abbrev pub item_left : {F : Type 0} → Machine F → Body → ℕ
item_left m (body_of.Init class first) = m.load class + 3
item_left m _ = 1

-- how many items have come in a session
abbrev pub came_in : Option Session → ℕ
came_in None = 0
came_in (Some session) = length session.came

-- how many items of the key have arrived at a node
abbrev pub arrived_at : {F : Type 0} → Option (NodeState F) → Key → ℕ
arrived_at None key = 0
arrived_at (Some s) key = came_in (session_of key s.sessions)

-- what is sent and hasn't arrived
abbrev pub session_left : {F : Type 0} → Environment F → List (NodeState F) → Session → ℕ
session_left w net session = total (λ sent. item_left w.machine sent.body) (drop (arrived_at (slice_get net session.peer.0) session.key) session.sent)

-- what a node may still do and cause
abbrev pub node_left : {F : Type 0} → Environment F → List (NodeState F) → NodeState F → ℕ
node_left w net s = total (flow_left w.machine s.sessions) s.flows + total (session_left w net) s.sessions

-- what a network may still do
abbrev pub left : {F : Type 0} → Environment F → List (NodeState F) → ℕ
left w net = total (node_left w net) net

-- whether an event is a Start
abbrev pub is_start : Event → Bool
is_start (event.Start flow class args) = true
is_start _ = false

-- whether an owner, if there is one, is below a number
abbrev pub owner_below : ℕ → Option ℕ → Bool
owner_below n None = true
owner_below n (Some f) = nat_lt f n

-- what a run keeps at each node
pub record IsFair {F : Type 0} (m : Machine F) (s : NodeState F) : Type 0 where
  pub flows : list_all (flow_is_fair m) s.flows ≡ true
  -- each owner is a flow
  pub owners : list_all (λ session. owner_below (length s.flows) session.owner) s.sessions ≡ true

-- what a run keeps
abbrev pub AreFair : {F : Type 0} → Environment F → List (NodeState F) → Type 0
AreFair {F} w net = (q : ℕ) (s : NodeState F) → slice_get net q ≡ Some s → IsSound q s × IsFair w.machine s

-- ---- laws

-- in a run what is left falls at each cause but Start, where the weights of frames fall, loads are enough, and frames are over where they return or fail
abbrev pub LeftFalls : (F : Type 0) → Type 0
LeftFalls F = (w : Environment F) (causes : List (ℕ × Cause)) (net next : List (NodeState F)) (p : ℕ) (cause : Cause) (e : Effect F)
    → Falls w.machine → LoadHolds w.machine → OversHold w.machine → run_of w causes ≡ Some net → net_step w net p cause ≡ Some (next, e)
    → is_start cause.event ≡ false → left w next + 1 ≤ left w net
