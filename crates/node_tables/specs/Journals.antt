-- A node's journal, as the bodies of its records, and the state that they make.
use Rattle.std.specs.Prelude.{ℕ, List, [], ◌∷◌, ◌++◌, map, option_to_list, Result}
use Rattle.net_base.specs.declared.causes.Cause.{Cause}
use Rattle.session_wire.specs.Sessions.{Session}
use Rattle.flow_machine.specs.declared.flows.FlowState.{FlowState}
use Rattle.net_model.specs.State.{NodeState, Record, replay}
use Rattle.flow_records.specs.Records.{record_of}
use Rattle.node_ledger.specs.Ledgered.{LedgerState}

-- how a frame is read from the front of bytes
abbrev pub Reads : Type 0 → Type 0
Reads F = List ℕ → Result (F × List ℕ) ℕ

-- the records whose bodies these are; a body that is no record's is passed over
abbrev pub records_of : {F : Type 0} → Reads F → List (List ℕ) → List (Record F)
records_of frame_at [] = []
records_of frame_at (body ∷ bodies) = option_to_list (record_of frame_at body) ++ records_of frame_at bodies

-- the state of a node with this journal
unfoldable pub state_of : {F : Type 0} → Reads F → List (List ℕ) → NodeState F
state_of frame_at bodies = replay (records_of frame_at bodies)

-- the causes of a journal
unfoldable pub causes_of : {F : Type 0} → Reads F → List (List ℕ) → List Cause
causes_of frame_at bodies = map (λ r. r.cause) (records_of frame_at bodies)

-- the state of a node that has this ledger, these flows and sessions
abbrev pub state_with : {F : Type 0} → LedgerState → List (FlowState F) → List Session → ℕ → ℕ → NodeState F
state_with l flows sessions stamp moment = record { flows = flows; sessions = sessions; stored = l.stored; locked = l.locked; entries = l.entries; stamp = stamp; moment = moment }

-- a list as contracts see it, with the room for more
pub record Listed (T : Type 0) : Type 0 where
  pub items : List T
  pub room : ℕ
