-- What contracts see of a node's tables, and what their calls answer.
use Rattle.std.specs.Prelude.{◌≡◌, ℕ, ◌*◌, ◌<◌, ◌≤◌, ◌^◌, true, false, List, [], ◌∷◌, ◌++◌, length, map, Option, Some, None, IfSome, Result, Ok, Err, ⊤}
use Rattle.std.specs.List.{AllByRecursion}
use Rattle.net_base.specs.declared.values.Party.{Party}
use Rattle.net_base.specs.declared.causes.Cause.{Cause}
use Rattle.net_base.specs.Names.{IsKey}
use Rattle.session_wire.specs.Sessions.{Session}
use Rattle.session_wire.specs.Rules.{is_opened_by, sessions_of, IsHeld}
use Rattle.session_frames.specs.Lawful.{AreLawful}
use Rattle.flow_machine.specs.declared.flows.FlowState.{FlowState}
use Rattle.checkpoints.specs.Tables.{with_flow}
use Rattle.net_model.specs.State.{NodeState}
use Rattle.net_model.specs.Fits.{IsSound}
use Rattle.net_model.specs.Sound.{AreNumbered, steps_of}
use Rattle.ledger_types.specs.declared.change.LedgerChange.{LedgerChange}
use Rattle.node_ledger.specs.Ledgered.{LedgerState}
use Rattle.flow_records.specs.declared.step.FlowAfter.{FlowAfter}
use Rattle.flow_records.specs.declared.step.Step.{Step}
use Rattle.flow_records.specs.Records.{record_of, IsFlow}
use Rattle.flow_records.specs.Steps.{step_record, IsStep}
use Rattle.node_tables.specs.declared.boot.RebuildFault.{RebuildFault}
use Rattle.node_tables.specs.declared.boot.RebuildFault.TheVariants as rebuild_fault
use Rattle.node_tables.specs.Journals.{Reads, state_of, causes_of, state_with}
use Rattle.node_tables.specs.Fits.{fits, fits_read, misfit}

-- the flows once one of them is this afterwards
abbrev pub flows_after : {F : Type 0} → Option (FlowAfter F) → List (FlowState F) → List (FlowState F)
flows_after None flows = flows
flows_after (Some after) flows = with_flow after.number after.state flows

-- a session of the party has at most this number of sent and of arrived items, and the first of them arrived where another party opened it
pub record IsSmall (me : Party) (sent came : ℕ) (session : Session) : Type 0 where
  pub few_sent : length session.sent ≤ sent
  pub few_came : length session.came ≤ came
  pub begun : is_opened_by me session.key ≡ false → 0 < length session.came

-- each session's key is one, this number of flows own the sessions that are owned, and none of them owns more than 64
pub record AreOwned (flows : ℕ) (sessions : List Session) : Type 0 where
  pub keys : AllByRecursion (λ session. IsKey session.key) sessions
  pub owners : AllByRecursion (λ session. IfSome session.owner (λ f. f < flows)) sessions
  pub few : (f : ℕ) → length (sessions_of f sessions) ≤ 64

-- the acknowledged numbers over these sessions: those of sessions that were not there before are 0
abbrev pub padded : List ℕ → List Session → List ℕ
padded acked [] = []
padded [] (s ∷ ss) = 0 ∷ padded [] ss
padded (n ∷ ns) (s ∷ ss) = n ∷ padded ns ss

-- the acknowledged numbers over these sessions where nothing is acknowledged
abbrev pub no_acks : List Session → List ℕ
no_acks sessions = padded [] sessions

-- what the tables of a node of the party keep: they are those of its bodies
pub record Keeps {F : Type 0} (me : Party) (frame_at : Reads F) (is_frame : F → Type 0) (bodies : List (List ℕ)) (causes : List Cause) (l : LedgerState) (flows : List (FlowState F)) (sessions : List Session) (stamp moment : ℕ) : Type 0 where
  pub state : state_of frame_at bodies ≡ state_with l flows sessions stamp moment
  pub recorded : length l.stored ≤ length bodies
  pub told : causes ≡ causes_of frame_at bodies
  pub few : length bodies ≤ 65536
  pub held : length flows ≤ length bodies
  pub steps : AllByRecursion (λ flow. steps_of flow ≤ length bodies) flows
  pub limits : AllByRecursion (IsFlow is_frame) flows
  pub numbered : AreNumbered 0 flows
  pub late : stamp < 2 ^ 63
  pub made : length sessions ≤ 2 * length bodies
  pub small : AllByRecursion (IsSmall me (255 * length bodies) (length bodies)) sessions
  pub sound : IsSound me.0 (state_with l flows sessions stamp moment)
  pub lawful : AreLawful me sessions
  pub owned : AreOwned (length flows) sessions
  pub arrived : AllByRecursion IsHeld sessions

-- for how many more transactions, states and entries a ledger has room
pub record Rooms : Type 0 where
  pub store : ℕ
  pub vault : ℕ
  pub book : ℕ

-- the tables as contracts see them
pub record TablesSeen : Type 0 where
  -- the node's party, and how many nodes its network has
  pub party : Party
  pub nodes : ℕ
  -- the network's notary
  pub notary : Party
  -- the bodies of the records, of which all else is made but what is acknowledged
  pub bodies : List (List ℕ)
  -- how many of the items that the node sent are acknowledged, session by session
  pub acked : List ℕ
  -- for how many more sessions and items one more record has room
  pub room : ℕ
  -- the same for what one more record changes of the ledger
  pub rooms : Rooms

-- room for what a change makes of a ledger
abbrev pub HasRooms : LedgerChange → Rooms → Type 0
HasRooms change rooms = IfSome change.recorded (λ stx. (0 < rooms.store) × (length stx.tx.outputs ≤ rooms.vault)) × IfSome change.booked (λ _. 0 < rooms.book)

-- what a body is read as after a state: a record that fits, or none
abbrev pub IsRead : {F : Type 0} → Party → ℕ → Party → Reads F → (F → Type 0) → NodeState F → List ℕ → Option (Step F) → Type 0
IsRead notary nodes me frame_at within s body None = fits_read notary nodes me s (record_of frame_at body) ≡ false
IsRead notary nodes me frame_at within s body (Some step) = (record_of frame_at body ≡ Some (step_record step)) × (fits notary nodes me s (step_record step) ≡ true) × IsStep within step

-- what the taking of a body answers, whose gate is at a place
abbrev pub TakesAs : {F : Type 0} → Reads F → Party → ℕ → Party → List (List ℕ) → ℕ → List ℕ → {T : Type 0} → Result T RebuildFault → List (List ℕ) → Type 0
TakesAs frame_at notary nodes me old at body (Ok _) new = (fits_read notary nodes me (state_of frame_at old) (record_of frame_at body) ≡ true) × (new ≡ old ++ body ∷ [])
TakesAs frame_at notary nodes me old at body (Err (rebuild_fault.Damaged place)) new = (fits_read notary nodes me (state_of frame_at old) (record_of frame_at body) ≡ false) × (place ≡ at)
TakesAs frame_at notary nodes me old at body (Err rebuild_fault.Memory) new = ⊤

-- what a rebuilding of the tables answers
abbrev pub RebuildsAs : {F : Type 0} → Reads F → Party → ℕ → Party → List (ℕ × List ℕ) → Result TablesSeen RebuildFault → Type 0
RebuildsAs frame_at notary nodes me list (Ok tables) = (tables.bodies ≡ map (λ x. x.1) list) × (tables.party ≡ me) × (tables.nodes ≡ nodes) × (tables.notary ≡ notary) × (misfit frame_at notary nodes me list ≡ None) × (tables.acked ≡ no_acks (state_of frame_at tables.bodies).sessions)
RebuildsAs frame_at notary nodes me list (Err (rebuild_fault.Damaged at)) = misfit frame_at notary nodes me list ≡ Some at
RebuildsAs frame_at notary nodes me list (Err rebuild_fault.Memory) = ⊤
