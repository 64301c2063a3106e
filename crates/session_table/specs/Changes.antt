-- Which changes of a node's sessions a transition may make, and what they make of the sessions.
use Rattle.std.specs.Prelude.{◌≡◌, ℕ, ◌+◌, ◌&&◌, List, [], ◌∷◌, ◌++◌, Option, Some, None, Bool, true, false, ⊤, if◌then◌else◌, filter, length}
use Rattle.std.specs.Option.{option_map_or}
use Rattle.net_base.specs.declared.names.Key.{Key}
use Rattle.net_base.specs.declared.values.Party.{Party}
use Rattle.session_wire.specs.Sessions.{Session, key_eq, session_of, changed_at, new_session, with_came, opened_on, sent_on, taken_on, is_confirm}
use Rattle.session_wire.specs.Rules.{is_opened_by, direction_in, is_init, is_lawful, OpensNext, FitsSent, FitsTaken}
use Rattle.session_wire.specs.declared.body.Body.{Body}
use Rattle.session_wire.specs.declared.change.SentItem.{SentItem}
use Rattle.session_wire.specs.declared.change.SessionChange.{SessionChange}

-- ---- the item that is accepted

-- the first of the items that are sent answers the session's Init: it is Confirm or Reject
abbrev pub AnswersFirst : Key → List SentItem → Type 0
AnswersFirst key [] = ⊥
AnswersFirst key (item ∷ items) = (item.key ≡ key) × (item.direction ≡ 1) × (item.seq ≡ 0) × (is_lawful 1 0 item.body ≡ true)

-- an Init is accepted: its session is new, another party opened it, and it is answered
pub record AcceptsInit (me : Party) (sessions : List Session) (change : SessionChange) (key : Key) : Type 0 where
  pub is_new : session_of key sessions ≡ None
  pub other : is_opened_by me key ≡ false
  pub answered : AnswersFirst key change.sent

-- any other item is accepted: its session stands, the item is lawful as the next one there, and nothing else happens
pub record AcceptsNext (me : Party) (sessions : List Session) (change : SessionChange) (key : Key) (body : Body) : Type 0 where
  pub session : Session
  pub stands : session_of key sessions ≡ Some session
  pub lawful : is_lawful (direction_in me key) (length session.came) body ≡ true
  pub opens_none : change.opened ≡ None
  pub sends_none : change.sent ≡ []
  pub takes_none : change.taken ≡ None

-- the item of a session fits there
pub record AcceptsItem (me : Party) (sessions : List Session) (change : SessionChange) (key : Key) (body : Body) : Type 0 where
  pub begins : is_init body ≡ true → AcceptsInit me sessions change key
  pub goes_on : is_init body ≡ false → AcceptsNext me sessions change key body

-- the item that is accepted fits, if there is one; its session is named exactly then
abbrev pub FitsCame : Party → List Session → SessionChange → Option Key → Option Body → Type 0
FitsCame me sessions change None None = ⊤
FitsCame me sessions change None (Some body) = ⊥
FitsCame me sessions change (Some key) None = ⊥
FitsCame me sessions change (Some key) (Some body) = AcceptsItem me sessions change key body

-- the flow that owns an answered session: with Confirm the one that is named, with Reject none
abbrev pub answered_for : ℕ → List SentItem → Option ℕ
answered_for owner [] = None
answered_for owner (item ∷ items) = if is_confirm item.body then Some owner else None

-- the sessions once an item was accepted: an Init makes its session, any other item joins those that came
abbrev pub came_on : Option Key → Option Body → Option ℕ → List Session → List Session
came_on (Some key) (Some body) owner sessions = if is_init body then sessions ++ new_session key key.initiator owner (body ∷ []) ∷ [] else changed_at key (with_came (body ∷ [])) sessions
came_on None (Some body) owner sessions = sessions
came_on (Some key) None owner sessions = sessions
came_on None None owner sessions = sessions

-- ---- the session that is opened

-- the session that is opened fits, if there is one
abbrev pub FitsOpened : Party → List Session → List SentItem → Option (Key × Party) → Type 0
FitsOpened me sessions sent None = ⊤
FitsOpened me sessions sent (Some opened) = OpensNext me sessions sent opened.0 opened.1

-- the sessions once an item was accepted and a session opened
abbrev pub begun_on : SessionChange → List Session → List Session
begun_on change sessions = opened_on change.opened (Some change.owner) (came_on change.came_key change.came (answered_for change.owner change.sent) sessions)

-- ---- the whole change

-- the change is one that a transition of the stamp may make of these sessions of the party
pub record IsFitting (me : Party) (stamp : ℕ) (sessions : List Session) (change : SessionChange) : Type 0 where
  pub came : FitsCame me sessions change change.came_key change.came
  pub opened : FitsOpened me sessions change.sent change.opened
  pub sent : FitsSent me stamp (begun_on change sessions) change.sent
  -- the session stands before the change
  pub taken : FitsTaken sessions change.taken

-- the sessions after a change: the item is accepted, the session opened, items are sent, and one is taken
abbrev pub changed_by : ℕ → SessionChange → List Session → List Session
changed_by stamp change sessions = taken_on change.taken (sent_on stamp change.sent (begun_on change sessions))

-- the acknowledged number of the session that an accepted Init makes: nothing was acknowledged
abbrev pub acks_of_came : Option Key → Option Body → List ℕ
acks_of_came (Some key) (Some body) = if is_init body then 0 ∷ [] else []
acks_of_came None (Some body) = []
acks_of_came (Some key) None = []
acks_of_came None None = []

-- that of the session that is opened
abbrev pub acks_of_opened : Option (Key × Party) → List ℕ
acks_of_opened None = []
acks_of_opened (Some opened) = 0 ∷ []

-- the acknowledged numbers after a change: those of the sessions that it makes are 0
abbrev pub acks_after : SessionChange → List ℕ → List ℕ
acks_after change acked = (acked ++ acks_of_came change.came_key change.came) ++ acks_of_opened change.opened

-- how many items arrived in the session of the accepted item
abbrev pub arrived_in : Option Key → List Session → ℕ
arrived_in None sessions = 0
arrived_in (Some key) sessions = option_map_or (λ s. length s.came) (session_of key sessions) 0

-- whether an Init that is accepted makes the session of this key
abbrev pub is_answered : Key → Option Key → Option Body → Bool
is_answered key (Some other) (Some body) = key_eq key other && is_init body
is_answered key None (Some body) = false
is_answered key (Some other) None = false
is_answered key None None = false

-- whether the session of this key is the one that is opened
abbrev pub is_opened : Key → Option (Key × Party) → Bool
is_opened key None = false
is_opened key (Some opened) = key_eq key opened.0

-- how many items of a session were taken, and how many arrived
abbrev pub taken_and_came : Session → ℕ × ℕ
taken_and_came s = (s.taken, length s.came)

-- how many of the items are of the session of this key
abbrev pub count_of : Key → List SentItem → ℕ
count_of key items = length (filter (λ item. key_eq key item.key) items)

-- how much room a change may take: two sessions are made and one item is accepted at most
abbrev pub room_for : SessionChange → ℕ
room_for change = length change.sent + 3
