-- What a node may do in its sessions: what it opens, sends, accepts and takes next.
use Rattle.std.specs.Prelude.{◌≡◌, ℕ, ◌≤◌, ◌==◌, ◌&&◌, ◌||◌, nat_le, not, List, [], ◌∷◌, Option, Some, None, Bool, true, false, ⊤, if◌then◌else◌, filter, length, is_none, IfSome}
use Rattle.std.specs.List.{list_any, AllByRecursion}
use Rattle.net_base.specs.declared.names.Key.{Key}
use Rattle.net_base.specs.declared.values.Party.{Party}
use Rattle.session_wire.specs.declared.body.Body.{Body}
use Rattle.session_wire.specs.declared.body.Body.TheVariants as body_of
use Rattle.session_wire.specs.declared.change.SentItem.{SentItem}
use Rattle.session_wire.specs.Bodies.{IsBody}
use Rattle.session_wire.specs.Sessions.{Session, key_eq, session_of, changed_at, with_sent, next_item}

-- ---- keys and directions

-- whether a party opened the session of this key
abbrev pub is_opened_by : Party → Key → Bool
is_opened_by me key = key.initiator.0 == me.0

-- how many of these sessions the party opened
abbrev pub opened_by : Party → List Session → ℕ
opened_by me sessions = length (filter (λ s. is_opened_by me s.key) sessions)

-- the next session that the party opens
abbrev pub next_key : Party → List Session → Key
next_key me sessions = record { initiator = me; number = opened_by me sessions }

-- the direction of what a party sends in a session: 0 where it opened the session, else 1
abbrev pub direction_out : Party → Key → ℕ
direction_out me key = if is_opened_by me key then 0 else 1

-- the direction of what arrives there
abbrev pub direction_in : Party → Key → ℕ
direction_in me key = if is_opened_by me key then 1 else 0

-- whether a party is no other node of a network of this number of nodes
abbrev pub is_no_peer : ℕ → Party → Party → Bool
is_no_peer nodes me to = (to.0 == me.0) || nat_le nodes to.0

-- ---- flows and their sessions

-- whether the owner, if there is one, is the flow
abbrev pub is_owner : ℕ → Option ℕ → Bool
is_owner f None = false
is_owner f (Some owner) = f == owner

-- the sessions that a flow owns, in order of making
abbrev pub sessions_of : ℕ → List Session → List Session
sessions_of f sessions = filter (λ s. is_owner f s.owner) sessions

-- a session, where the flow owns it
abbrev pub owned_by : ℕ → Option Session → Option Session
owned_by f None = None
owned_by f (Some session) = if is_owner f session.owner then Some session else None

-- the session of the key, where the flow owns it
abbrev pub owned : ℕ → Key → List Session → Option Session
owned f key sessions = owned_by f (session_of key sessions)

-- whether a flow has as many sessions as it may have
abbrev pub has_many : ℕ → List Session → Bool
has_many f sessions = nat_le 64 (length (sessions_of f sessions))

-- whether a session is there, and no item of it is
abbrev pub waits_for : Option Session → Bool
waits_for None = false
waits_for (Some session) = is_none (next_item session session.ending)

-- ---- items

-- whether an item asks the other side to begin a flow
abbrev pub is_init : Body → Bool
is_init (body_of.Init class first) = true
is_init _ = false

-- whether an item may stand at that number of that direction: Init at the first of all, Confirm or Reject at the first of the answers, all else behind them
abbrev pub is_lawful : ℕ → ℕ → Body → Bool
is_lawful direction number (body_of.Init class first) = (direction == 0) && (number == 0)
is_lawful direction number body_of.Confirm = (direction == 1) && (number == 0)
is_lawful direction number (body_of.Reject code) = (direction == 1) && (number == 0)
is_lawful direction number (body_of.Data value) = not (number == 0)
is_lawful direction number (body_of.Error code) = not (number == 0)
is_lawful direction number body_of.End = not (number == 0)

-- the next item that a party sends in a session
abbrev pub item_on : Party → Session → Body → SentItem
item_on me session body = record { key = session.key; direction = direction_out me session.key; seq = length session.sent; body = body }

-- whether an item is the next one that comes, lawful there, and no Init
abbrev pub is_next : Party → Key → ℕ → ℕ → Body → Session → Bool
is_next me key direction number body session = (direction == direction_in me key) && ((number == length session.came) && (is_lawful direction number body && not (is_init body)))

-- whether a key is new here, and its initiator is another node of a network of this number of nodes
abbrev pub is_new_key : ℕ → Party → List Session → Key → Bool
is_new_key nodes me sessions key = is_none (session_of key sessions) && not (is_no_peer nodes me key.initiator)

-- ---- what a record may say of them

-- whether an item is the Init of the session
abbrev pub is_init_of : Key → SentItem → Bool
is_init_of key item = key_eq key item.key && ((item.direction == 0) && ((item.seq == 0) && is_init item.body))

-- the session is the party's next one, with another party, and its Init is sent
pub record OpensNext (me : Party) (sessions : List Session) (sent : List SentItem) (key : Key) (peer : Party) : Type 0 where
  pub next : key ≡ next_key me sessions
  pub other : (peer.0 == me.0) ≡ false
  pub init : list_any (is_init_of key) sent ≡ true

-- the item is the next one that the party sends in its session, and lawful there
pub record Continues (me : Party) (item : SentItem) (sessions : List Session) : Type 0 where
  pub session : Session
  pub stands : session_of item.key sessions ≡ Some session
  pub outgoing : item.direction ≡ direction_out me item.key
  pub next : item.seq ≡ length session.sent
  pub lawful : is_lawful item.direction item.seq item.body ≡ true

-- the items that are sent by a cause of the stamp continue their sessions, one after the other
abbrev pub FitsSent : Party → ℕ → List Session → List SentItem → Type 0
FitsSent me stamp sessions [] = ⊤
FitsSent me stamp sessions (item ∷ items) = Continues me item sessions × FitsSent me stamp (changed_at item.key (with_sent (record { body = item.body; stamp = stamp })) sessions) items

-- n items of the session may be taken: no fewer than were, and no more than arrived
pub record TakesUpTo (sessions : List Session) (key : Key) (n : ℕ) : Type 0 where
  pub session : Session
  pub stands : session_of key sessions ≡ Some session
  pub above : session.taken ≤ n
  pub below : n ≤ length session.came

-- the new number of taken items fits, if there is one
abbrev pub FitsTaken : List Session → Option (Key × ℕ) → Type 0
FitsTaken sessions None = ⊤
FitsTaken sessions (Some taken) = TakesUpTo sessions taken.0 taken.1

-- ---- limits

-- what arrived in a session, and the ending that was taken there, are within their limits
pub record IsHeld (session : Session) : Type 0 where
  pub came : AllByRecursion IsBody session.came
  pub ending : IfSome session.ending IsBody
