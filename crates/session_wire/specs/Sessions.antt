-- What a node knows of its sessions, as plain lists, and what a transition changes there.
use Rattle.std.specs.Prelude.{ℕ, zero, suc, ◌+◌, ◌==◌, ◌&&◌, List, [], ◌∷◌, ◌++◌, Option, Some, None, Bool, true, false, if◌then◌else◌, map, find, drop, option_map, slice_get}
use Rattle.std.specs.Option.{option_or, option_and_then}
use Rattle.net_base.specs.declared.names.Key.{Key}
use Rattle.net_base.specs.declared.values.Party.{Party}
use Rattle.session_wire.specs.declared.body.Body.{Body}
use Rattle.session_wire.specs.declared.body.Body.TheVariants as body_of
use Rattle.session_wire.specs.declared.change.SentItem.{SentItem}

-- an item that was sent, with the stamp of its cause
pub record Sent : Type 0 where
  pub body : Body
  pub stamp : ℕ

-- a session as one node has it
pub record Session : Type 0 where
  pub key : Key
  -- the other side
  pub peer : Party
  -- the flow that owns it, if one does
  pub owner : Option ℕ
  -- the items that this node sent, by number
  pub sent : List Sent
  -- the items that arrived, by number
  pub came : List Body
  -- how many of those that arrived were taken
  pub taken : ℕ
  -- the ending that was taken
  pub ending : Option Body

-- whether two keys are one
abbrev pub key_eq : Key → Key → Bool
key_eq a b = (a.initiator.0 == b.initiator.0) && (a.number == b.number)

-- the session of a key
abbrev pub session_of : Key → List Session → Option Session
session_of key sessions = find (λ s. key_eq key s.key) sessions

-- the sessions, with the one of the key changed
abbrev pub changed_at : Key → (Session → Session) → List Session → List Session
changed_at key change sessions = map (λ s. if key_eq key s.key then change s else s) sessions

-- a session in which nothing was sent or taken
abbrev pub new_session : Key → Party → Option ℕ → List Body → Session
new_session key peer owner came = record { key = key; peer = peer; owner = owner; sent = []; came = came; taken = 0; ending = None }

-- a session once items arrived
abbrev pub with_came : List Body → Session → Session
with_came bodies s = record s { came = s.came ++ bodies }

-- a session once an item was sent
abbrev pub with_sent : Sent → Session → Session
with_sent item s = record s { sent = s.sent ++ item ∷ [] }

-- an item, where it ends the session
abbrev pub ending_of : Body → Option Body
ending_of (body_of.Reject code) = Some (body_of.Reject code)
ending_of (body_of.Error code) = Some (body_of.Error code)
ending_of body_of.End = Some body_of.End
ending_of _ = None

-- the ending that is the last of the first n items
abbrev pub ending_at : List Body → ℕ → Option Body
ending_at came zero = None
ending_at came (suc n) = option_and_then ending_of (slice_get came n)

-- a session of which n items are taken now; an ending that was taken stays
abbrev pub with_taken : ℕ → Session → Session
with_taken n s = record s { taken = n; ending = option_or s.ending (ending_at s.came n) }

-- the sessions once one was opened
abbrev pub opened_on : Option (Key × Party) → Option ℕ → List Session → List Session
opened_on None owner sessions = sessions
opened_on (Some opened) owner sessions = sessions ++ new_session opened.0 opened.1 owner [] ∷ []

-- the sessions once these items were sent, by a cause of the stamp
abbrev pub sent_on : ℕ → List SentItem → List Session → List Session
sent_on stamp [] sessions = sessions
sent_on stamp (item ∷ items) sessions = sent_on stamp items (changed_at item.key (with_sent (record { body = item.body; stamp = stamp })) sessions)

-- the sessions once this number of items of one was received
abbrev pub taken_on : Option (Key × ℕ) → List Session → List Session
taken_on None sessions = sessions
taken_on (Some taken) sessions = changed_at taken.0 (with_taken taken.1) sessions

-- whether an item is a Confirm
abbrev pub is_confirm : Body → Bool
is_confirm body_of.Confirm = true
is_confirm _ = false

-- the first of these items that is no Confirm, with its number; n is the number of the first of them
abbrev pub first_item : ℕ → List Body → Option (ℕ × Body)
first_item n [] = None
first_item n (body ∷ bodies) = if is_confirm body then first_item (n + 1) bodies else Some (n, body)

-- the item that is there for a Receive, where this ending was taken: it, for good, without a number; else the first that is not taken and is no Confirm
abbrev pub next_item : Session → Option Body → Option (Option ℕ × Body)
next_item session (Some ending) = Some (None, ending)
next_item session None = option_map (λ found. (Some found.0, found.1)) (first_item session.taken (drop session.taken session.came))
