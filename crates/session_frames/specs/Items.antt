-- What holds of what a node says of a frame, where its sessions are those of a node's records.
use Rattle.std.specs.Prelude.{◌≡◌, ◌⊎◌, ⊤, ℕ, ◌+◌, ◌<◌, ◌≤◌, ◌^◌, List, Some, true, length}
use Rattle.net_base.specs.declared.names.Identity.{Identity}
use Rattle.net_base.specs.declared.names.Key.{Key}
use Rattle.net_base.specs.declared.values.Party.{Party}
use Rattle.session_wire.specs.Bodies.{IsBody}
use Rattle.session_wire.specs.Frames.{IsFrame}
use Rattle.session_wire.specs.Rules.{direction_out, is_init, is_next, is_new_key}
use Rattle.session_wire.specs.Sessions.{Session, session_of}
use Rattle.session_wire.specs.declared.body.Body.{Body}
use Rattle.session_wire.specs.declared.frame.Frame.TheVariants.{Ack}
use Rattle.session_frames.specs.declared.judged.Judged.{Judged}
use Rattle.session_frames.specs.declared.judged.Judged.TheVariants.{Acked, Again, Next}

-- the item begins a session: it is the Init of a new key, sent by the key's initiator, another node of the network
pub record BeginsSession (node : Identity) (sessions : List Session) (from : Party) (key : Key) (direction number : ℕ) (body : Body) : Type 0 where
  pub is_new : is_new_key node.nodes node.party sessions key ≡ true
  pub initiator : key.initiator ≡ from
  pub outgoing : direction ≡ 0
  pub first : number ≡ 0
  pub init : is_init body ≡ true

-- the item is the next one of a session with its sender
pub record GoesOn (node : Identity) (sessions : List Session) (from : Party) (key : Key) (direction number : ℕ) (body : Body) : Type 0 where
  pub session : Session
  pub stands : session_of key sessions ≡ Some session
  pub peer : session.peer ≡ from
  pub next : is_next node.party key direction number body session ≡ true

-- the acknowledgement of a number of items, to their sender, is a frame
abbrev pub CanAnswer : Party → Party → Key → ℕ → ℕ → Type 0
CanAnswer me from key direction upto = IsFrame (Ack me from key direction upto)

-- the item may be committed
pub record IsNextItem (node : Identity) (sessions : List Session) (from : Party) (key : Key) (direction number stamp : ℕ) (body : Body) : Type 0 where
  pub place : BeginsSession node sessions from key direction number body ⊎ GoesOn node sessions from key direction number body
  pub within : IsBody body
  pub stamped : (0 < stamp) × (stamp < 2 ^ 63)
  pub answered : number + 1 < 2 ^ 32 → CanAnswer node.party from key direction (number + 1)

-- the acknowledgement is of items that were sent in a session, in the direction in which the party sends
pub record IsOfSent (me : Party) (sessions : List Session) (key : Key) (direction upto : ℕ) : Type 0 where
  pub session : Session
  pub stands : session_of key sessions ≡ Some session
  pub outgoing : direction ≡ direction_out me key
  pub below : upto ≤ length session.sent

-- what was judged can be gone on with: an item that is the next one may be committed, one that came before be acknowledged again, and an acknowledgement be noted
abbrev pub GoesFurther : Identity → List Session → Judged → Type 0
GoesFurther node sessions (Next from key direction number stamp body) = IsNextItem node sessions from key direction number stamp body
GoesFurther node sessions (Again from key direction expected) = expected < 2 ^ 32 → CanAnswer node.party from key direction expected
GoesFurther node sessions (Acked key direction upto) = IsOfSent node.party sessions key direction upto
GoesFurther node sessions other = ⊤
