-- What holds of the sessions that a node's records make, however many items they have.
use Rattle.std.specs.Prelude.{◌≡◌, ◌≢◌, ℕ, ◌<◌, ◌≤◌, ◌^◌, List, [], ◌∷◌, ◌++◌, Option, Some, true, false, IfSome, length, map, slice_get}
use Rattle.std.specs.List.{AllByRecursion, IsDistinct}
use Rattle.net_base.specs.declared.names.Key.{Key}
use Rattle.net_base.specs.declared.values.Party.{Party}
use Rattle.session_wire.specs.Bodies.{IsBody, IsBodyAt}
use Rattle.session_wire.specs.Rules.{is_opened_by, direction_out, is_new_key, FitsSent}
use Rattle.session_wire.specs.Sessions.{Session, Sent, key_eq, changed_at, new_session, with_came, opened_on, sent_on, taken_on}
use Rattle.session_wire.specs.declared.body.Body.{Body}
use Rattle.session_wire.specs.declared.change.SentItem.{SentItem}

-- a session that another party opened is with that party, and its first item arrived
pub record IsAnswered (session : Session) : Type 0 where
  pub peer : session.peer ≡ session.key.initiator
  pub came : 0 < length session.came

-- an item is within its limits and lawful at its number, and its stamp is one
pub record IsSentAt (me : Party) (key : Key) (number : ℕ) (item : Sent) : Type 0 where
  pub stamped : (0 < item.stamp) × (item.stamp < 2 ^ 63)
  pub lawful : IsBodyAt (direction_out me key) number item.body

-- a session is with another party, answered where that party opened it, and each item that was sent is lawful
pub record IsLawful (me : Party) (session : Session) : Type 0 where
  pub peer : session.peer.0 < 16
  pub other : session.peer.0 ≢ me.0
  pub number : session.key.number < 2 ^ 32
  pub answered : is_opened_by me session.key ≡ false → IsAnswered session
  pub few : length session.sent ≤ 2 ^ 32
  pub items : (number : ℕ) (item : Sent) → slice_get session.sent number ≡ Some item → IsSentAt me session.key number item

-- each session of a party is so
pub record AreLawful (me : Party) (sessions : List Session) : Type 0 where
  pub node : me.0 < 16
  pub each : AllByRecursion (IsLawful me) sessions

-- ---- what transitions make of lawful sessions

-- an item that is sent is within its limits
pub record IsWithin (item : SentItem) : Type 0 where
  pub number : item.seq < 2 ^ 32
  pub body : IsBody item.body

-- no two sessions have one key
abbrev pub AreApart : List Session → Type 0
AreApart sessions = IsDistinct key_eq (map (λ s. s.key) sessions)

-- a party without sessions has lawful ones
abbrev pub NoneAreLawful : Type 0
NoneAreLawful = (me : Party) → me.0 < 16 → AreLawful me []

-- a session that answers the Init of a new key is lawful
abbrev pub AnsweringIsLawful : Type 0
AnsweringIsLawful = (nodes : ℕ) (me : Party) (sessions : List Session) (key : Key) (owner : Option ℕ) (body : Body) → nodes ≤ 16 → key.number < 2 ^ 32 → is_new_key nodes me sessions key ≡ true
    → AreLawful me sessions → AreLawful me (sessions ++ new_session key key.initiator owner (body ∷ []) ∷ [])

-- items that arrive keep sessions lawful
abbrev pub ArrivingIsLawful : Type 0
ArrivingIsLawful = (me : Party) (sessions : List Session) (key : Key) (bodies : List Body) → AreLawful me sessions → AreLawful me (changed_at key (with_came bodies) sessions)

-- what is asked of a session that is opened: it is the party's own, with another party
pub record IsOpening (me : Party) (opened : Key × Party) : Type 0 where
  pub own : is_opened_by me opened.0 ≡ true
  pub number : opened.0.number < 2 ^ 32
  pub peer : opened.1.0 < 16
  pub other : opened.1.0 ≢ me.0

-- a session that is opened is lawful
abbrev pub OpeningIsLawful : Type 0
OpeningIsLawful = (me : Party) (sessions : List Session) (opened : Option (Key × Party)) (owner : Option ℕ) → IfSome opened (IsOpening me) → AreLawful me sessions → AreLawful me (opened_on opened owner sessions)

-- items that fit keep sessions lawful once they are sent, where no two sessions have one key
abbrev pub SendingIsLawful : Type 0
SendingIsLawful = (me : Party) (sessions : List Session) (stamp : ℕ) (items : List SentItem) → 0 < stamp → stamp < 2 ^ 63 → AllByRecursion IsWithin items → FitsSent me stamp sessions items → AreApart sessions
    → AreLawful me sessions → AreLawful me (sent_on stamp items sessions)

-- items that are taken keep sessions lawful
abbrev pub TakingIsLawful : Type 0
TakingIsLawful = (me : Party) (sessions : List Session) (taken : Option (Key × ℕ)) → AreLawful me sessions → AreLawful me (taken_on taken sessions)
