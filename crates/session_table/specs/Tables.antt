-- What contracts see of a node's sessions, and what is asked of them.
use Rattle.std.specs.Prelude.{ℕ, ◌==◌, ◌&&◌, ◌+◌, List, [], ◌∷◌, Option, None, if◌then◌else◌, max, option_map, length, filter, slice_get, nat_le, zip, flat_map}
use Rattle.std.specs.Borrow.{Bor}
use Rattle.std.specs.Option.{option_and_then, option_map_or}
use Rattle.net_base.specs.declared.names.Key.{Key}
use Rattle.net_base.specs.declared.values.Party.{Party}
use Rattle.session_wire.specs.Sessions.{Session, Sent, key_eq, session_of, next_item}
use Rattle.session_wire.specs.Rules.{direction_out, direction_in, sessions_of}
use Rattle.session_wire.specs.declared.body.Body.{Body}
use Rattle.session_table.specs.declared.resent.Item.{Item}

-- what contracts see of a node's sessions
pub record Table : Type 0 where
  -- the node's party
  pub party : Party
  -- the sessions in order of making
  pub list : List Session
  -- how many of the items that the node sent are acknowledged, session by session
  pub acked : List ℕ
  -- for how many more sessions and items there is room
  pub room : ℕ

-- how many items arrived in the session of the key, where the direction is the one of what arrives there
abbrev pub arrived_at : Party → Key → ℕ → List Session → Option ℕ
arrived_at me key direction sessions = if direction == direction_in me key then option_map (λ s. length s.came) (session_of key sessions) else None

-- the item that is there for a Receive in the session of the key, and its number; an ending that was taken has none
abbrev pub item_there : Key → List Session → Option (Option ℕ × Body)
item_there key sessions = option_and_then (λ s. next_item s s.ending) (session_of key sessions)

-- the acknowledged numbers once the first `upto` items of the key's session were acknowledged in its outgoing direction; none falls
abbrev pub raised : Party → Key → ℕ → ℕ → List Session → List ℕ → List ℕ
raised me key direction upto [] ns = []
raised me key direction upto (s ∷ ss) [] = []
raised me key direction upto (s ∷ ss) (n ∷ ns) = (if key_eq key s.key && (direction == direction_out me key) then max n upto else n) ∷ raised me key direction upto ss ns

-- a number and what is referred to
abbrev pub numbered : ℕ × Bor Body → ℕ × Body
numbered p = (p.0, p.1.now)

-- the key of a flow's n-th session, counted from 0
abbrev pub of_flow : ℕ → ℕ → List Session → Option Key
of_flow flow n sessions = option_map (λ s. s.key) (slice_get (sessions_of flow sessions) n)

-- an item that was sent in a session under a number
abbrev pub item_of : Party → Session → ℕ → Sent → Item
item_of me s n x = record { peer = s.peer; key = s.key; direction = direction_out me s.key; number = n; stamp = x.stamp; body = x.body }

-- these items of a session, the first of which has the number n
abbrev pub items_from : Party → Session → ℕ → List Sent → List Item
items_from me s n [] = []
items_from me s n (x ∷ xs) = item_of me s n x ∷ items_from me s (n + 1) xs

-- the items that were sent in a session, at or past its acknowledged number
abbrev pub unacked_in : Party → Session × ℕ → List Item
unacked_in me p = filter (λ item. nat_le p.1 item.number) (items_from me p.0 0 p.0.sent)

-- the items that aren't acknowledged, by session in order of making and then by number
abbrev pub unacked : Party → List Session → List ℕ → List Item
unacked me sessions acked = flat_map (unacked_in me) (zip sessions acked)

-- those of the session at this place
abbrev pub unacked_at : Party → List Session → List ℕ → ℕ → List Item
unacked_at me sessions acked place = option_map_or (unacked_in me) (slice_get (zip sessions acked) place) []
