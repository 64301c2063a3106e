-- How a table keeps sessions: how each stands, and the items of all of them under their sessions and numbers.
use Rattle.std.specs.Prelude.{◌≡◌, ℕ, ◌+◌, max, ◌==◌, ◌&&◌, ◌||◌, not, nat_lt, List, [], ◌∷◌, Option, Some, None, Bool, true, if◌then◌else◌, map, filter, slice_get, length}
use Rattle.std.specs.List.{list_all, IsDistinct}
use Rattle.std.specs.Option.{option_map_or, option_or}
use Rattle.std.specs.Map.{lookup, keys_of, set_value}
use Rattle.net_base.specs.declared.names.Key.{Key}
use Rattle.net_base.specs.declared.values.Party.{Party}
use Rattle.session_wire.specs.Sessions.{Session, Sent, key_eq}
use Rattle.session_wire.specs.declared.body.Body.{Body}
use Rattle.session_wire.specs.Rules.{is_opened_by}
use Rattle.session_table.specs.declared.standing.Standing.{Standing}
use Rattle.session_table.specs.declared.standing.Place.{Place}
use Rattle.session_table.specs.declared.standing.Posted.{Posted}

-- whether two places are one
abbrev pub place_eq : Place → Place → Bool
place_eq a b = key_eq a.key b.key && (a.number == b.number)

-- the place of an item
abbrev pub place_of : Key → ℕ → Place
place_of key n = record { key = key; number = n }

-- what is kept for a session, in order
abbrev pub items_of : {V : Type 0} → Key → List (Place × V) → List V
items_of key [] = []
items_of key (e ∷ es) = if key_eq key e.0.key then e.1 ∷ items_of key es else items_of key es

-- an item that was sent
abbrev pub sent_of : Posted → Sent
sent_of p = record { body = p.body; stamp = p.stamp }

-- a session, of how it stands and of the items
abbrev pub session_at : List (Place × Posted) → List (Place × Body) → Key × Standing → Session
session_at sent came e = record { key = e.0; peer = e.1.peer; owner = e.1.owner; sent = map sent_of (items_of e.0 sent); came = items_of e.0 came; taken = e.1.taken; ending = e.1.ending }

-- a session, with the flow that owns it
abbrev pub owner_of : Key × Standing → Key × Option ℕ
owner_of e = (e.0, e.1.owner)

-- each item stands under its number among those of its session
abbrev pub IsNumbered : {V : Type 0} → List (Place × V) → Type 0
IsNumbered items = (key : Key) (n : ℕ) → lookup (place_eq (place_of key n)) items ≡ slice_get (items_of key items) n

-- the session of the key counts this number of its items, and there are none where there is no session
abbrev pub IsCounted : {V : Type 0} → (Standing → ℕ) → List (Key × Standing) → List (Place × V) → Type 0
IsCounted count lines items = (key : Key) → length (items_of key items) ≡ option_map_or count (lookup (key_eq key) lines) 0

-- whether the session of this key has a number below n, if the party opened it
abbrev pub is_below : Party → ℕ → Key → Bool
is_below me n key = not (is_opened_by me key) || nat_lt key.number n

-- what always holds of a table's parts
pub record IsKept (me : Party) (opened : ℕ) (lines : List (Key × Standing)) (sent : List (Place × Posted)) (came : List (Place × Body)) : Type 0 where
  pub sent_numbered : IsNumbered sent
  pub came_numbered : IsNumbered came
  pub sent_counted : IsCounted (λ s. s.sent) lines sent
  pub came_counted : IsCounted (λ s. s.came) lines came
  pub opened_is : opened ≡ length (filter (is_opened_by me) (keys_of lines))
  pub below : list_all (is_below me opened) (keys_of lines) ≡ true
  pub unique : IsDistinct key_eq (keys_of lines)

-- how the session of the key stands is changed so, if there is one; no two sessions have one key
pub record Rewrites (key : Key) (change : Standing → Standing) (old new : List (Key × Standing)) : Type 0 where
  pub found : (v : Standing) → Some v ≡ lookup (key_eq key) old → new ≡ set_value (key_eq key) old (change v)
  pub lost : None ≡ lookup (key_eq key) old → new ≡ old
  pub unique : IsDistinct key_eq (keys_of old)

-- one more item arrived
abbrev pub one_came : Standing → Standing
one_came v = record v { came = v.came + 1 }

-- one more item was sent
abbrev pub one_sent : Standing → Standing
one_sent v = record v { sent = v.sent + 1 }

-- n items are taken now, and that is an ending if none was taken before
abbrev pub taken_to : ℕ → Option Body → Standing → Standing
taken_to n ending v = record v { taken = n; ending = option_or v.ending ending }

-- n items are acknowledged, if fewer were
abbrev pub acked_to : ℕ → Standing → Standing
acked_to n v = record v { acked = max v.acked n }
