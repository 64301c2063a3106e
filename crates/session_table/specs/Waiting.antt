-- Which sessions have an item that isn't acknowledged, by their places in order of making.
use Rattle.std.specs.Prelude.{◌≡◌, ℕ, ◌&&◌, ◌||◌, not, nat_eq, nat_lt, Bool, false, List, Option, Some, None, map, position, slice_index_or}
use Rattle.std.specs.List.Sorted.{IsStrictlyIncreasing}
use Rattle.std.specs.Map.{keys_of}
use Rattle.std.specs.Set.{is_member}
use Rattle.net_base.specs.declared.names.Key.{Key}
use Rattle.session_wire.specs.Sessions.{key_eq}
use Rattle.session_table.specs.declared.standing.Standing.{Standing}

-- places, in no order of their own, and for how many more there is room
pub record Places : Type 0 where
  pub list : List ℕ
  pub room : ℕ

-- whether the list has the place
abbrev pub has_place : List ℕ → ℕ → Bool
has_place places n = is_member nat_eq places n

-- ps has the places that qs has, each once, and in order of making
pub record IsInOrder (qs ps : List ℕ) : Type 0 where
  pub ascending : IsStrictlyIncreasing ps
  pub same : (n : ℕ) → has_place ps n ≡ has_place qs n

-- whether fewer of a session's items are acknowledged than were sent
abbrev pub waits : Key × Standing → Bool
waits e = nat_lt e.1.acked e.1.sent

-- whether the session at this place waits; past the last session none does
abbrev pub waits_at : List (Key × Standing) → ℕ → Bool
waits_at lines n = slice_index_or (map waits lines) n false

-- the places are those of the sessions that wait
pub record IsListed (lines : List (Key × Standing)) (places : List ℕ) : Type 0 where
  pub listed : (n : ℕ) → has_place places n ≡ waits_at lines n

-- the place of the session of the key
abbrev pub place_in : Key → List (Key × Standing) → Option ℕ
place_in key lines = position (key_eq key) (keys_of lines)

-- the place of the key's session joins the others, if that session waits
pub record Joins (key : Key) (lines : List (Key × Standing)) (old new : List ℕ) : Type 0 where
  pub found : (p n : ℕ) → Some p ≡ place_in key lines → has_place new n ≡ (has_place old n || (nat_eq p n && waits_at lines p))
  pub lost : None ≡ place_in key lines → new ≡ old

-- the place of the key's session leaves the others, if that session doesn't wait
pub record Leaves (key : Key) (lines : List (Key × Standing)) (old new : List ℕ) : Type 0 where
  pub found : (p n : ℕ) → Some p ≡ place_in key lines → has_place new n ≡ (has_place old n && not (nat_eq p n && not (waits_at lines p)))
  pub lost : None ≡ place_in key lines → new ≡ old
