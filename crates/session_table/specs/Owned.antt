-- How a table finds the sessions of a flow.
use Rattle.std.specs.Prelude.{◌≡◌, ℕ, ◌==◌, ◌&&◌, List, [], ◌∷◌, ◌++◌, Option, Some, None, Bool, if◌then◌else◌, map, slice_get, length, nat_eq}
use Rattle.std.specs.Option.{unwrap_or}
use Rattle.std.specs.Map.{lookup}
use Rattle.net_base.specs.declared.names.Key.{Key}
use Rattle.session_table.specs.declared.owned.FlowPlace.{FlowPlace}

-- the sessions that flows own in order of making, each with its flow, and for how many more there is room
pub record Owners : Type 0 where
  pub list : List (ℕ × Key)
  pub room : ℕ

-- whether two places are one
abbrev pub flow_place_eq : FlowPlace → FlowPlace → Bool
flow_place_eq a b = (a.flow == b.flow) && (a.number == b.number)

-- the place of a flow's n-th session
abbrev pub flow_place : ℕ → ℕ → FlowPlace
flow_place flow n = record { flow = flow; number = n }

-- what is kept at a place: a session, with its flow
abbrev pub pair_of : FlowPlace × Key → ℕ × Key
pair_of e = (e.0.flow, e.1)

-- the sessions of one flow, in order
abbrev pub keys_owned : ℕ → List (ℕ × Key) → List Key
keys_owned flow [] = []
keys_owned flow (p ∷ ps) = if flow == p.0 then p.1 ∷ keys_owned flow ps else keys_owned flow ps

-- each session stands under its number among those of its flow, and these are counted
pub record IsFlowIndex (keys : List (FlowPlace × Key)) (counts : List (ℕ × ℕ)) : Type 0 where
  pub numbered : (flow n : ℕ) → lookup (flow_place_eq (flow_place flow n)) keys ≡ slice_get (keys_owned flow (map pair_of keys)) n
  pub counted : (flow : ℕ) → unwrap_or (lookup (nat_eq flow) counts) 0 ≡ length (keys_owned flow (map pair_of keys))

-- a session with its flow, if a flow owns it
abbrev pub owner_pair : Key → Option ℕ → List (ℕ × Key)
owner_pair key None = []
owner_pair key (Some flow) = (flow, key) ∷ []

-- the sessions that flows own, of all sessions with their owners
abbrev pub owners : List (Key × Option ℕ) → List (ℕ × Key)
owners [] = []
owners (e ∷ es) = owner_pair e.0 e.1 ++ owners es
