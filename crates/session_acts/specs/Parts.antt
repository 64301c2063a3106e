-- What a change of a node's sessions is in the words of the network's definitions.
use Rattle.std.specs.Prelude.{◌≡◌, ℕ, List, [], ◌∷◌, Option, Some, None, Bool, true, false, not, ◌==◌, length, is_some, if◌then◌else◌}
use Rattle.std.specs.List.{list_all}
use Rattle.net_base.specs.declared.names.Key.{Key}
use Rattle.net_base.specs.declared.values.Party.{Party}
use Rattle.session_wire.specs.declared.body.Body.{Body}
use Rattle.session_wire.specs.declared.body.Body.TheVariants as body_of
use Rattle.session_wire.specs.declared.change.SessionChange.{SessionChange}
use Rattle.session_wire.specs.Sessions.{Session}
use Rattle.session_wire.specs.Rules.{next_key}
use Rattle.flow_machine.specs.declared.acts.Act.{Act}
use Rattle.net_model.specs.Environment.{party}
use Rattle.net_model.specs.State.{NodeState, Change, Effect, nothing, session_part}
use Rattle.net_model.specs.Steps.{Done, answering, arrived}
use Rattle.net_model.specs.Fits.{is_counted, keys_differ, IsSound}
use Rattle.session_acts.specs.declared.acts.Performed.{Performed}

-- what an act does: what the frame is resumed with, and what changes
abbrev pub done_of : Performed → Done
done_of p = (p.with, session_part p.change)

-- no session changes, by a flow
abbrev pub unchanged : ℕ → SessionChange
unchanged flow = record { opened = None; owner = flow; sent = []; came = None; came_key = None; taken = None }

-- what answers the Init of a session: it is accepted, and Confirm sent where a flow begins, else Reject of code 5
abbrev pub answer_to : Key → Body → Bool → Change
answer_to key init begins = record nothing { came = Some init; sent = record { key = key; direction = 1; seq = 0; body = if begins then body_of.Confirm else body_of.Reject 5 } ∷ [] }

-- an item is accepted, and nothing else changes
abbrev pub arrival : Body → Change
arrival body = record nothing { came = Some body }

-- whether an item is one that a flow sends at its end
abbrev pub is_last : Body → Bool
is_last (body_of.Error code) = true
is_last body_of.End = true
is_last _ = false

-- What holds of a node's sessions in every run: each has sent its first item, those that the node opened have numbers below the next
-- one, and no two have one key.
pub record AreSound (me : Party) (sessions : List Session) : Type 0 where
  pub begun : list_all (λ session. not (length session.sent == 0)) sessions ≡ true
  pub counted : list_all (is_counted me.0 (next_key me sessions).number) sessions ≡ true
  pub keys : keys_differ sessions ≡ true

-- ---- laws

-- accepting an Init changes of a node, beside the flow, what its answer says
abbrev pub AnswersAsMeant : (F : Type 0) → Type 0
AnswersAsMeant F = (key : Key) (f class : ℕ) (init : Body) (made : Option (F × Act F)) → (answering key f class init made).change ≡ answer_to key init (is_some made)

-- accepting the next item of a session changes nothing but that it is accepted
abbrev pub ArrivesAsMeant : (F : Type 0) → Type 0
ArrivesAsMeant F = (me : ℕ) (key : Key) (direction number : ℕ) (body : Body) (session : Session) (e : Effect F) → arrived me key direction number body session ≡ Some e → e.change ≡ arrival body

-- the sessions of a sound state are sound
abbrev pub SoundSessions : (F : Type 0) → Type 0
SoundSessions F = (p : ℕ) (s : NodeState F) → IsSound p s → AreSound (party p) s.sessions
