-- The spelling of causes.
use Rattle.std.proofs.Common.{◌≡◌, ◌<◌, ◌≤◌, ◌^◌, ℕ, true, List, [], ◌∷◌, ◌++◌, length, Option, Some, None, Result, refl, arith}
use Rattle.std.specs.Prelude.{nat_eq}
use Rattle.std.specs.List.{list_any}
use Rattle.std.specs.Int.{w16, w32, w64}
use Rattle.net_base.specs.declared.names.Key.{Key}
use Rattle.net_base.specs.declared.values.Moment.{Moment}
use Rattle.net_base.specs.declared.causes.Event.{Event}
use Rattle.net_base.specs.declared.causes.Event.TheVariants as event
use Rattle.net_base.specs.declared.causes.Cause.{Cause}
use Rattle.net_base.specs.Reading.{number}
use Rattle.net_base.specs.Forms.{byte_at, number_at, bytes16}
use Rattle.net_base.specs.Laws.{Laws}
use Rattle.net_base.specs.Combining.{mapped_at, mapped_laws, pair_at, pair_laws, iso_laws}
use Rattle.net_base.specs.Fields.{byte_laws, u16_laws, u32_laws, u64_laws}
use Rattle.net_base.specs.Kinds.{kinds_of, cases_at, cases_laws}
use Rattle.net_base.specs.Framing.{bytes16_at, bytes16_laws}
use Rattle.net_base.specs.Values.{IsMoment, moment, moment_at, moment_laws}
use Rattle.net_base.specs.Names.{IsKey, key, key_at, key_laws}

-- ---- Event: u8 kind; 1 Start: u32 flow, u16 class, bytes16 args; 2 Answer: Key; 3 Arrive: Key, u8 direction, u32 number; 4 Move: u32 flow; 5 Lapse: u32 flow

-- the limits of an event
abbrev pub IsEvent : Event → Type 0
IsEvent (event.Start flow class args) = (flow < 2 ^ 32) × ((class < 2 ^ 16) × (length args ≤ 65535))
IsEvent (event.Answer k) = IsKey k
IsEvent (event.Arrive k direction n) = IsKey k × ((direction < 256) × (n < 2 ^ 32))
IsEvent (event.Move flow) = flow < 2 ^ 32
IsEvent (event.Lapse flow) = flow < 2 ^ 32

-- the byte of kind
abbrev pub event_kind : Event → ℕ
event_kind (event.Start flow class args) = 1
event_kind (event.Answer k) = 2
event_kind (event.Arrive k direction n) = 3
event_kind (event.Move flow) = 4
event_kind (event.Lapse flow) = 5

-- what stands behind the kind
abbrev pub event_fields : Event → List ℕ
event_fields (event.Start flow class args) = number w32 flow ++ (number w16 class ++ bytes16 args)
event_fields (event.Answer k) = key k
event_fields (event.Arrive k direction n) = key k ++ (direction ∷ number w32 n)
event_fields (event.Move flow) = number w32 flow
event_fields (event.Lapse flow) = number w32 flow

-- the spelling of an event
abbrev pub event_text : Event → List ℕ
event_text e = event_kind e ∷ event_fields e

-- events of their fields
abbrev start_of : ℕ × (ℕ × List ℕ) → Event
start_of p = event.Start p.0 p.1.0 p.1.1

abbrev answer_of : Key → Event
answer_of k = event.Answer k

abbrev arrive_of : Key × (ℕ × ℕ) → Event
arrive_of p = event.Arrive p.0 p.1.0 p.1.1

abbrev move_of : ℕ → Event
move_of flow = event.Move flow

abbrev lapse_of : ℕ → Event
lapse_of flow = event.Lapse flow

-- what is read behind each kind
abbrev event_arms : List (ℕ × (List ℕ → Result (Event × List ℕ) ℕ))
event_arms =
    (1, mapped_at start_of (pair_at (number_at w32) (pair_at (number_at w16) (bytes16_at 65535))))
    ∷ (2, mapped_at answer_of key_at)
    ∷ (3, mapped_at arrive_of (pair_at key_at (pair_at byte_at (number_at w32))))
    ∷ (4, mapped_at move_of (number_at w32))
    ∷ (5, mapped_at lapse_of (number_at w32))
    ∷ []

-- reading an event
unfoldable pub event_at : List ℕ → Result (Event × List ℕ) ℕ
event_at = cases_at event_arms

-- the fields of an event of each kind
from_start : (e : Event) → IsEvent e × (event_kind e ≡ 1) → (p : ℕ × (ℕ × List ℕ)) × (((p.0 < 2 ^ 32) × ((p.1.0 < 2 ^ 16) × (length p.1.1 ≤ 65535))) × (start_of p ≡ e))
from_start (event.Start flow class args) h = ((flow, (class, args)), (h.0, refl))
from_start other h = absurd (omega (arith, h.1))

from_answer : (e : Event) → IsEvent e × (event_kind e ≡ 2) → (k : Key) × (IsKey k × (answer_of k ≡ e))
from_answer (event.Answer k) h = (k, (h.0, refl))
from_answer other h = absurd (omega (arith, h.1))

from_arrive : (e : Event) → IsEvent e × (event_kind e ≡ 3) → (p : Key × (ℕ × ℕ)) × ((IsKey p.0 × ((p.1.0 < 256) × (p.1.1 < 2 ^ 32))) × (arrive_of p ≡ e))
from_arrive (event.Arrive k direction n) h = ((k, (direction, n)), (h.0, refl))
from_arrive other h = absurd (omega (arith, h.1))

from_move : (e : Event) → IsEvent e × (event_kind e ≡ 4) → (n : ℕ) × ((n < 2 ^ 32) × (move_of n ≡ e))
from_move (event.Move flow) h = (flow, (h.0, refl))
from_move other h = absurd (omega (arith, h.1))

from_lapse : (e : Event) → IsEvent e × (event_kind e ≡ 5) → (n : ℕ) × ((n < 2 ^ 32) × (lapse_of n ≡ e))
from_lapse (event.Lapse flow) h = (flow, (h.0, refl))
from_lapse other h = absurd (omega (arith, h.1))

-- each kind is among the arms
event_covered : (e : Event) → (list_any (λ y. nat_eq y (event_kind e)) (kinds_of event_arms) ≡ true) × (event_text e ≡ event_kind e ∷ event_fields e)
event_covered (event.Lapse flow) = (refl, refl)
event_covered other = (refl, refl)

-- the laws of events
pub event_laws : Laws IsEvent event_text event_at
unfolding event_at
event_laws =
    cases_laws {kind = event_kind} {body = event_fields} event_arms 1 refl (λ e h. event_covered e) (
      mapped_laws start_of (pair_laws u32_laws (pair_laws u16_laws (bytes16_laws 65535 (omega arith)))) (record { keeps = λ p h. ((h, refl), refl); from = from_start }),
      (
        mapped_laws answer_of key_laws (record { keeps = λ p h. ((h, refl), refl); from = from_answer }),
        (
          mapped_laws arrive_of (pair_laws key_laws (pair_laws byte_laws u32_laws)) (record { keeps = λ p h. ((h, refl), refl); from = from_arrive }),
          (
            mapped_laws move_of u32_laws (record { keeps = λ p h. ((h, refl), refl); from = from_move }),
            (
              mapped_laws lapse_of u32_laws (record { keeps = λ p h. ((h, refl), refl); from = from_lapse }),
              tt,
            ),
          ),
        ),
      ),
    )

-- the session of the item that an event accepts
abbrev pub came_key_of : Event → Option Key
came_key_of (event.Answer k) = Some k
came_key_of (event.Arrive k direction n) = Some k
came_key_of other = None

-- ---- Cause: u64 stamp, u64 moment, Event

-- the limits of a cause
abbrev pub IsCause : Cause → Type 0
IsCause c = (c.stamp < 2 ^ 64) × (IsMoment c.moment × IsEvent c.event)

-- the spelling of a cause
abbrev pub cause_text : Cause → List ℕ
cause_text c = number w64 c.stamp ++ (moment c.moment ++ event_text c.event)

-- a cause of its fields
abbrev cause_of : ℕ × (Moment × Event) → Cause
cause_of p = record { stamp = p.0; moment = p.1.0; event = p.1.1 }

-- reading a cause
unfoldable pub cause_at : List ℕ → Result (Cause × List ℕ) ℕ
cause_at = mapped_at cause_of (pair_at (number_at w64) (pair_at moment_at event_at))

-- the laws of causes
pub cause_laws : Laws IsCause cause_text cause_at
unfolding cause_at
cause_laws = iso_laws cause_of (λ c. (c.stamp, (c.moment, c.event))) (λ _. refl) (λ _. refl) (pair_laws u64_laws (pair_laws moment_laws event_laws))
