-- The spelling of the items of a session: what a message says.
use Rattle.std.proofs.Common.{◌≡◌, ◌<◌, ◌^◌, ℕ, Bool, true, false, cond, List, [], ◌∷◌, ◌++◌, Result, refl, arith}
use Rattle.std.specs.Prelude.{nat_eq}
use Rattle.std.specs.List.{list_any}
use Rattle.std.specs.Int.{w16}
use Rattle.net_base.specs.Reading.{number}
use Rattle.net_base.specs.Forms.{number_at}
use Rattle.net_base.specs.Laws.{Laws, done}
use Rattle.net_base.specs.Combining.{mapped_at, mapped_laws, pair_at, pair_laws}
use Rattle.net_base.specs.Fields.{u16_laws}
use Rattle.net_base.specs.Kinds.{kinds_of, cases_at, cases_laws, bare_laws}
use Rattle.ledger_types.specs.Values.{IsValue, value, value_at, value_laws}
use Rattle.ledger_types.specs.declared.value.Value.{Value}
use Rattle.session_wire.specs.declared.body.Body.{Body}
use Rattle.session_wire.specs.declared.body.Body.TheVariants.{Init, Confirm, Reject, Data, Error, End}

-- the limits of a body: codes and classes are two bytes, values are within theirs
abbrev pub IsBody : Body → Type 0
IsBody (Init class first) = (class < 2 ^ 16) × IsValue first
IsBody (Reject code) = code < 2 ^ 16
IsBody (Data x) = IsValue x
IsBody (Error code) = code < 2 ^ 16
IsBody other = Unit {0}

-- the byte by which each kind of body begins
abbrev pub body_kind : Body → ℕ
body_kind (Init class first) = 1
body_kind Confirm = 2
body_kind (Reject code) = 3
body_kind (Data x) = 4
body_kind (Error code) = 5
body_kind End = 6

-- the spelling of what follows that byte
abbrev pub body_fields : Body → List ℕ
body_fields (Init class first) = number w16 class ++ value first
body_fields (Reject code) = number w16 code
body_fields (Data x) = value x
body_fields (Error code) = number w16 code
body_fields other = []

-- the spelling of a body
abbrev pub body_text : Body → List ℕ
body_text b = body_kind b ∷ body_fields b

-- the kinds that are lawful at a direction and a number: Init exactly at direction 0 and number 0, Confirm or Reject
-- exactly at direction 1 and number 0
abbrev pub kinds_at : ℕ → ℕ → List ℕ
kinds_at direction seq = cond (nat_eq seq 0) (cond (nat_eq direction 0) (1 ∷ []) (2 ∷ 3 ∷ [])) (4 ∷ 5 ∷ 6 ∷ [])

-- a body within its limits that is lawful at the direction and number
abbrev pub IsBodyAt : ℕ → ℕ → Body → Type 0
IsBodyAt direction seq b = IsBody b × (list_any (λ k. nat_eq k (body_kind b)) (kinds_at direction seq) ≡ true)

-- ---- reading

-- bodies of their fields
abbrev init_of : ℕ × Value → Body
init_of p = Init p.0 p.1

abbrev reject_of : ℕ → Body
reject_of n = Reject n

abbrev data_of : Value → Body
data_of x = Data x

abbrev error_of : ℕ → Body
error_of n = Error n

-- what is read at direction 0 and number 0
abbrev first_arms : List (ℕ × (List ℕ → Result (Body × List ℕ) ℕ))
first_arms = (1, mapped_at init_of (pair_at (number_at w16) value_at)) ∷ []

-- what is read at direction 1 and number 0
abbrev answer_arms : List (ℕ × (List ℕ → Result (Body × List ℕ) ℕ))
answer_arms = (2, λ bytes. done (Confirm, bytes)) ∷ (3, mapped_at reject_of (number_at w16)) ∷ []

-- what is read at the other numbers
abbrev later_arms : List (ℕ × (List ℕ → Result (Body × List ℕ) ℕ))
later_arms = (4, mapped_at data_of value_at) ∷ (5, mapped_at error_of (number_at w16)) ∷ (6, λ bytes. done (End, bytes)) ∷ []

-- reading a body that is lawful at the direction and number
unfoldable pub body_at : ℕ → ℕ → List ℕ → Result (Body × List ℕ) ℕ
body_at direction seq bytes = cond (nat_eq seq 0) (cond (nat_eq direction 0) (cases_at first_arms bytes) (cases_at answer_arms bytes)) (cases_at later_arms bytes)

-- ---- the laws

-- a body of one of these kinds
abbrev Among : List ℕ → Body → Type 0
Among kinds b = IsBody b × (list_any (λ k. nat_eq k (body_kind b)) kinds ≡ true)

-- the fields of a body of each kind
from_init : (b : Body) → IsBody b × (body_kind b ≡ 1) → (p : ℕ × Value) × (((p.0 < 2 ^ 16) × IsValue p.1) × (init_of p ≡ b))
from_init (Init c x) h = ((c, x), (h.0, refl))
from_init other h = absurd (omega (arith, h.1))

from_reject : (b : Body) → IsBody b × (body_kind b ≡ 3) → (n : ℕ) × ((n < 2 ^ 16) × (reject_of n ≡ b))
from_reject (Reject n) h = (n, (h.0, refl))
from_reject other h = absurd (omega (arith, h.1))

from_data : (b : Body) → IsBody b × (body_kind b ≡ 4) → (x : Value) × (IsValue x × (data_of x ≡ b))
from_data (Data x) h = (x, (h.0, refl))
from_data other h = absurd (omega (arith, h.1))

from_error : (b : Body) → IsBody b × (body_kind b ≡ 5) → (n : ℕ) × ((n < 2 ^ 16) × (error_of n ≡ b))
from_error (Error n) h = (n, (h.0, refl))
from_error other h = absurd (omega (arith, h.1))

only_confirm : (b : Body) → IsBody b × (body_kind b ≡ 2) → b ≡ Confirm
only_confirm Confirm h = refl
only_confirm other h = absurd (omega (arith, h.1))

only_end : (b : Body) → IsBody b × (body_kind b ≡ 6) → b ≡ End
only_end End h = refl
only_end other h = absurd (omega (arith, h.1))

-- the laws of the bodies at each place
first_laws : Laws (Among (1 ∷ [])) body_text (cases_at first_arms)
first_laws =
    cases_laws {kind = body_kind} {body = body_fields} first_arms 1 refl (λ b h. (h.1, refl)) (
      mapped_laws init_of (pair_laws u16_laws value_laws) (record { keeps = λ p h. (((h, refl), refl), refl); from = λ b h. from_init b (h.0.0, h.1) }),
      tt,
    )

answer_laws : Laws (Among (2 ∷ 3 ∷ [])) body_text (cases_at answer_arms)
answer_laws =
    cases_laws {kind = body_kind} {body = body_fields} answer_arms 2 refl (λ b h. (h.1, refl)) (
      bare_laws Confirm ((tt, refl), refl) refl (λ b h. only_confirm b (h.0.0, h.1)),
      (
        mapped_laws reject_of u16_laws (record { keeps = λ p h. (((h, refl), refl), refl); from = λ b h. from_reject b (h.0.0, h.1) }),
        tt,
      ),
    )

later_laws : Laws (Among (4 ∷ 5 ∷ 6 ∷ [])) body_text (cases_at later_arms)
later_laws =
    cases_laws {kind = body_kind} {body = body_fields} later_arms 4 refl (λ b h. (h.1, refl)) (
      mapped_laws data_of value_laws (record { keeps = λ p h. (((h, refl), refl), refl); from = λ b h. from_data b (h.0.0, h.1) }),
      (
        mapped_laws error_of u16_laws (record { keeps = λ p h. (((h, refl), refl), refl); from = λ b h. from_error b (h.0.0, h.1) }),
        (
          bare_laws End ((tt, refl), refl) refl (λ b h. only_end b (h.0.0, h.1)),
          tt,
        ),
      ),
    )

-- and by the tests of direction and number
chosen : (a b : Bool) → Laws (Among (cond a (cond b (1 ∷ []) (2 ∷ 3 ∷ [])) (4 ∷ 5 ∷ 6 ∷ []))) body_text (λ bytes. cond a (cond b (cases_at first_arms bytes) (cases_at answer_arms bytes)) (cases_at later_arms bytes))
chosen true true = first_laws
chosen true false = answer_laws
chosen false b = later_laws

-- the laws of the bodies that are lawful at a direction and number
pub body_laws : (direction seq : ℕ) → Laws (IsBodyAt direction seq) body_text (body_at direction seq)
unfolding body_at
body_laws direction seq = chosen (nat_eq seq 0) (nat_eq direction 0)

-- ---- a body by itself, of any kind

-- reading a body of any kind
abbrev any_arms : List (ℕ × (List ℕ → Result (Body × List ℕ) ℕ))
any_arms =
    (1, mapped_at init_of (pair_at (number_at w16) value_at))
    ∷ (2, λ bytes. done (Confirm, bytes))
    ∷ (3, mapped_at reject_of (number_at w16))
    ∷ (4, mapped_at data_of value_at)
    ∷ (5, mapped_at error_of (number_at w16))
    ∷ (6, λ bytes. done (End, bytes))
    ∷ []

-- reading a body of any kind
unfoldable pub any_body_at : List ℕ → Result (Body × List ℕ) ℕ
any_body_at = cases_at any_arms

-- each kind is one of them
body_covered : (b : Body) → (list_any (λ y. nat_eq y (body_kind b)) (kinds_of any_arms) ≡ true) × (body_text b ≡ body_kind b ∷ body_fields b)
body_covered (Init class x) = (refl, refl)
body_covered Confirm = (refl, refl)
body_covered (Reject n) = (refl, refl)
body_covered (Data x) = (refl, refl)
body_covered (Error n) = (refl, refl)
body_covered End = (refl, refl)

-- the laws of bodies
pub any_body_laws : Laws IsBody body_text any_body_at
unfolding any_body_at
any_body_laws =
    cases_laws {kind = body_kind} {body = body_fields} any_arms 1 refl (λ b h. body_covered b) (
      mapped_laws init_of (pair_laws u16_laws value_laws) (record { keeps = λ p h. ((h, refl), refl); from = from_init }),
      (
        bare_laws Confirm (tt, refl) refl only_confirm,
        (
          mapped_laws reject_of u16_laws (record { keeps = λ p h. ((h, refl), refl); from = from_reject }),
          (
            mapped_laws data_of value_laws (record { keeps = λ p h. ((h, refl), refl); from = from_data }),
            (
              mapped_laws error_of u16_laws (record { keeps = λ p h. ((h, refl), refl); from = from_error }),
              (
                bare_laws End (tt, refl) refl only_end,
                tt,
              ),
            ),
          ),
        ),
      ),
    )
