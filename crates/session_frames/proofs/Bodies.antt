-- Bodies that are lawful at a direction and a number, by tests.
use Rattle.std.proofs.Common.{◌≡◌, ◌⊎◌, inl, inr, ℕ, Bool, true, false, cond, not, ◌&&◌, [], ◌∷◌, refl, nat_eq, eq-eqb, arith}
use Rattle.std.specs.List.{list_any}
use Rattle.std.proofs.lemmas.Bool.{ne_eqb, eqb-true}
use Rattle.session_wire.specs.Bodies.{IsBody, IsBodyAt}
use Rattle.session_wire.specs.Rules.{is_lawful, is_init}
use Rattle.session_wire.specs.declared.body.Body.{Body}
use Rattle.session_wire.specs.declared.body.Body.TheVariants.{Init, Confirm, Reject, Data, Error, End}

-- the kinds by two tests: of the number 0, and of the direction 0
abbrev Among : ℕ → Bool → Bool → Type 0
Among kind first outward = list_any (λ k. nat_eq k kind) (cond first (cond outward (1 ∷ []) (2 ∷ 3 ∷ [])) (4 ∷ 5 ∷ 6 ∷ [])) ≡ true

init_among : (first outward : Bool) → Among 1 first outward → (outward && first) ≡ true
init_among true true h = refl
init_among true false h = absurd cc
init_among false outward h = absurd cc

confirm_among : (first outward inward : Bool) → (outward ≡ false → inward ≡ true) → Among 2 first outward → (inward && first) ≡ true
confirm_among true true inward apart h = absurd cc
confirm_among true false inward apart h = rw (apart refl) refl
confirm_among false outward inward apart h = absurd cc

reject_among : (first outward inward : Bool) → (outward ≡ false → inward ≡ true) → Among 3 first outward → (inward && first) ≡ true
reject_among true true inward apart h = absurd cc
reject_among true false inward apart h = rw (apart refl) refl
reject_among false outward inward apart h = absurd cc

data_among : (first outward : Bool) → Among 4 first outward → not first ≡ true
data_among true true h = absurd cc
data_among true false h = absurd cc
data_among false outward h = refl

error_among : (first outward : Bool) → Among 5 first outward → not first ≡ true
error_among true true h = absurd cc
error_among true false h = absurd cc
error_among false outward h = refl

end_among : (first outward : Bool) → Among 6 first outward → not first ≡ true
end_among true true h = absurd cc
end_among true false h = absurd cc
end_among false outward h = refl

-- of the two directions
apart_tests : (direction : ℕ) → (direction ≡ 0) ⊎ (direction ≡ 1) → nat_eq direction 0 ≡ false → nat_eq direction 1 ≡ true
apart_tests direction (inl e) later = absurd (cc (eq-eqb direction 0 e, later))
apart_tests direction (inr e) later = eq-eqb direction 1 e

-- what may be read at a direction and number is lawful there
pub lawful_at : (direction number : ℕ) (body : Body) → (direction ≡ 0) ⊎ (direction ≡ 1) → IsBodyAt direction number body → is_lawful direction number body ≡ true
lawful_at direction number (Init class x) two h = init_among (nat_eq number 0) (nat_eq direction 0) h.1
lawful_at direction number Confirm two h = confirm_among (nat_eq number 0) (nat_eq direction 0) (nat_eq direction 1) (apart_tests direction two) h.1
lawful_at direction number (Reject code) two h = reject_among (nat_eq number 0) (nat_eq direction 0) (nat_eq direction 1) (apart_tests direction two) h.1
lawful_at direction number (Data x) two h = data_among (nat_eq number 0) (nat_eq direction 0) h.1
lawful_at direction number (Error code) two h = error_among (nat_eq number 0) (nat_eq direction 0) h.1
lawful_at direction number End two h = end_among (nat_eq number 0) (nat_eq direction 0) h.1

-- an Init stands at the first of all alone
pub no_init_at : (direction number : ℕ) (body : Body) → IsBodyAt direction number body → (nat_eq direction 0 && nat_eq number 0) ≡ false → is_init body ≡ false
no_init_at direction number (Init class x) h later = absurd (cc (init_among (nat_eq number 0) (nat_eq direction 0) h.1, later))
no_init_at direction number other h later = refl

-- and nothing else stands there
pub init_first : (body : Body) → IsBodyAt 0 0 body → is_init body ≡ true
init_first (Init class x) h = refl
init_first Confirm h = absurd (cc h.1)
init_first (Reject code) h = absurd (cc h.1)
init_first (Data x) h = absurd (cc h.1)
init_first (Error code) h = absurd (cc h.1)
init_first End h = absurd (cc h.1)

-- ---- and the other way

among_init : (first outward : Bool) → (outward && first) ≡ true → Among 1 first outward
among_init true true h = refl
among_init false true h = absurd cc
among_init first false h = absurd cc

among_confirm : (first outward inward : Bool) → (inward ≡ true → outward ≡ false) → (inward && first) ≡ true → Among 2 first outward
among_confirm true outward true apart h = rw (apart refl) refl
among_confirm false outward true apart h = absurd cc
among_confirm first outward false apart h = absurd cc

among_reject : (first outward inward : Bool) → (inward ≡ true → outward ≡ false) → (inward && first) ≡ true → Among 3 first outward
among_reject true outward true apart h = rw (apart refl) refl
among_reject false outward true apart h = absurd cc
among_reject first outward false apart h = absurd cc

among_data : (first outward : Bool) → not first ≡ true → Among 4 first outward
among_data true outward h = absurd cc
among_data false outward h = refl

among_error : (first outward : Bool) → not first ≡ true → Among 5 first outward
among_error true outward h = absurd cc
among_error false outward h = refl

among_end : (first outward : Bool) → not first ≡ true → Among 6 first outward
among_end true outward h = absurd cc
among_end false outward h = refl

-- direction 1 is not direction 0
inward_only : (direction : ℕ) → nat_eq direction 1 ≡ true → nat_eq direction 0 ≡ false
inward_only direction is = ne_eqb direction 0 (λ e. absurd (omega (arith, e, eqb-true direction 1 is)))

-- what is lawful at a direction and number may be read there
pub read_at : (direction number : ℕ) (body : Body) → IsBody body → is_lawful direction number body ≡ true → IsBodyAt direction number body
read_at direction number (Init class x) within h = (within, among_init (nat_eq number 0) (nat_eq direction 0) h)
read_at direction number Confirm within h = (within, among_confirm (nat_eq number 0) (nat_eq direction 0) (nat_eq direction 1) (inward_only direction) h)
read_at direction number (Reject code) within h = (within, among_reject (nat_eq number 0) (nat_eq direction 0) (nat_eq direction 1) (inward_only direction) h)
read_at direction number (Data x) within h = (within, among_data (nat_eq number 0) (nat_eq direction 0) h)
read_at direction number (Error code) within h = (within, among_error (nat_eq number 0) (nat_eq direction 0) h)
read_at direction number End within h = (within, among_end (nat_eq number 0) (nat_eq direction 0) h)
