-- Lists in which one place was set, and properties of all of a list.
use Rattle.std.proofs.Common.{◌≡◌, ℕ, zero, suc, ◌⊎◌, inl, inr, ⊎_elim, List, [], ◌∷◌, Some, map, slice_get, slice_set, refl, sym, ap, ◌∙◌}
use Rattle.std.specs.List.{AllByRecursion}
use Rattle.std.proofs.lemmas.Bool.{cases_eq}
use Rattle.net_base.proofs.Lists.{get_there, get_other}
use Rattle.net_base.proofs.Options.{some_eq}

-- what stands in a list of which a place was set
pub in_set : {X : Type 0} (xs : List X) (p : ℕ) (x y : X) (q : ℕ) (z : X) → slice_get xs p ≡ Some x → slice_get (slice_set xs p y) q ≡ Some z → ((q ≡ p) × (z ≡ y)) ⊎ ((q ≡ p → ⊥) × (slice_get xs q ≡ Some z))
in_set {X} xs p x y q z there at = ⊎_elim
    (λ is. inl (is, some_eq (sym at ∙ ap (slice_get (slice_set xs p y)) is ∙ get_there xs p x y there)))
    (λ other. inr (other, sym (get_other xs p y q other) ∙ at))
    (cases_eq q p)

pub set_twice : {X : Type 0} (xs : List X) (p : ℕ) (a b : X) → slice_set (slice_set xs p a) p b ≡ slice_set xs p b
set_twice [] p a b = refl
set_twice (x ∷ xs) zero a b = refl
set_twice (x ∷ xs) (suc p) a b = ap (λ (l : List _). x ∷ l) (set_twice xs p a b)

-- ---- properties of all of a list

pub all_map : {X Y : Type 0} (P : Y → Type 0) (f : X → Y) (xs : List X) → AllByRecursion (λ x. P (f x)) xs → AllByRecursion P (map f xs)
all_map P f [] h = tt
all_map P f (x ∷ xs) h = (h.0, all_map P f xs h.1)
