-- Small facts on options and lists.
use Rattle.std.proofs.Common.{◌≡◌, ℕ, zero, suc, ◌⊎◌, inl, inr, List, [], ◌∷◌, ◌++◌, Option, Some, None, Bool, true, false, cond, find, option_map, option_and_then, replicate, slice_get, slice_set, refl, ap, subst}
use Rattle.std.specs.Prelude.{option_to_list}
use Rattle.std.proofs.lemmas.Option.{option_and_then_some}
use Rattle.net_base.specs.declared.causes.Cause.{Cause}
use Rattle.net_base.specs.declared.causes.Event.{Event}
use Rattle.net_base.specs.declared.causes.Event.TheVariants as event
use Rattle.net_base.proofs.Options.{some_eq}
use Rattle.net_model.specs.State.{NodeState, Effect, sessions_on, apply_effect}
use Rattle.net_model.specs.Runs.{accepts, item_for}

pub from_some : {A : Type 0} (P : A → Type 0) {a b : A} → Some a ≡ Some b → P a → P b
from_some P h p = subst P (some_eq h) p

-- what a mapped option gives
pub from_map : {A B : Type 0} (P : B → Type 0) (f : A → B) (o : Option A) (b : B) → option_map f o ≡ Some b → ((a : A) → o ≡ Some a → P (f a)) → P b
from_map P f None b h p = cc
from_map P f (Some a) b h p = from_some P h (p a refl)

-- what an option gives that goes on from another
pub from_then : {A B : Type 0} (P : Type 0) (f : A → Option B) (o : Option A) (b : B) → option_and_then f o ≡ Some b → ((a : A) → o ≡ Some a → f a ≡ Some b → P) → P
from_then P f o b h p = option_and_then_some f o b h p

-- what an option gives that stands under a test
pub from_cond : {A : Type 0} (P : Type 0) (t : Bool) (o : Option A) (a : A) → cond t o None ≡ Some a → (t ≡ true → o ≡ Some a → P) → P
from_cond P true o a h p = p refl h
from_cond P false o a h p = cc

pub find_before : {A : Type 0} (test : A → Bool) (xs ys : List A) (a : A) → find test xs ≡ Some a → find test (xs ++ ys) ≡ Some a
find_before test [] ys a h = cc
find_before {A} test (x ∷ xs) ys a h =
    (elim (test x) as (λ b. cond b (Some x) (find test xs) ≡ Some a → cond b (Some x) (find test (xs ++ ys)) ≡ Some a) [ true ↦ λ k. k | false ↦ λ k. find_before test xs ys a k ]) h

-- the last element is found only where none before it is
pub find_last : {A : Type 0} (test : A → Bool) (xs : List A) (y a : A) → find test (xs ++ y ∷ []) ≡ Some a → (find test xs ≡ Some a) ⊎ (y ≡ a)
find_last test [] y a h = (elim (test y) as (λ b. cond b (Some y) None ≡ Some a → (None ≡ Some a) ⊎ (y ≡ a)) [ true ↦ λ k. inr (some_eq k) | false ↦ λ k. inl k ]) h
find_last {A} test (x ∷ xs) y a h =
    (elim (test x) as (λ b. cond b (Some x) (find test (xs ++ y ∷ [])) ≡ Some a → (cond b (Some x) (find test xs) ≡ Some a) ⊎ (y ≡ a)) [ true ↦ λ k. inl k | false ↦ λ k. find_last test xs y a k ]) h

pub get_before : {A : Type 0} (xs ys : List A) (n : ℕ) (a : A) → slice_get xs n ≡ Some a → slice_get (xs ++ ys) n ≡ Some a
get_before [] ys n a h = cc
get_before (x ∷ xs) ys zero a h = h
get_before (x ∷ xs) ys (suc n) a h = get_before xs ys n a h

pub get_last : {A : Type 0} (xs : List A) (y : A) (n : ℕ) (a : A) → slice_get (xs ++ y ∷ []) n ≡ Some a → (slice_get xs n ≡ Some a) ⊎ (y ≡ a)
get_last [] y zero a h = inr (some_eq h)
get_last [] y (suc n) a h = cc
get_last (x ∷ xs) y zero a h = inl h
get_last (x ∷ xs) y (suc n) a h = get_last xs y n a h

-- what stands at q after a write at p
pub get_set : {A : Type 0} (xs : List A) (p : ℕ) (x y : A) (q : ℕ) → slice_get xs p ≡ Some x → ((q ≡ p) × (slice_get (slice_set xs p y) q ≡ Some y)) ⊎ (slice_get (slice_set xs p y) q ≡ slice_get xs q)
get_set [] p x y q h = cc
get_set (z ∷ xs) zero x y zero h = inl (refl, refl)
get_set (z ∷ xs) zero x y (suc q) h = inr refl
get_set (z ∷ xs) (suc p) x y zero h = inr refl
get_set (z ∷ xs) (suc p) x y (suc q) h = (elim (get_set xs p x y q h) as (λ _. ((suc q ≡ suc p) × (slice_get (slice_set xs p y) q ≡ Some y)) ⊎ (slice_get (slice_set xs p y) q ≡ slice_get xs q)) [ inl k ↦ inl (ap suc k.0, k.1) | inr k ↦ inr k ])

pub list_ext : {A : Type 0} (xs ys : List A) → ((n : ℕ) → slice_get xs n ≡ slice_get ys n) → xs ≡ ys
list_ext [] [] h = refl
list_ext [] (y ∷ ys) h = let e = h 0 in cc
list_ext (x ∷ xs) [] h = let e = h 0 in cc
list_ext (x ∷ xs) (y ∷ ys) h = let e : x ≡ y = some_eq (h 0) in let f = list_ext xs ys (λ n. h (suc n)) in cc

-- what stands in a list of one element
pub fresh_get : {A : Type 0} (n q : ℕ) (x y : A) → slice_get (replicate n x) q ≡ Some y → x ≡ y
fresh_get zero q x y h = cc
fresh_get (suc n) zero x y h = some_eq h
fresh_get (suc n) (suc q) x y h = fresh_get n q x y h

-- ---- what an effect makes of the parts of a state

pub apply_entries : {F : Type 0} (s : NodeState F) (cause : Cause) (e : Effect F) → (apply_effect s cause e).entries ≡ s.entries ++ option_to_list e.change.booked
unfolding apply_effect
apply_entries s cause e = refl

pub apply_sessions : {F : Type 0} (s : NodeState F) (cause : Cause) (e : Effect F) → (apply_effect s cause e).sessions ≡ sessions_on cause e s.sessions
unfolding apply_effect
apply_sessions s cause e = refl

pub apply_stamp : {F : Type 0} (s : NodeState F) (cause : Cause) (e : Effect F) → (apply_effect s cause e).stamp ≡ cause.stamp
unfolding apply_effect
apply_stamp s cause e = refl

-- an event that accepts no item has none
pub no_item : {F : Type 0} (net : List (NodeState F)) (p : ℕ) (s : NodeState F) (ev : Event) → accepts ev ≡ false → item_for net p s ev ≡ None
no_item net p s (event.Answer key) a = cc
no_item net p s (event.Arrive key direction number) a = cc
no_item net p s (event.Start f class args) a = refl
no_item net p s (event.Move f) a = refl
no_item net p s (event.Lapse f) a = refl
