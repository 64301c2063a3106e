-- The first item that may be taken.
use Rattle.std.proofs.Common.{◌≡◌, ℕ, zero, suc, ◌+◌, ◌<◌, ◌≤◌, true, false, List, [], ◌∷◌, Some, None, refl, ◌∙◌, ap, length, drop, slice_get, arith}
use Rattle.std.proofs.lemmas.List.{drop_all}
use Rattle.net_base.proofs.Lists.{drop_get}
use Rattle.session_wire.specs.declared.body.Body.{Body}
use Rattle.session_wire.specs.Sessions.{first_item, is_confirm}

-- an item that is no Confirm is the first
pub at_item : (came : List Body) (n : ℕ) (x : Body) → slice_get came n ≡ Some x → is_confirm x ≡ false → first_item n (drop n came) ≡ Some (n, x)
at_item came n x e other = ap (first_item n) (drop_get came n x e) ∙ rw other refl

-- a Confirm is passed over
pub at_confirm : (came : List Body) (n : ℕ) (x : Body) → slice_get came n ≡ Some x → is_confirm x ≡ true → first_item n (drop n came) ≡ first_item (n + 1) (drop (n + 1) came)
at_confirm came n x e confirm = ap (first_item n) (drop_get came n x e) ∙ rw confirm (ap (λ (m : ℕ). first_item (n + 1) (drop m came)) (let up : suc n ≡ n + 1 = omega arith in up))

-- behind the last there is none
pub past_all : (came : List Body) (n : ℕ) → length came ≤ n → first_item n (drop n came) ≡ None
past_all came n h = ap (first_item n) (drop_all n came h)

-- an item below the length is there
pub not_past : (came : List Body) (n : ℕ) → n < length came → None ≡ slice_get came n → ⊥
not_past [] n h e = omega (arith, h)
not_past (x ∷ xs) zero h e = cc e
not_past (x ∷ xs) (suc n) h e = not_past xs n (omega (arith, h)) e
