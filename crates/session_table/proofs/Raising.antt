-- Raising how many items are acknowledged.
use Rattle.std.proofs.Common.{◌≡◌, ℕ, ◌==◌, ◌&&◌, Bool, true, false, List, [], ◌∷◌, Option, Some, None, refl, sym, ◌∙◌, ap, subst, cond, map, max}
use Rattle.std.specs.List.{IsDistinct, AllByRecursion}
use Rattle.std.specs.Map.{lookup, set_value, keys_of}
use Rattle.net_base.specs.declared.names.Key.{Key}
use Rattle.net_base.specs.declared.values.Party.{Party}
use Rattle.session_wire.specs.declared.body.Body.{Body}
use Rattle.session_wire.specs.Sessions.{key_eq}
use Rattle.session_wire.specs.Rules.{direction_out}
use Rattle.session_wire.proofs.Keys.{key_exact}
use Rattle.session_table.specs.Kept.{session_at, acked_to, Rewrites}
use Rattle.session_table.specs.Tables.{raised}
use Rattle.session_table.specs.declared.standing.Standing.{Standing}
use Rattle.session_table.specs.declared.standing.Place.{Place}
use Rattle.session_table.specs.declared.standing.Posted.{Posted}
use Rattle.session_table.proofs.Written.{map_set}

module _ (sent : List (Place × Posted)) (came : List (Place × Body)) (me : Party) (k : Key) (direction upto : ℕ) where
  -- the test fails at sessions of other keys, and everywhere in the other direction
  pub raised_none : (lines : List (Key × Standing)) → AllByRecursion (λ q. (key_eq k q && (direction == direction_out me k)) ≡ false) (keys_of lines) → raised me k direction upto (map (session_at sent came) lines) (map (λ e. e.1.acked) lines) ≡ map (λ e. e.1.acked) lines
  raised_none [] h = refl
  raised_none (e ∷ es) h = let here = h.0 in let rest = raised_none es h.1 in rw here (ap (λ (l : List ℕ). e.1.acked ∷ l) rest)

  other_direction : (lines : List (Key × Standing)) → (direction == direction_out me k) ≡ false → AllByRecursion (λ q. (key_eq k q && (direction == direction_out me k)) ≡ false) (keys_of lines)
  other_direction [] h = tt
  other_direction (e ∷ es) h = (rw h (by (key_eq k e.0)), other_direction es h)
    where
      by : (b : Bool) → (b && false) ≡ false
      by true = refl
      by false = refl

  pub raised_apart : (lines : List (Key × Standing)) → (direction == direction_out me k) ≡ false → raised me k direction upto (map (session_at sent came) lines) (map (λ e. e.1.acked) lines) ≡ map (λ e. e.1.acked) lines
  raised_apart lines h = raised_none lines (other_direction lines h)

  lost_all : (lines : List (Key × Standing)) → None ≡ lookup (key_eq k) lines → AllByRecursion (λ q. (key_eq k q && (direction == direction_out me k)) ≡ false) (keys_of lines)
  lost_all [] h = tt
  lost_all (e ∷ es) h = by (key_eq k e.0) refl (λ rest. lost_all es rest)
    where
      by : (b : Bool) → key_eq k e.0 ≡ b → (None ≡ lookup (key_eq k) es → AllByRecursion (λ q. (key_eq k q && (direction == direction_out me k)) ≡ false) (keys_of es)) → AllByRecursion (λ q. (key_eq k q && (direction == direction_out me k)) ≡ false) (keys_of (e ∷ es))
      by true is rest = absurd (let e : None ≡ Some e.1 = rw is at h in cc e)
      by false is rest = (rw is refl, rest (rw is at h))

  pub raised_lost : (lines : List (Key × Standing)) → None ≡ lookup (key_eq k) lines → raised me k direction upto (map (session_at sent came) lines) (map (λ e. e.1.acked) lines) ≡ map (λ e. e.1.acked) lines
  raised_lost lines h = raised_none lines (lost_all lines h)

  apart_all : (lines : List (Key × Standing)) → AllByRecursion (λ q. key_eq k q ≡ false) (keys_of lines) → AllByRecursion (λ q. (key_eq k q && (direction == direction_out me k)) ≡ false) (keys_of lines)
  apart_all [] h = tt
  apart_all (e ∷ es) h = (let is : key_eq k e.0 ≡ false = h.0 in rw is refl, apart_all es h.1)

  pub raised_set : (lines : List (Key × Standing)) (v : Standing) → (direction == direction_out me k) ≡ true → IsDistinct key_eq (keys_of lines) → Some v ≡ lookup (key_eq k) lines → map (λ e. e.1.acked) (set_value (key_eq k) lines (acked_to upto v)) ≡ raised me k direction upto (map (session_at sent came) lines) (map (λ e. e.1.acked) lines)
  unfolding IsDistinct
  raised_set [] v out distinct there = refl
  raised_set (e ∷ es) v out distinct there = by (key_eq k e.0) refl (λ here. raised_set es v out distinct.1 here)
    where
      by : (b : Bool) → key_eq k e.0 ≡ b → (Some v ≡ lookup (key_eq k) es → map (λ e. e.1.acked) (set_value (key_eq k) es (acked_to upto v)) ≡ raised me k direction upto (map (session_at sent came) es) (map (λ e. e.1.acked) es)) → map (λ e. e.1.acked) (cond (key_eq k e.0) ((e.0, acked_to upto v) ∷ es) (e ∷ set_value (key_eq k) es (acked_to upto v))) ≡ raised me k direction upto (map (session_at sent came) (e ∷ es)) (map (λ e. e.1.acked) (e ∷ es))
      by true is rest =
          let one : Some v ≡ Some e.1 = rw is at there in
          let at : v ≡ e.1 = cc one in
          let apart : AllByRecursion (λ q. key_eq k q ≡ false) (keys_of es) = subst (λ (x : Key). AllByRecursion (λ q. key_eq x q ≡ false) (keys_of es)) (sym (key_exact k e.0 is)) distinct.0 in
          let tail = raised_none es (apart_all es apart) in
          rw is (rw out (λ i. max (at i).acked upto ∷ sym tail i))
      by false is rest = rw is (ap (λ (l : List ℕ). e.1.acked ∷ l) (rest (rw is at there)))

  -- how many are acknowledged after a change of the line
  pub raised_after : (lines after : List (Key × Standing)) → (direction == direction_out me k) ≡ true → Rewrites k (acked_to upto) lines after → map (λ e. e.1.acked) after ≡ raised me k direction upto (map (session_at sent came) lines) (map (λ e. e.1.acked) lines)
  raised_after lines after out rewrites = by (lookup (key_eq k) lines) refl
    where
      by : (o : Option Standing) → lookup (key_eq k) lines ≡ o → map (λ e. e.1.acked) after ≡ raised me k direction upto (map (session_at sent came) lines) (map (λ e. e.1.acked) lines)
      by None is = ap (map (λ e. e.1.acked)) (rewrites.lost (sym is)) ∙ sym (raised_lost lines (sym is))
      by (Some v) is = ap (map (λ e. e.1.acked)) (rewrites.found v (sym is)) ∙ raised_set lines v out rewrites.unique (sym is)

  -- which changes no session
  pub listed_after : (lines after : List (Key × Standing)) → Rewrites k (acked_to upto) lines after → map (session_at sent came) after ≡ map (session_at sent came) lines
  listed_after lines after rewrites = by (lookup (key_eq k) lines) refl
    where
      by : (o : Option Standing) → lookup (key_eq k) lines ≡ o → map (session_at sent came) after ≡ map (session_at sent came) lines
      by None is = ap (map (session_at sent came)) (rewrites.lost (sym is))
      by (Some v) is = ap (map (session_at sent came)) (rewrites.found v (sym is)) ∙ map_set (session_at sent came) k lines v (acked_to upto v) is (λ q. refl)
