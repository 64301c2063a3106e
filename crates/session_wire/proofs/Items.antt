-- Items that may stand behind the first, and the first that is no Confirm.
use Rattle.std.proofs.Common.{◌≡◌, ℕ, zero, suc, ◌+◌, ◌<◌, ◌≤◌, ◌⊎◌, ⊎_elim, inl, inr, true, false, ◌==◌, List, [], ◌∷◌, Some, refl, ap, cond, drop, length, arith}
use Rattle.net_base.proofs.Options.{some_eq}
use Rattle.ledger_types.specs.declared.value.Value.{Value}
use Rattle.session_wire.specs.declared.body.Body.{Body}
use Rattle.session_wire.specs.declared.body.Body.TheVariants as body_of
use Rattle.session_wire.specs.Sessions.{Session, first_item, is_confirm}
use Rattle.session_wire.specs.Rules.{is_lawful}

-- a body that is lawful at each number but the first
abbrev pub IsLate : Body → Type 0
IsLate body = (d n : ℕ) → (n == 0) ≡ false → is_lawful d n body ≡ true

pub late_data : (v : Value) → IsLate (body_of.Data v)
late_data v d n h = rw h refl

pub late_error : (code : ℕ) → IsLate (body_of.Error code)
late_error code d n h = rw h refl

pub late_end : IsLate body_of.End
late_end d n h = rw h refl

-- the number of a found item
pub first_between : (n : ℕ) (bodies : List Body) (found : ℕ × Body) → first_item n bodies ≡ Some found → (n ≤ found.0) × (found.0 < n + length bodies)
first_between n [] found h = cc
first_between n (body ∷ bodies) found h =
    (elim (is_confirm body) as (λ b. cond b (first_item (n + 1) bodies) (Some (n, body)) ≡ Some found → (n ≤ found.0) × (found.0 < n + length (body ∷ bodies))) [
      | true ↦ λ k. let p = first_between (n + 1) bodies found k in let q = p.0 in let r = p.1 in (omega arith, omega arith)
      | false ↦ λ k. let e : n ≡ found.0 = ap (λ (x : ℕ × Body). x.0) (some_eq k) in (omega arith, omega arith)
    ]) h

length_dropped : {X : Type 0} (n : ℕ) (xs : List X) → (n + length (drop n xs) ≤ length xs) ⊎ (drop n xs ≡ [])
length_dropped zero xs = inl (omega arith)
length_dropped (suc n) [] = inr refl
length_dropped (suc n) (x ∷ xs) = ⊎_elim (λ k. inl (omega arith)) (λ k. inr k) (length_dropped n xs)

-- an item that is there is past those that were taken, and arrived
pub found_between : (s : Session) (found : ℕ × Body) → first_item s.taken (drop s.taken s.came) ≡ Some found → (s.taken ≤ found.0) × (found.0 < length s.came)
found_between s found h =
    let p = first_between s.taken (drop s.taken s.came) found h in let q = p.0 in let r = p.1 in
    ⊎_elim (λ k. (q, omega arith)) (λ k. let z : first_item s.taken [] ≡ Some found = rw k at h in cc) (length_dropped s.taken s.came)
