-- Ids and references that are told apart.
use Rattle.std.proofs.Common.{◌≡◌, Bool, true, false, ◌==◌, refl, sym, ◌∙◌, ap}
use Rattle.std.proofs.lemmas.Bool.{and_parts, and_from}
use Rattle.std.proofs.lemmas.Bool.Decides.{Decides-eqb}
use Rattle.std.proofs.lemmas.Slice.Eq.{bytes_eq-Decides}
use Rattle.net_base.specs.declared.values.Hash32.{Hash32}
use Rattle.net_base.specs.declared.names.StateRef.{StateRef}
use Rattle.ledger_types.specs.Names.{hash_eq, ref_eq}

pub hash_same : (a : Hash32) → hash_eq a a ≡ true
hash_same a = (bytes_eq-Decides a.0 a.0).1 refl

pub hash_exact : (a b : Hash32) → hash_eq a b ≡ true → a ≡ b
hash_exact a b h = let e = (bytes_eq-Decides a.0 b.0).0 h in (λ i. record { 0 = e i })

pub ref_same : (r : StateRef) → ref_eq r r ≡ true
ref_same r = and_from _ _ (hash_same r.id) ((Decides-eqb r.index r.index).1 refl)

pub ref_exact : (r s : StateRef) → ref_eq r s ≡ true → r ≡ s
ref_exact r s h =
    let both = and_parts (hash_eq r.id s.id) (r.index == s.index) h in
    let id = hash_exact r.id s.id both.0 in
    let index = (Decides-eqb r.index s.index).0 both.1 in
    (λ i. record { id = id i; index = index i })

-- a test that holds of equal values alone, and of each value and itself, doesn't mind the order
swapped : {X : Type 0} (same : X → X → Bool) → ((x y : X) → same x y ≡ true → x ≡ y) → ((x : X) → same x x ≡ true) → (x y : X) → same x y ≡ same y x
swapped {X} same exact own x y = by (same x y) (same y x) refl refl
  where
    turned : (a b : X) → a ≡ b → same b a ≡ true
    turned a b e = ap (λ z. same z a) (sym e) ∙ own a

    by : (a b : Bool) → same x y ≡ a → same y x ≡ b → same x y ≡ same y x
    by true b e f = e ∙ sym (turned x y (exact x y e))
    by false true e f = turned y x (exact y x f) ∙ sym f
    by false false e f = e ∙ sym f

pub hash_swapped : (a b : Hash32) → hash_eq a b ≡ hash_eq b a
hash_swapped = swapped hash_eq hash_exact hash_same

pub ref_swapped : (r s : StateRef) → ref_eq r s ≡ ref_eq s r
ref_swapped = swapped ref_eq ref_exact ref_same
