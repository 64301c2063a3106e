-- Keys of sessions that are told apart.
use Rattle.std.proofs.Common.{◌≡◌, ℕ, true, false, refl, subst, ◌∙◌, ap, eqb-true, eq-eqb}
use Rattle.std.proofs.lemmas.Bool.{and_parts, and_from, both_ways, false_from_ne_true}
use Rattle.net_base.specs.declared.names.Key.{Key}
use Rattle.session_wire.specs.Sessions.{key_eq}

pub key_exact : (a b : Key) → key_eq a b ≡ true → a ≡ b
key_exact a b h =
    let k = and_parts _ _ h in
    let e = eqb-true a.initiator.0 b.initiator.0 k.0 in
    let f = eqb-true a.number b.number k.1 in
    ap (λ (n : ℕ). record { initiator = record { 0 = n }; number = a.number }) e ∙ ap (λ (n : ℕ). record { initiator = b.initiator; number = n }) f

pub key_same : (a : Key) → key_eq a a ≡ true
key_same a = and_from _ _ (eq-eqb a.initiator.0 a.initiator.0 refl) (eq-eqb a.number a.number refl)

pub key_turned : (a b : Key) → key_eq a b ≡ false → key_eq b a ≡ false
key_turned a b h = false_from_ne_true _ (λ k. both_ways (key_eq a b) h (subst (λ (c : Key). key_eq c b ≡ true) (key_exact b a k) (key_same b)))
