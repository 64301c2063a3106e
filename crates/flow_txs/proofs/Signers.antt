-- Parties, and who is in the sets of signers.
use Rattle.std.specs.Prelude.{◌≡◌, ◌/◌, ◌%◌, ◌<◌, ◌^◌, max, true, refl}
use Rattle.std.specs.Int.{bit_at}
use Rattle.std.proofs.Common.{arith, ◌∙◌}
use Rattle.std.proofs.Math.Nat.{div_self, mod-eq_of_lt}
use Rattle.std.proofs.lemmas.Bool.{eqb-true, eq-eqb}
use Rattle.std.proofs.lemmas.Nat.{pow_pos, pow_below}
use Rattle.std.proofs.lemmas.Nat.Bits.{bit_at_or, bit_at-lt}
use Rattle.net_base.specs.declared.values.Party.{Party}
use Rattle.net_base.specs.Parties.{has_party}
use Rattle.ledger_types.specs.Names.{party_eq}
use Rattle.flow_txs.specs.Making.{alone, both}

-- the same party by its number
pub same_party : (p q : Party) → party_eq p q ≡ true → p ≡ q
same_party p q h = let e = eqb-true p.0 q.0 h in (λ i. record { 0 = e i })

-- the bit of a party that is alone
alone_bit : (me : Party) → me.0 < 16 → bit_at (alone me).0 me.0 ≡ 1
alone_bit me is =
    let small : 2 ^ me.0 % 2 ^ 16 ≡ 2 ^ me.0 = mod-eq_of_lt (pow_below me.0 16 is) in
    let one : 2 ^ me.0 / 2 ^ me.0 ≡ 1 = div_self (pow_pos me.0) in
    rw (small, one) refl

-- a party alone is in the set of it
pub alone_has : (me : Party) → me.0 < 16 → has_party (alone me) me.0 ≡ true
alone_has me is = eq-eqb (bit_at (alone me).0 me.0) 1 (alone_bit me is)

-- each of two parties is in the set of them
pub both_have_first : (one other : Party) → one.0 < 16 → has_party (both one other) one.0 ≡ true
both_have_first one other is =
    let larger : max (bit_at (alone one).0 one.0) (bit_at (alone other).0 one.0) ≡ 1 = omega (arith, alone_bit one is, bit_at-lt (alone other).0 one.0) in
    eq-eqb (bit_at (both one other).0 one.0) 1 (bit_at_or (alone one).0 (alone other).0 one.0 ∙ larger)

pub both_have_second : (one other : Party) → other.0 < 16 → has_party (both one other) other.0 ≡ true
both_have_second one other is =
    let larger : max (bit_at (alone one).0 other.0) (bit_at (alone other).0 other.0) ≡ 1 = omega (arith, alone_bit other is, bit_at-lt (alone one).0 other.0) in
    eq-eqb (bit_at (both one other).0 other.0) 1 (bit_at_or (alone one).0 (alone other).0 other.0 ∙ larger)
