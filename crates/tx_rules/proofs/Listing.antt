-- Sets of the same parties have the same members.
use Rattle.std.proofs.Common.{◌≡◌, ◌<◌, ◌+◌, ℕ, zero, suc, Bool, List, ◌∷◌, if◌then◌else◌, refl, ap, arith}
use Rattle.std.specs.List.{filter, range_with_len}
use Rattle.net_base.specs.declared.parties.PartySet.{PartySet}
use Rattle.net_base.specs.Parties.{has_party, members}

-- tests that agree on numbers choose the same of them
chosen_alike : (f g : ℕ → Bool) (i n : ℕ) → ((p : ℕ) → p < i + n → f p ≡ g p) → filter f (range_with_len i n) ≡ filter g (range_with_len i n)
chosen_alike f g i zero same = refl
chosen_alike f g i (suc n) same =
    let head : f i ≡ g i = same i (omega arith) in
    let rest = chosen_alike f g (i + 1) n (λ p less. same p (omega (arith, less))) in
    rw (head) (ap (λ (l : List ℕ). if g i then i ∷ l else l) rest)

-- a set that has just the parties that a test names lists them
pub lists : (s : PartySet) (test : ℕ → Bool) → ((p : ℕ) → p < 16 → has_party s p ≡ test p) → members s ≡ filter test (range_with_len 0 16)
unfolding members
lists s test same = chosen_alike (λ p. has_party s p) test 0 16 same
