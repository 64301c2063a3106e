-- A made load: payments between parties, by the words of PCG32 (O'Neill, "PCG: a family of simple fast space-efficient
-- statistically good algorithms for random number generation") from a seed.
use Rattle.std.specs.Prelude.{ℕ, zero, suc, ◌+◌, ◌-◌, ◌%◌, nat_lt, List, [], ◌∷◌, ◌++◌, if◌then◌else◌}
use Rattle.rand_core.specs.Pcg32Seed.{pcg32_seed}
use Rattle.rand_pcg.specs.Lcg.{Lcg}
use Rattle.rand_pcg.specs.Pcg.{pcg32, pcg32_of_seed}
use Rattle.load_maker.specs.declared.maker.Payment.{Payment}

-- what is left of a load: the generator of its words, and how many parties pay
pub record Load : Type 0 where
  pub words : Lcg
  pub parties : ℕ

-- a load from its beginning: the generator that the seed gives
abbrev pub load_of : ℕ → ℕ → Load
load_of seed parties = record { words = pcg32_of_seed (pcg32_seed 16 seed); parties = parties }

-- the rest of the next word by this number
abbrev pub rest_of : ℕ → Lcg → ℕ
rest_of bound words = (pcg32 words).0 % bound

-- the generator after a word
abbrev pub next_words : Lcg → Lcg
next_words words = (pcg32 words).1

-- the party at this place among all but one
abbrev pub beside : ℕ → ℕ → ℕ
beside one place = if nat_lt place one then place else place + 1

-- the payment that is drawn next: by its first word who pays, by its second which of the others is paid, by its third how much
abbrev pub payment_drawn : Load → Payment
payment_drawn l =
    let first = l.words in
    let second = next_words first in
    let third = next_words second in
    let from = rest_of l.parties first in
    record { from = from; to = beside from (rest_of (l.parties - 1) second); amount = rest_of 1000 third + 1 }

-- the load after a payment: three words were taken
abbrev pub after_payment : Load → Load
after_payment l = record l { words = next_words (next_words (next_words l.words)) }

-- the load after this number of payments
abbrev pub after_payments : ℕ → Load → Load
after_payments zero l = l
after_payments (suc n) l = after_payment (after_payments n l)

-- the first n payments of a load
abbrev pub payments : ℕ → Load → List Payment
payments zero l = []
payments (suc n) l = payments n l ++ payment_drawn (after_payments n l) ∷ []
