-- A payment keeps value.
use Rattle.std.specs.Prelude.{◌≡◌, ℕ, ◌+◌, ◌<◌, ◌≤◌, ◌^◌, nat_lt, [], ◌∷◌, sum_by, Bool, true, false, refl, if◌then◌else◌}
use Rattle.std.proofs.Common.{arith}
use Rattle.std.proofs.lemmas.Bool.{ltb-true, ltb-false}
use Rattle.net_base.specs.declared.names.Token.{Token}
use Rattle.net_base.specs.declared.values.Party.{Party}
use Rattle.ledger_types.specs.Vaults.{cash_amount}
use Rattle.flow_machine.specs.declared.acts.Place.{Place}
use Rattle.cash_flows.specs.Making.{cash, left_of, worth}
use Rattle.cash_flows.specs.Conserved.{PaysInFull}

rest_adds : (here : Place) (t : Token) (to : Party) (amount sum : ℕ) (test : Bool) → nat_lt amount sum ≡ test → amount ≤ sum → sum < amount + 2 ^ 64
    → sum_by (λ s. cash_amount s.body) (cash here t amount to ∷ (if test then cash here t (left_of sum amount) here.me ∷ [] else [])) ≡ sum
rest_adds here t to amount sum true is le lt = omega (arith, ltb-true amount sum is, le, lt)
rest_adds here t to amount sum false is le lt = omega (arith, ltb-false amount sum is, le)

pub pays_in_full : PaysInFull
pays_in_full p coins here le lt = rest_adds here p.token p.to p.amount (worth coins) (nat_lt p.amount (worth coins)) refl le lt
