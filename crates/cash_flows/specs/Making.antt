-- What the transactions of these flows are made of.
use Rattle.std.specs.Prelude.{ℕ, ◌-◌, ◌^◌, List, [], ◌∷◌, min, nat_lt, sum_by, if◌then◌else◌}
use Rattle.net_base.specs.declared.values.Party.{Party}
use Rattle.net_base.specs.declared.names.Token.{Token}
use Rattle.ledger_types.specs.declared.state.StateData.TheVariants.{Cash}
use Rattle.ledger_types.specs.declared.state.TxState.{TxState}
use Rattle.ledger_types.specs.declared.held.Held.{Held}
use Rattle.ledger_types.specs.Vaults.{cash_amount}
use Rattle.flow_machine.specs.declared.acts.Place.{Place}
use Rattle.flow_txs.specs.declared.words.Code.{Code}
use Rattle.flow_txs.specs.Making.{plain}

-- this party's own token of a code
abbrev pub own : Place → Code → Token
own here code = record { issuer = here.me; code = code.0 }

-- cash under the network's notary, without an encumbrance
abbrev pub cash : Place → Token → ℕ → Party → TxState
cash here token amount owner = plain here (Cash token amount owner)

-- the sum of coins
abbrev pub worth : List Held → ℕ
worth coins = sum_by (λ h. cash_amount h.state.body) coins

-- what is left of a sum, at most the greatest amount
abbrev pub left_of : ℕ → ℕ → ℕ
left_of sum amount = min (sum - amount) (2 ^ 64 - 1)

-- the rest for this party, where the sum is greater than the amount
abbrev pub rest_of : Place → Token → ℕ → ℕ → List TxState
rest_of here token amount sum = if nat_lt amount sum then cash here token (left_of sum amount) here.me ∷ [] else []
