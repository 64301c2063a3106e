-- The contract of cash accepts a spend, as a payment of one coin that leaves no rest.
use Rattle.std.specs.Prelude.{◌≡◌, ℕ, nat_lt, [], ◌∷◌, Some, None, false, Bool, if◌then◌else◌}
use Rattle.std.proofs.Common.{arith, ap, subst, ◌∙◌}
use Rattle.std.proofs.lemmas.Bool.{le-ltb}
use Rattle.std.proofs.lemmas.List.Sums.{sum_by-cons}
use Rattle.net_base.specs.declared.names.Token.{Token}
use Rattle.net_base.specs.declared.values.Party.{Party}
use Rattle.ledger_types.specs.declared.held.Held.{Held}
use Rattle.ledger_types.specs.declared.state.StateData.{StateData}
use Rattle.ledger_types.specs.declared.state.StateData.TheVariants.{Cash}
use Rattle.ledger_types.specs.declared.tx.Deed.TheVariants.{CashMove}
use Rattle.ledger_types.specs.declared.tx.Tx.{Tx}
use Rattle.ledger_types.specs.Names.{party_eq}
use Rattle.ledger_types.specs.Vaults.{cash_amount}
use Rattle.cash_contract.specs.Clauses.{cash_says}
use Rattle.flow_machine.specs.declared.acts.Place.{Place}
use Rattle.flow_forms.specs.Ways.{if_some}
use Rattle.flow_txs.specs.Finding.{said_freely}
use Rattle.flow_txs.specs.FindingLaws.{taken_of, freely_says}
use Rattle.flow_txs.specs.Making.{alone, made}
use Rattle.flow_txs.proofs.Signers.{same_party}
use Rattle.cash_flows.specs.declared.pay.Pay.{Pay}
use Rattle.cash_flows.specs.declared.spend.Spend.{Spend}
use Rattle.cash_flows.specs.Making.{cash, left_of, worth}
use Rattle.cash_flows.specs.Spend.{own_coin}
use Rattle.cash_flows.specs.SpendAccepted.{SpendIsAccepted}
use Rattle.cash_flows.proofs.Accepting.{accepted_by_cash}

-- a coin of the party's own is cash
coin_is : (me : Party) (body : StateData) (coin : Token × ℕ) → own_coin me body ≡ Some coin → body ≡ Cash coin.0 coin.1 me
coin_is me (Cash token amount owner) coin e =
    let is = if_some (party_eq owner me) e in
    let mine = same_party owner me is.0 in
    let same : (token, amount) ≡ coin = is.1 in
    (λ i. Cash (same i).0 (same i).1 (mine i))
coin_is me other coin e = absurd cc

-- the payment of the one coin
abbrev paid : Spend → Token × ℕ → Pay
paid s coin = record { to = s.to; token = coin.0; amount = coin.1; window = None; reference = None; id = None }

abbrev outputs_by : Spend → Token × ℕ → ℕ → Place → Bool → Tx
outputs_by s coin sum here more = made (s.reference ∷ []) (cash here coin.0 coin.1 s.to ∷ (if more then cash here coin.0 (left_of sum coin.1) here.me ∷ [] else [])) CashMove (alone here.me) here

pub spend_is_accepted : SpendIsAccepted
spend_is_accepted s found coin here me is some small =
    let held : Held = record { reference = s.reference; state = found; locked = None } in
    let said = taken_of (own_coin here.me) (said_freely found) coin is in
    let body : found.body ≡ Cash coin.0 coin.1 here.me = freely_says found said.0 said.1.0 ∙ coin_is here.me said.0 coin said.1.1 in
    let one : cash_amount found.body ≡ coin.1 = ap cash_amount body in
    let all : worth (held ∷ []) ≡ coin.1 = omega (arith, sum_by-cons (λ (x : Held). cash_amount x.state.body) held [], one) in
    let pays = accepted_by_cash (paid s coin) (held ∷ []) here [] me ((coin.1, body), tt) some (omega (arith, all)) (omega (arith, all)) in
    let none : nat_lt coin.1 (worth (held ∷ [])) ≡ false = le-ltb coin.1 (worth (held ∷ [])) (omega (arith, all)) in
    subst (λ (more : Bool). cash_says (outputs_by s coin (worth (held ∷ [])) here more) (record { inputs = found ∷ []; references = [] }) ≡ None) none pays
