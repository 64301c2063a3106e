-- The spend, class 8: it gives cash of this party that its words name to another node of the network by one transaction, and returns its id.
use Rattle.std.specs.Prelude.{ℕ, List, [], ◌∷◌, Option, Some, None, option_and_then, if◌then◌else◌, refl}
use Rattle.net_base.specs.declared.names.Token.{Token}
use Rattle.net_base.specs.declared.values.Hash32.{Hash32}
use Rattle.ledger_types.specs.declared.state.StateData.{StateData}
use Rattle.ledger_types.specs.declared.state.StateData.TheVariants.{Cash}
use Rattle.ledger_types.specs.declared.state.TxState.{TxState}
use Rattle.ledger_types.specs.declared.tx.Deed.TheVariants.{CashMove}
use Rattle.ledger_types.specs.declared.tx.Tx.{Tx}
use Rattle.ledger_types.specs.Names.{party_eq}
use Rattle.flow_machine.specs.declared.acts.Act.TheVariants as act
use Rattle.flow_machine.specs.declared.acts.Resumed.TheVariants as resumed
use Rattle.flow_forms.specs.declared.arguments.End.{End}
use Rattle.flow_forms.specs.declared.arguments.Then.{Then}
use Rattle.flow_forms.specs.declared.calls.Call.TheVariants as call
use Rattle.flow_forms.specs.declared.forms.Goes.{Goes}
use Rattle.flow_forms.specs.declared.forms.Goes.TheVariants.{On, Stops}
use Rattle.flow_forms.specs.Usual.{Place, Resumed, Party, Form, unnamed, Numbers, Kept, kept_as, before, option_field, party_field, is_peer}
use Rattle.flow_txs.specs.declared.words.TxId.{TxId}
use Rattle.flow_txs.specs.Concluding.{concluded}
use Rattle.flow_txs.specs.Finding.{free_output}
use Rattle.flow_txs.specs.Kinds.{hash_field, reference_field}
use Rattle.flow_txs.specs.Making.{alone, made}
use Rattle.cash_flows.specs.declared.spend.Spend.{Spend}
use Rattle.cash_flows.specs.declared.spend.SpendPlace.{SpendPlace}
use Rattle.cash_flows.specs.declared.spend.SpendPlace.TheVariants.{LookingUp, Spending}
use Rattle.cash_flows.specs.Making.{cash}

-- ---- its transaction

-- the token and the amount of cash that the party owns
abbrev pub own_coin : Party → StateData → Option (Token × ℕ)
own_coin me (Cash token amount owner) = if party_eq owner me then Some (token, amount) else None
own_coin me other = None

-- those of the output at a place, where there is one, it has no encumbrance and is cash that the party owns
abbrev pub coin_at : Party → List TxState → ℕ → Option (Token × ℕ)
coin_at me outputs index = option_and_then (own_coin me) (free_output outputs index)

-- The handing over of a coin: it is the input; the same amount is for the other party, and this one signs the move.
abbrev pub handover : Spend → Token × ℕ → Place → Tx
handover s coin here = made (s.reference ∷ []) (cash here coin.0 coin.1 s.to ∷ []) CashMove (alone here.me) here

-- ---- how it begins

-- the arguments, in the order of their words: the id, the place of the output, and the party
abbrev pub SpendArgs : Type 0
SpendArgs = Then TxId (Then ℕ (Then ℕ End))

-- the fields that its arguments give
abbrev pub fields_of : SpendArgs → Spend
fields_of a = record { reference = record { id = a.first.0; index = a.rest.first }; to = record { 0 = a.rest.rest.first }; id = None }

-- the fields that it begins with, where the party is that of another node
abbrev pub begins : SpendArgs → Place → Option Spend
begins a here = if is_peer a.rest.rest.first here then Some (fields_of a) else None

-- ---- how it goes on

-- it looks for the transaction; nothing is reserved
abbrev pub looks_up : Spend → Goes SpendPlace Spend
looks_up s = On LookingUp s (act.Lookup s.reference.id)

-- it has the handing over of the coin made final and shown to the other party; 55 where there is no coin
abbrev pub spends : Spend → Option (Token × ℕ) → Place → Goes SpendPlace Spend
spends s None here = Stops s 55
spends s (Some coin) here = On Spending s (act.Sub (call.Finality (handover s coin here) (s.to ∷ [])))

-- 1, Lookup: the coin that was found is spent, and no transaction is 55
abbrev pub looked_up : Spend → Resumed → Place → Goes SpendPlace Spend
looked_up s (resumed.Found stx) here = spends s (coin_at here.me stx.tx.outputs s.reference.index) here
looked_up s resumed.Absent here = Stops s 55
looked_up s other here = unnamed s other

-- its fields with the id of its transaction
abbrev pub with_id : Spend → Hash32 → Spend
with_id s x = record s { id = Some x }

-- how it goes on by where it waits; the id of its transaction is returned
abbrev pub moves : SpendPlace → Spend → Resumed → Place → Goes SpendPlace Spend
moves LookingUp s with here = looked_up s with here
moves Spending s with here = concluded with_id s with

-- the weight of a frame: finality with one peer, and what comes after it
abbrev pub weight : SpendPlace → Spend → ℕ
weight LookingUp s = 4873
weight Spending s = 1

-- what the machine is; its fields have no tag
abbrev pub form : Form SpendPlace Spend
form = record { starts = λ s here. looks_up s; moves = moves; weight = weight; called = λ s. 4874; tags = λ s. [] }

-- ---- its bytes

-- its fields: the reference, the other party, and the transaction's id once it is final; at most 70 bytes, so that a frame has at most 72
abbrev pub kept : Kept Spend
kept = kept_as (before reference_field (before party_field (option_field hash_field))) (λ p. record { reference = p.0; to = p.1.0; id = p.1.1 }) (λ s. (s.reference, (s.to, s.id))) (λ _. refl) (λ _. refl) refl

-- its places: 1 Lookup, 2 finality, 3 Return
abbrev pub numbers : Numbers SpendPlace
numbers = record { all = LookingUp ∷ Spending ∷ []; number = elim [ LookingUp ↦ 1 | Spending ↦ 2 ]; told = λ callable. elim [ LookingUp ↦ refl | Spending ↦ refl ]; few = refl }
