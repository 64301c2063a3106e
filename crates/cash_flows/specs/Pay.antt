-- The payment, class 4: it reserves coins, pays them to another node of the network by one transaction, and returns its id.
use Rattle.std.specs.Prelude.{ℕ, ◌<◌, ◌^◌, ◌&&◌, nat_lt, List, [], ◌∷◌, ◌++◌, Bool, Option, Some, None, IfSome, Result, if◌then◌else◌}
use Rattle.std.specs.Int.{w64}
use Rattle.net_base.specs.declared.names.StateRef.{StateRef}
use Rattle.net_base.specs.declared.names.Token.{Token}
use Rattle.net_base.specs.declared.values.Hash32.{Hash32}
use Rattle.net_base.specs.declared.values.Party.{Party}
use Rattle.net_base.specs.Reading.{number}
use Rattle.net_base.specs.Forms.{number_at, option_of, option_at}
use Rattle.net_base.specs.Combining.{mapped_at, pair_at}
use Rattle.net_base.specs.Names.{IsStateRef, state_ref, state_ref_at, IsToken, token, token_at}
use Rattle.net_base.specs.Values.{IsHash, hash, hash_at, IsParty, party, party_at}
use Rattle.ledger_types.specs.declared.held.Held.{Held}
use Rattle.ledger_types.specs.declared.tx.Window.{Window}
use Rattle.ledger_types.specs.Txs.{IsWindow, window, window_at}
use Rattle.flow_machine.specs.declared.acts.Act.TheVariants as act
use Rattle.flow_machine.specs.declared.acts.Resumed.TheVariants as resumed
use Rattle.flow_forms.specs.declared.arguments.Then.{Then}
use Rattle.flow_forms.specs.declared.calls.Call.TheVariants as call
use Rattle.flow_forms.specs.declared.forms.Goes.{Goes}
use Rattle.flow_forms.specs.declared.forms.Goes.TheVariants.{On, Stops}
use Rattle.flow_forms.specs.Usual.{Place, Resumed, Form, unnamed, is_peer}
use Rattle.flow_txs.specs.declared.words.Code.{Code}
use Rattle.flow_txs.specs.Concluding.{concluded}
use Rattle.cash_flows.specs.declared.options.PayOptions.{PayOptions}
use Rattle.cash_flows.specs.declared.pay.Pay.{Pay}
use Rattle.cash_flows.specs.declared.pay.PayPlace.{PayPlace}
use Rattle.cash_flows.specs.declared.pay.PayPlace.TheVariants.{Reserving, Paying}
use Rattle.cash_flows.specs.Payment.{payment}

-- ---- how it begins

-- The arguments, in the order of their words: the payee, the code, the issuer, the amount, and the options.
abbrev pub PayArgs : Type 0
PayArgs = Then ℕ (Then Code (Then ℕ (Then ℕ PayOptions)))

-- the payee is another node, the issuer is a party, and the amount is not 0
abbrev pub is_in_range : PayArgs → Place → Bool
is_in_range a here = is_peer a.first here && (nat_lt a.rest.rest.first 16 && nat_lt 0 a.rest.rest.rest.first)

-- the fields that its arguments give
abbrev pub fields_of : PayArgs → Pay
fields_of a = record {
  to = record { 0 = a.first };
  token = record { issuer = record { 0 = a.rest.rest.first }; code = a.rest.first.0 };
  amount = a.rest.rest.rest.first;
  window = a.rest.rest.rest.rest.window;
  reference = a.rest.rest.rest.rest.reference;
  id = None;
}

-- the fields that it begins with, where its arguments are in range
abbrev pub begins : PayArgs → Place → Option Pay
begins a here = if is_in_range a here then Some (fields_of a) else None

-- ---- how it goes on

-- it reserves coins of the token for the amount
abbrev pub reserves : Pay → Goes PayPlace Pay
reserves p = On Reserving p (act.Reserve p.token p.amount)

-- it has the payment of these coins made final and shown to the payee
abbrev pub pays : Pay → List Held → Place → Goes PayPlace Pay
pays p coins here = On Paying p (act.Sub (call.Finality (payment p coins here) (p.to ∷ [])))

-- the coins are paid, and too few coins are 47
abbrev pub reserved : Pay → Resumed → Place → Goes PayPlace Pay
reserved p (resumed.Coins coins) here = pays p coins here
reserved p (resumed.Short sum) here = Stops p 47
reserved p other here = unnamed p other

-- its fields with the id of the payment
abbrev pub with_id : Pay → Hash32 → Pay
with_id p x = record p { id = Some x }

-- how it goes on by where it waits; the id of the payment is returned
abbrev pub moves : PayPlace → Pay → Resumed → Place → Goes PayPlace Pay
moves Reserving p with here = reserved p with here
moves Paying p with here = concluded with_id p with

-- the weight of a frame: finality with one peer, and what comes after it
abbrev pub weight : PayPlace → Pay → ℕ
weight Reserving p = 4873
weight Paying p = 1

-- what the machine is; its fields have no tag
abbrev pub form : Form PayPlace Pay
form = record { starts = λ p here. reserves p; moves = moves; weight = weight; called = λ p. 4874; tags = λ p. [] }

-- ---- its bytes

-- the limits of its fields
abbrev pub IsPay : Pay → Type 0
IsPay p = IsParty p.to × (IsToken p.token × ((p.amount < 2 ^ 64) × (IfSome p.window IsWindow × (IfSome p.reference IsStateRef × IfSome p.id IsHash))))

-- the bytes of its fields
abbrev pub pay : Pay → List ℕ
pay p = party p.to ++ (token p.token ++ (number w64 p.amount ++ (option_of window p.window ++ (option_of state_ref p.reference ++ option_of hash p.id))))

-- fields of their parts
abbrev pub pay_of : Party × (Token × (ℕ × (Option Window × (Option StateRef × Option Hash32)))) → Pay
pay_of p = record { to = p.0; token = p.1.0; amount = p.1.1.0; window = p.1.1.1.0; reference = p.1.1.1.1.0; id = p.1.1.1.1.1 }

-- reading its fields
unfoldable pub pay_at : List ℕ → Result (Pay × List ℕ) ℕ
pay_at = mapped_at pay_of (pair_at party_at (pair_at token_at (pair_at (number_at w64) (pair_at (option_at window_at) (pair_at (option_at state_ref_at) (option_at hash_at))))))

-- the numbers of its places
abbrev pub place_number : PayPlace → ℕ
place_number Reserving = 1
place_number Paying = 2

-- its places; the number behind theirs is that of Return
abbrev pub places : List PayPlace
places = Reserving ∷ Paying ∷ []
