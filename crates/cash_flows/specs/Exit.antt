-- The exit, class 5: it reserves coins of this party's own token, takes the amount out of circulation by one transaction, and returns its id.
use Rattle.std.specs.Prelude.{ℕ, nat_lt, List, [], ◌∷◌, map, Option, Some, None, if◌then◌else◌, refl}
use Rattle.net_base.specs.declared.values.Hash32.{Hash32}
use Rattle.ledger_types.specs.declared.held.Held.{Held}
use Rattle.ledger_types.specs.declared.tx.Deed.TheVariants.{CashExit}
use Rattle.ledger_types.specs.declared.tx.Tx.{Tx}
use Rattle.flow_machine.specs.declared.acts.Act.TheVariants as act
use Rattle.flow_machine.specs.declared.acts.Resumed.TheVariants as resumed
use Rattle.flow_forms.specs.declared.calls.Call.TheVariants as call
use Rattle.flow_forms.specs.declared.forms.Goes.{Goes}
use Rattle.flow_forms.specs.declared.forms.Goes.TheVariants.{On, Stops}
use Rattle.flow_forms.specs.Usual.{Place, Resumed, Form, unnamed, Numbers, Kept, kept_as, before, option_field, u64_field}
use Rattle.cash_flows.specs.declared.exit.Exit.{Exit}
use Rattle.cash_flows.specs.declared.exit.ExitPlace.{ExitPlace}
use Rattle.cash_flows.specs.declared.exit.ExitPlace.TheVariants.{Reserving, Exiting}
use Rattle.flow_txs.specs.Concluding.{concluded}
use Rattle.cash_flows.specs.AmountWords.{AmountArgs}
use Rattle.flow_txs.specs.Kinds.{code_field, hash_field}
use Rattle.flow_txs.specs.Making.{alone, made}
use Rattle.cash_flows.specs.Making.{own, worth, rest_of}

-- ---- its transaction

-- The exit by coins: they are the inputs, in their order; the rest alone comes out, for this party, who signs the exit of the amount.
abbrev pub redemption : Exit → List Held → Place → Tx
redemption e coins here = made (map (λ h. h.reference) coins) (rest_of here (own here e.code) e.amount (worth coins)) (CashExit (own here e.code) e.amount) (alone here.me) here

-- ---- how it begins

-- the fields that it begins with, where the amount is not 0
abbrev pub begins : AmountArgs → Place → Option Exit
begins a here = if nat_lt 0 a.rest.first then Some (record { code = a.first; amount = a.rest.first; id = None }) else None

-- ---- how it goes on

-- it reserves coins of its own token for the amount
abbrev pub reserves : Exit → Place → Goes ExitPlace Exit
reserves e here = On Reserving e (act.Reserve (own here e.code) e.amount)

-- it has the exit by these coins made final, and shows it to nobody
abbrev pub exits : Exit → List Held → Place → Goes ExitPlace Exit
exits e coins here = On Exiting e (act.Sub (call.Finality (redemption e coins here) []))

-- the amount exits by the coins, and too few coins are 47
abbrev pub reserved : Exit → Resumed → Place → Goes ExitPlace Exit
reserved e (resumed.Coins coins) here = exits e coins here
reserved e (resumed.Short sum) here = Stops e 47
reserved e other here = unnamed e other

-- its fields with the id of the exit
abbrev pub with_id : Exit → Hash32 → Exit
with_id e x = record e { id = Some x }

-- how it goes on by where it waits; the id of the exit is returned
abbrev pub moves : ExitPlace → Exit → Resumed → Place → Goes ExitPlace Exit
moves Reserving e with here = reserved e with here
moves Exiting e with here = concluded with_id e with

-- the weight of a frame: finality without a peer, and what comes after it
abbrev pub weight : ExitPlace → Exit → ℕ
weight Reserving e = 2300
weight Exiting e = 1

-- what the machine is; its fields have no tag
abbrev pub form : Form ExitPlace Exit
form = record { starts = reserves; moves = moves; weight = weight; called = λ e. 2301; tags = λ e. [] }

-- ---- its bytes

-- its fields: the code, the amount, and the transaction's id once it is final; at most 44 bytes, so that a frame has at most 46
abbrev pub kept : Kept Exit
kept = kept_as (before code_field (before u64_field (option_field hash_field))) (λ p. record { code = p.0; amount = p.1.0; id = p.1.1 }) (λ e. (e.code, (e.amount, e.id))) (λ _. refl) (λ _. refl) refl

-- its places: 1 Reserve, 2 finality, 3 Return
abbrev pub numbers : Numbers ExitPlace
numbers = record { all = Reserving ∷ Exiting ∷ []; number = elim [ Reserving ↦ 1 | Exiting ↦ 2 ]; told = λ callable. elim [ Reserving ↦ refl | Exiting ↦ refl ]; few = refl }
