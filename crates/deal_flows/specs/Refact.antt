-- The changed fact, class 7: it gives a fact of this party that its words name another value by one transaction, and returns its id.
use Rattle.std.specs.Prelude.{ℕ, List, [], ◌∷◌, Option, Some, None, option_and_then, if◌then◌else◌, refl}
use Rattle.net_base.specs.declared.values.Hash32.{Hash32}
use Rattle.ledger_types.specs.declared.state.StateData.{StateData}
use Rattle.ledger_types.specs.declared.state.StateData.TheVariants as state
use Rattle.ledger_types.specs.declared.state.TxState.{TxState}
use Rattle.ledger_types.specs.declared.tx.Deed.TheVariants.{FactChange}
use Rattle.ledger_types.specs.declared.tx.Tx.{Tx}
use Rattle.ledger_types.specs.Names.{party_eq}
use Rattle.flow_machine.specs.declared.acts.Act.TheVariants as act
use Rattle.flow_machine.specs.declared.acts.Resumed.TheVariants as resumed
use Rattle.flow_forms.specs.declared.arguments.End.{End}
use Rattle.flow_forms.specs.declared.arguments.Then.{Then}
use Rattle.flow_forms.specs.declared.calls.Call.TheVariants as call
use Rattle.flow_forms.specs.declared.forms.Goes.{Goes}
use Rattle.flow_forms.specs.declared.forms.Goes.TheVariants.{On, Stops}
use Rattle.flow_forms.specs.Usual.{Place, Resumed, Party, Form, unnamed, Numbers, Kept, kept_as, before, option_field, u64_field}
use Rattle.flow_txs.specs.declared.words.TxId.{TxId}
use Rattle.flow_txs.specs.Concluding.{concluded}
use Rattle.flow_txs.specs.Finding.{free_output}
use Rattle.flow_txs.specs.Kinds.{hash_field, reference_field}
use Rattle.flow_txs.specs.Making.{alone, plain, made}
use Rattle.deal_flows.specs.declared.refact.Refact.{Refact}
use Rattle.deal_flows.specs.declared.refact.RefactPlace.{RefactPlace}
use Rattle.deal_flows.specs.declared.refact.RefactPlace.TheVariants.{LookingUp, Changing}

-- ---- its transaction

-- the name of a fact that the party issued
abbrev pub own_name : Party → StateData → Option ℕ
own_name me (state.Fact issuer name value) = if party_eq issuer me then Some name else None
own_name me other = None

-- that of the output at a place, where there is one, it has no encumbrance and is a fact that the party issued
abbrev pub name_at : Party → List TxState → ℕ → Option ℕ
name_at me outputs index = option_and_then (own_name me) (free_output outputs index)

-- The change of a fact: it is the input; the fact of the same name with the new value comes out, and this party signs the change.
abbrev pub change : Refact → ℕ → Place → Tx
change r name here = made (r.reference ∷ []) (plain here (state.Fact here.me name r.value) ∷ []) FactChange (alone here.me) here

-- ---- how it begins

-- the arguments, in the order of their words: the id, the place of the output, and the value
abbrev pub RefactArgs : Type 0
RefactArgs = Then TxId (Then ℕ (Then ℕ End))

-- the fields that it begins with
abbrev pub begins : RefactArgs → Place → Option Refact
begins a here = Some (record { reference = record { id = a.first.0; index = a.rest.first }; value = a.rest.rest.first; id = None })

-- ---- how it goes on

-- it looks for the transaction
abbrev pub looks_up : Refact → Goes RefactPlace Refact
looks_up r = On LookingUp r (act.Lookup r.reference.id)

-- it has the change of the fact of this name made final, and shows it to nobody; 55 where there is no such fact
abbrev pub changes : Refact → Option ℕ → Place → Goes RefactPlace Refact
changes r None here = Stops r 55
changes r (Some name) here = On Changing r (act.Sub (call.Finality (change r name here) []))

-- 1, Lookup: the fact that was found is changed, and no transaction is 55
abbrev pub looked_up : Refact → Resumed → Place → Goes RefactPlace Refact
looked_up r (resumed.Found stx) here = changes r (name_at here.me stx.tx.outputs r.reference.index) here
looked_up r resumed.Absent here = Stops r 55
looked_up r other here = unnamed r other

-- its fields with the id of its transaction
abbrev pub with_id : Refact → Hash32 → Refact
with_id r x = record r { id = Some x }

-- how it goes on by where it waits; the id of its transaction is returned
abbrev pub moves : RefactPlace → Refact → Resumed → Place → Goes RefactPlace Refact
moves LookingUp r with here = looked_up r with here
moves Changing r with here = concluded with_id r with

-- the weight of a frame: finality without a peer, and what comes after it
abbrev pub weight : RefactPlace → Refact → ℕ
weight LookingUp r = 2300
weight Changing r = 1

-- what the machine is; its fields have no tag
abbrev pub form : Form RefactPlace Refact
form = record { starts = λ r here. looks_up r; moves = moves; weight = weight; called = λ r. 2301; tags = λ r. [] }

-- ---- its bytes

-- its fields: the reference, the value, and the transaction's id once it is final; at most 77 bytes, so that a frame has at most 79
abbrev pub kept : Kept Refact
kept = kept_as (before reference_field (before u64_field (option_field hash_field))) (λ p. record { reference = p.0; value = p.1.0; id = p.1.1 }) (λ r. (r.reference, (r.value, r.id))) (λ _. refl) (λ _. refl) refl

-- its places: 1 Lookup, 2 finality, 3 Return
abbrev pub numbers : Numbers RefactPlace
numbers = record { all = LookingUp ∷ Changing ∷ []; number = elim [ LookingUp ↦ 1 | Changing ↦ 2 ]; told = λ callable. elim [ LookingUp ↦ refl | Changing ↦ refl ]; few = refl }
