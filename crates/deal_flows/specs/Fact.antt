-- The fact, class 6: it makes a fact of this party by one transaction, shows it to another node of the network, and returns its id.
use Rattle.std.specs.Prelude.{ℕ, [], ◌∷◌, Option, Some, None, if◌then◌else◌, refl}
use Rattle.net_base.specs.declared.values.Hash32.{Hash32}
use Rattle.ledger_types.specs.declared.state.StateData.TheVariants as state
use Rattle.ledger_types.specs.declared.tx.Deed.TheVariants.{FactIssue}
use Rattle.ledger_types.specs.declared.tx.Tx.{Tx}
use Rattle.flow_machine.specs.declared.acts.Act.TheVariants as act
use Rattle.flow_forms.specs.declared.arguments.End.{End}
use Rattle.flow_forms.specs.declared.arguments.Then.{Then}
use Rattle.flow_forms.specs.declared.calls.Call.TheVariants as call
use Rattle.flow_forms.specs.declared.forms.Goes.{Goes}
use Rattle.flow_forms.specs.declared.forms.Goes.TheVariants.{On}
use Rattle.flow_forms.specs.Usual.{Place, Form, Numbers, Kept, kept_as, before, option_field, party_field, u64_field, is_peer}
use Rattle.flow_txs.specs.Concluding.{concluded}
use Rattle.flow_txs.specs.Kinds.{hash_field}
use Rattle.flow_txs.specs.Making.{alone, plain, made}
use Rattle.deal_flows.specs.declared.fact.Fact.{Fact}
use Rattle.deal_flows.specs.declared.fact.FactPlace.{FactPlace}
use Rattle.deal_flows.specs.declared.fact.FactPlace.TheVariants.{Telling}

-- ---- its transaction

-- The statement: without inputs, a fact of this party with the name and the value, and this party signs its issue.
abbrev pub statement : Fact → Place → Tx
statement f here = made [] (plain here (state.Fact here.me f.name f.value) ∷ []) FactIssue (alone here.me) here

-- ---- how it begins

-- the arguments, in the order of their words: the party that it is shown to, the name and the value
abbrev pub FactArgs : Type 0
FactArgs = Then ℕ (Then ℕ (Then ℕ End))

-- the fields that its arguments give
abbrev pub fields_of : FactArgs → Fact
fields_of a = record { to = record { 0 = a.first }; name = a.rest.first; value = a.rest.rest.first; id = None }

-- the fields that it begins with, where the party is that of another node
abbrev pub begins : FactArgs → Place → Option Fact
begins a here = if is_peer a.first here then Some (fields_of a) else None

-- ---- how it goes on

-- it has the statement made final and shown to the other party
abbrev pub tells : Fact → Place → Goes FactPlace Fact
tells f here = On Telling f (act.Sub (call.Finality (statement f here) (f.to ∷ [])))

-- its fields with the id of its transaction
abbrev pub with_id : Fact → Hash32 → Fact
with_id f x = record f { id = Some x }

-- What the machine is: it waits on finality alone, and returns the id. It costs finality with one peer, and what comes after it; its fields have no tag.
abbrev pub form : Form FactPlace Fact
form = record { starts = tells; moves = λ place f with here. concluded with_id f with; weight = λ place f. 1; called = λ f. 4873; tags = λ f. [] }

-- ---- its bytes

-- its fields: the other party, the name, the value, and the transaction's id once it is final; at most 50 bytes, so that a frame has at most 52
abbrev pub kept : Kept Fact
kept = kept_as (before party_field (before u64_field (before u64_field (option_field hash_field)))) (λ p. record { to = p.0; name = p.1.0; value = p.1.1.0; id = p.1.1.1 }) (λ f. (f.to, (f.name, (f.value, f.id)))) (λ _. refl) (λ _. refl) refl

-- its places: 1 finality, 2 Return
abbrev pub numbers : Numbers FactPlace
numbers = record { all = Telling ∷ []; number = λ p. 1; told = λ callable. elim [ Telling ↦ refl ]; few = refl }
