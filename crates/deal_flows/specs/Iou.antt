-- The debt, class 9: it makes a debt of this party to another node of the network by one transaction, and returns its id.
use Rattle.std.specs.Prelude.{ℕ, ◌&&◌, nat_lt, [], ◌∷◌, Bool, Option, Some, None, if◌then◌else◌, refl}
use Rattle.net_base.specs.declared.values.Hash32.{Hash32}
use Rattle.ledger_types.specs.declared.state.StateData.TheVariants as state
use Rattle.ledger_types.specs.declared.tx.Deed.TheVariants.{IouMake}
use Rattle.ledger_types.specs.declared.tx.Tx.{Tx}
use Rattle.flow_machine.specs.declared.acts.Act.TheVariants as act
use Rattle.flow_forms.specs.declared.arguments.End.{End}
use Rattle.flow_forms.specs.declared.arguments.Then.{Then}
use Rattle.flow_forms.specs.declared.calls.Call.TheVariants as call
use Rattle.flow_forms.specs.declared.forms.Goes.{Goes}
use Rattle.flow_forms.specs.declared.forms.Goes.TheVariants.{On}
use Rattle.flow_forms.specs.Usual.{Place, Form, Numbers, Kept, kept_as, before, option_field, party_field, u64_field, is_peer}
use Rattle.flow_txs.specs.declared.words.Code.{Code}
use Rattle.flow_txs.specs.Concluding.{concluded}
use Rattle.flow_txs.specs.Kinds.{token_field, hash_field}
use Rattle.flow_txs.specs.Making.{both, plain, made}
use Rattle.deal_flows.specs.declared.iou.Iou.{Iou}
use Rattle.deal_flows.specs.declared.iou.IouPlace.{IouPlace}
use Rattle.deal_flows.specs.declared.iou.IouPlace.TheVariants.{Borrowing}

-- ---- its transaction

-- The debt: without inputs, what this party owes the lender, and both sign its making.
abbrev pub debt : Iou → Place → Tx
debt i here = made [] (plain here (state.Iou i.lender here.me i.token i.amount) ∷ []) IouMake (both i.lender here.me) here

-- ---- how it begins

-- the arguments, in the order of their words: the lender, the code, the issuer and the amount
abbrev pub IouArgs : Type 0
IouArgs = Then ℕ (Then Code (Then ℕ (Then ℕ End)))

-- the lender is another node, the issuer is a party, and the amount is not 0
abbrev pub is_in_range : IouArgs → Place → Bool
is_in_range a here = is_peer a.first here && (nat_lt a.rest.rest.first 16 && nat_lt 0 a.rest.rest.rest.first)

-- the fields that its arguments give
abbrev pub fields_of : IouArgs → Iou
fields_of a = record { lender = record { 0 = a.first }; token = record { issuer = record { 0 = a.rest.rest.first }; code = a.rest.first.0 }; amount = a.rest.rest.rest.first; id = None }

-- the fields that it begins with, where its arguments are in range
abbrev pub begins : IouArgs → Place → Option Iou
begins a here = if is_in_range a here then Some (fields_of a) else None

-- ---- how it goes on

-- it has the debt made final and shown to the lender
abbrev pub borrows : Iou → Place → Goes IouPlace Iou
borrows i here = On Borrowing i (act.Sub (call.Finality (debt i here) (i.lender ∷ [])))

-- its fields with the id of the debt
abbrev pub with_id : Iou → Hash32 → Iou
with_id i x = record i { id = Some x }

-- What the machine is: it waits on finality alone, and returns the id. It costs finality with one peer, and what comes after it; its fields have no tag.
abbrev pub form : Form IouPlace Iou
form = record { starts = borrows; moves = λ place i with here. concluded with_id i with; weight = λ place i. 1; called = λ i. 4873; tags = λ i. [] }

-- ---- its bytes

-- its fields: the lender, the token, the amount, and the transaction's id once it is final; at most 46 bytes, so that a frame has at most 48
abbrev pub kept : Kept Iou
kept = kept_as (before party_field (before token_field (before u64_field (option_field hash_field)))) (λ p. record { lender = p.0; token = p.1.0; amount = p.1.1.0; id = p.1.1.1 }) (λ i. (i.lender, (i.token, (i.amount, i.id)))) (λ _. refl) (λ _. refl) refl

-- its places: 1 finality, 2 Return
abbrev pub numbers : Numbers IouPlace
numbers = record { all = Borrowing ∷ []; number = λ p. 1; told = λ callable. elim [ Borrowing ↦ refl ]; few = refl }
