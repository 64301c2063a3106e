-- The issue, class 3: it makes cash of this party's own token by one transaction, and returns its id.
use Rattle.std.specs.Prelude.{nat_lt, [], ◌∷◌, Option, Some, None, if◌then◌else◌, refl}
use Rattle.net_base.specs.declared.values.Hash32.{Hash32}
use Rattle.ledger_types.specs.declared.tx.Deed.TheVariants.{CashIssue}
use Rattle.ledger_types.specs.declared.tx.Tx.{Tx}
use Rattle.flow_machine.specs.declared.acts.Act.TheVariants as act
use Rattle.flow_forms.specs.declared.calls.Call.TheVariants as call
use Rattle.flow_forms.specs.declared.forms.Goes.{Goes}
use Rattle.flow_forms.specs.declared.forms.Goes.TheVariants.{On}
use Rattle.flow_forms.specs.Usual.{Place, Form, Numbers, Kept, kept_as, before, option_field, u64_field}
use Rattle.cash_flows.specs.declared.issue.Issue.{Issue}
use Rattle.cash_flows.specs.declared.issue.IssuePlace.{IssuePlace}
use Rattle.cash_flows.specs.declared.issue.IssuePlace.TheVariants.{Issuing}
use Rattle.flow_txs.specs.Concluding.{concluded}
use Rattle.cash_flows.specs.AmountWords.{AmountArgs}
use Rattle.flow_txs.specs.Kinds.{code_field, hash_field}
use Rattle.flow_txs.specs.Making.{alone, made}
use Rattle.cash_flows.specs.Making.{own, cash}

-- ---- its transaction

-- The issue: without inputs, cash of the amount of this party's own token, owned by this party, who signs the issue of that amount.
abbrev pub issuance : Issue → Place → Tx
issuance i here = made [] (cash here (own here i.code) i.amount here.me ∷ []) (CashIssue (own here i.code) i.amount) (alone here.me) here

-- ---- how it begins

-- the fields that it begins with, where the amount is not 0
abbrev pub begins : AmountArgs → Place → Option Issue
begins a here = if nat_lt 0 a.rest.first then Some (record { code = a.first; amount = a.rest.first; id = None }) else None

-- ---- how it goes on

-- it has the issue made final, and shows it to nobody
abbrev pub issues : Issue → Place → Goes IssuePlace Issue
issues i here = On Issuing i (act.Sub (call.Finality (issuance i here) []))

-- its fields with the id of the issue
abbrev pub with_id : Issue → Hash32 → Issue
with_id i x = record i { id = Some x }

-- What the machine is. It costs finality without a peer, and what comes after it; its fields have no tag.
abbrev pub form : Form IssuePlace Issue
form = record { starts = issues; moves = λ place i with here. concluded with_id i with; weight = λ place i. 1; called = λ i. 2300; tags = λ i. [] }

-- ---- its bytes

-- its fields: the code, the amount, and the transaction's id once it is final; at most 44 bytes, so that a frame has at most 46
abbrev pub kept : Kept Issue
kept = kept_as (before code_field (before u64_field (option_field hash_field))) (λ p. record { code = p.0; amount = p.1.0; id = p.1.1 }) (λ i. (i.code, (i.amount, i.id))) (λ _. refl) (λ _. refl) refl

-- its places: 1 finality, 2 Return
abbrev pub numbers : Numbers IssuePlace
numbers = record { all = Issuing ∷ []; number = λ p. 1; told = λ callable. elim [ Issuing ↦ refl ]; few = refl }
