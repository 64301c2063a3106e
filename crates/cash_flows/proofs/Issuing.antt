-- The contract of cash accepts an issue.
use Rattle.std.specs.Prelude.{◌≡◌, ◌+◌, ◌==◌, ◌||◌, not, [], Bool, false, refl}
use Rattle.std.proofs.Common.{arith, ap}
use Rattle.std.proofs.lemmas.Bool.{eq-eqb, ne_eqb}
use Rattle.net_base.specs.declared.names.Token.{Token}
use Rattle.ledger_types.specs.declared.tx.Resolved.{Resolved}
use Rattle.cash_contract.specs.Clauses.{is_conserved, loses_value, has_worthless_output, has_void_deed, has_unbacked_issue, tokens_in, value_in, value_issued, value_exited, cash_says}
use Rattle.flow_txs.proofs.Signers.{alone_has}
use Rattle.flow_machine.specs.declared.acts.Place.{Place}
use Rattle.cash_flows.specs.declared.issue.Issue.{Issue}
use Rattle.cash_flows.specs.Issue.{issuance}
use Rattle.cash_flows.specs.IssueAccepted.{IssueIsAccepted}
use Rattle.cash_flows.proofs.Accepting.{never, none_refuses}

-- what is consumed and referred to
abbrev nothing : Resolved
nothing = record { inputs = []; references = [] }

-- of every token what is issued comes out
conserved : (i : Issue) (here : Place) (other : Token) → not (is_conserved (issuance i here) nothing other) ≡ false
conserved i here other =
    let tx = issuance i here in
    ap not (eq-eqb (value_in other [] + value_issued other tx) (value_in other tx.outputs + value_exited other tx) (omega arith))

pub issue_is_accepted : IssueIsAccepted
unfolding cash_says
issue_is_accepted i here me some =
    let tx = issuance i here in
    let worth : (i.amount == 0) ≡ false = ne_eqb i.amount 0 (λ e. omega (arith, some, e)) in
    none_refuses (has_worthless_output tx) (has_void_deed tx) (loses_value tx nothing) (has_unbacked_issue tx) false false (ap (λ (b : Bool). b || false) worth) (ap (λ (b : Bool). b || false) worth) (never (λ t. not (is_conserved tx nothing t)) (conserved i here) (tokens_in tx nothing))
    (ap (λ (b : Bool). not b || false) (alone_has here.me me)) refl refl
