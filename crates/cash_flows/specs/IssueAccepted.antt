-- What the contract of cash says of an issue.
use Rattle.std.specs.Prelude.{◌≡◌, ◌<◌, [], None}
use Rattle.cash_contract.specs.Clauses.{cash_says}
use Rattle.flow_machine.specs.declared.acts.Place.{Place}
use Rattle.cash_flows.specs.declared.issue.Issue.{Issue}
use Rattle.cash_flows.specs.Issue.{issuance}

-- No clause of the contract of cash refuses an issue of at least 1, which consumes and refers to nothing.
abbrev pub IssueIsAccepted : Type 0
IssueIsAccepted = (i : Issue) (here : Place) → here.me.0 < 16 → 0 < i.amount → cash_says (issuance i here) (record { inputs = []; references = [] }) ≡ None
