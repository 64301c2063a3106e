-- What the contract of facts says of a fact.
use Rattle.std.specs.Prelude.{◌≡◌, ◌<◌, [], None}
use Rattle.small_contracts.specs.Facts.{facts_say}
use Rattle.flow_machine.specs.declared.acts.Place.{Place}
use Rattle.deal_flows.specs.declared.fact.Fact.{Fact}
use Rattle.deal_flows.specs.Fact.{statement}

-- No clause of the contract of facts refuses the statement, which consumes and refers to nothing.
abbrev pub FactIsAccepted : Type 0
FactIsAccepted = (f : Fact) (here : Place) → here.me.0 < 16 → facts_say (statement f here) (record { inputs = []; references = [] }) ≡ None
