-- What the contract of IOUs says of a debt.
use Rattle.std.specs.Prelude.{◌≡◌, ◌<◌, [], true, None}
use Rattle.small_contracts.specs.Ious.{ious_say}
use Rattle.flow_machine.specs.declared.acts.Place.{Place}
use Rattle.flow_machine.specs.Limits.{IsPlace}
use Rattle.flow_forms.specs.Shared.{is_peer}
use Rattle.deal_flows.specs.declared.iou.Iou.{Iou}
use Rattle.deal_flows.specs.Iou.{debt}

-- No clause of the contract of IOUs refuses a debt of at least 1 to another node of the network, which consumes and refers to nothing.
abbrev pub IouIsAccepted : Type 0
IouIsAccepted = (i : Iou) (here : Place) → IsPlace here → is_peer i.lender.0 here ≡ true → 0 < i.amount → ious_say (debt i here) (record { inputs = []; references = [] }) ≡ None
