-- The laws of the receiver.
use Rattle.std.specs.Prelude.{refl}
use Rattle.ledger_types.specs.declared.value.Value.TheVariants as value
use Rattle.flow_machine.specs.declared.acts.Resumed.TheVariants as resumed
use Rattle.flow_forms.specs.Usual.{Place, Resumed, Owes, IsForm, unnamed_owes, AnswersWithin, arith}
use Rattle.resolve_flows.specs.declared.receiver.Receiver.{Receiver}
use Rattle.resolve_flows.specs.declared.receiver.ReceiverPlace.{ReceiverPlace}
use Rattle.resolve_flows.specs.declared.receiver.ReceiverPlace.TheVariants.{Receiving, Resolving}
use Rattle.resolve_flows.specs.Receiver.{fresh, received, resolved, moves, weight, form, kept}

received_owes : (r : Receiver) (with : Resumed) (here : Place) → Owes form kept.within 2565 r with here (received r with)
received_owes r (resumed.Got (value.Tx stx)) here = record { limits = λ h small place. (h, (h, small)); tags = λ test old given. (old, given); falls = omega arith; asks = refl }
received_owes r other here = unnamed_owes form kept.within 2565 r other here (omega arith)

resolved_owes : (r : Receiver) (with : Resumed) (here : Place) → Owes form kept.within 1 r with here (resolved r with)
resolved_owes r (resumed.Returned v) here = record { limits = λ h small place. (h, tt); tags = λ test old given. (old, refl); falls = omega arith; asks = refl }
resolved_owes r other here = unnamed_owes form kept.within 1 r other here (omega arith)

moves_owe : (p : ReceiverPlace) (r : Receiver) (with : Resumed) (here : Place) → Owes form kept.within (weight p r) r with here (moves p r with here)
moves_owe Receiving r with here = received_owes r with here
moves_owe Resolving r with here = resolved_owes r with here

-- the machine owes nothing more
pub is_form : IsForm kept.within form
is_form = record { starts = λ r here. record { limits = λ h small place. (h, h); tags = λ test old given. (old, refl); falls = omega arith; asks = refl }; moves = moves_owe }

-- it answers an Init of class 21 within the load of the class
pub answers_within : AnswersWithin kept.within form 21 fresh
answers_within k = ((λ h. h), (refl, omega arith))
