-- The receiver, of class 21: the transaction that comes in the session is resolved there, so that it is recorded behind all of its ancestors.
use Rattle.std.specs.Prelude.{ℕ, [], ◌∷◌, refl}
use Rattle.ledger_types.specs.declared.value.Value.TheVariants as value
use Rattle.flow_machine.specs.declared.acts.Act.TheVariants as act
use Rattle.flow_machine.specs.declared.acts.Resumed.TheVariants as resumed
use Rattle.flow_forms.specs.declared.calls.Call.TheVariants as call
use Rattle.flow_forms.specs.declared.forms.Goes.{Goes}
use Rattle.flow_forms.specs.declared.forms.Goes.TheVariants.{On, Ends}
use Rattle.flow_forms.specs.Usual.{Place, Resumed, Form, unnamed, Numbers, Kept, kept_as, key_field, Key}
use Rattle.resolve_flows.specs.declared.receiver.Receiver.{Receiver}
use Rattle.resolve_flows.specs.declared.receiver.ReceiverPlace.{ReceiverPlace}
use Rattle.resolve_flows.specs.declared.receiver.ReceiverPlace.TheVariants.{Receiving, Resolving}

-- ---- how it goes on

-- its fields as it answers an Init in a session
abbrev pub fresh : Key → Receiver
fresh k = record { key = k }

-- to place 1: the transaction is awaited
abbrev pub begins : Receiver → Goes ReceiverPlace Receiver
begins r = On Receiving r (act.Receive r.key)

-- 1, Receive: the transaction that came is resolved in the session
abbrev pub received : Receiver → Resumed → Goes ReceiverPlace Receiver
received r (resumed.Got (value.Tx stx)) = On Resolving r (act.Sub (call.Resolve r.key stx))
received r other = unnamed r other

-- 2, Sub resolve: once that returned, whatever it is, Unit is returned
abbrev pub resolved : Receiver → Resumed → Goes ReceiverPlace Receiver
resolved r (resumed.Returned v) = Ends r value.Unit
resolved r other = unnamed r other

-- how it goes on by where it waits
abbrev pub moves : ReceiverPlace → Receiver → Resumed → Place → Goes ReceiverPlace Receiver
moves Receiving r with here = received r with
moves Resolving r with here = resolved r with

-- the weight of a frame: the call costs 2,564, of which resolve may cause 2,563
abbrev pub weight : ReceiverPlace → Receiver → ℕ
weight Receiving r = 2565
weight Resolving r = 1

-- what the machine is; no field has a tag
abbrev pub form : Form ReceiverPlace Receiver
form = record { starts = λ r here. begins r; moves = moves; weight = weight; called = λ r. 2566; tags = λ r. [] }

-- ---- its bytes

-- its field: the session
abbrev pub kept : Kept Receiver
kept = kept_as key_field fresh (λ r. r.key) (λ _. refl) (λ _. refl) refl

-- its places: 1 Receive, 2 Sub resolve, 3 Return
abbrev pub numbers : Numbers ReceiverPlace
numbers = record { all = Receiving ∷ Resolving ∷ []; number = elim [ Receiving ↦ 1 | Resolving ↦ 2 ]; told = λ callable. elim [ Receiving ↦ refl | Resolving ↦ refl ]; few = refl }
