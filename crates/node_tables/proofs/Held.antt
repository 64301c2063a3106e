-- What arrived in a node's sessions is within its limits, also after one record more.
use Rattle.std.proofs.Common.{ℕ, zero, suc, List, [], ◌∷◌, ◌++◌, option_to_list, slice_get, Option, Some, None}
use Rattle.std.specs.List.{AllByRecursion}
use Rattle.std.specs.Option.{IfSome, option_or, option_and_then}
use Rattle.net_base.specs.declared.names.Key.{Key}
use Rattle.net_base.specs.declared.values.Party.{Party}
use Rattle.net_base.specs.declared.causes.Cause.{Cause}
use Rattle.net_base.specs.declared.causes.Event.{Event}
use Rattle.net_base.specs.declared.causes.Event.TheVariants as event
use Rattle.net_base.proofs.Lists.{all_push}
use Rattle.session_wire.specs.Bodies.{IsBody}
use Rattle.session_wire.specs.declared.body.Body.{Body}
use Rattle.session_wire.specs.declared.body.Body.TheVariants as body_of
use Rattle.session_wire.specs.declared.change.SentItem.{SentItem}
use Rattle.session_wire.specs.Sessions.{Sent, Session, changed_at, new_session, with_came, with_sent, with_taken, ending_of, ending_at, opened_on, sent_on, taken_on}
use Rattle.net_model.specs.State.{Effect, flow_of, came_on, sessions_on}
use Rattle.session_wire.specs.Rules.{IsHeld}
use Rattle.node_tables.proofs.Small.{all_changed}

-- ---- items

ending_within : (b : Body) → IsBody b → IfSome (ending_of b) IsBody
ending_within (body_of.Reject code) h = h
ending_within (body_of.Error code) h = h
ending_within body_of.End h = h
ending_within (body_of.Init class first) h = tt
ending_within body_of.Confirm h = tt
ending_within (body_of.Data value) h = tt

there_within : (came : List Body) (n : ℕ) → AllByRecursion IsBody came → IfSome (slice_get came n) IsBody
there_within [] n h = tt
there_within (x ∷ xs) zero h = h.0
there_within (x ∷ xs) (suc n) h = there_within xs n h.1

ended_within : (o : Option Body) → IfSome o IsBody → IfSome (option_and_then ending_of o) IsBody
ended_within None h = tt
ended_within (Some b) h = ending_within b h

last_within : (came : List Body) (n : ℕ) → AllByRecursion IsBody came → IfSome (ending_at came n) IsBody
last_within came zero h = tt
last_within came (suc n) h = ended_within (slice_get came n) (there_within came n h)

either_within : (a b : Option Body) → IfSome a IsBody → IfSome b IsBody → IfSome (option_or a b) IsBody
either_within None b x y = y
either_within (Some a) b x y = x

all_within : (xs ys : List Body) → AllByRecursion IsBody xs → AllByRecursion IsBody ys → AllByRecursion IsBody (xs ++ ys)
all_within [] ys a b = b
all_within (x ∷ xs) ys a b = (a.0, all_within xs ys a.1 b)

listed_within : (o : Option Body) → IfSome o IsBody → AllByRecursion IsBody (option_to_list o)
listed_within None h = tt
listed_within (Some b) h = (h, tt)

-- ---- sessions

came_held : (event : Event) (bodies : List Body) (owner : Option ℕ) (ss : List Session) → AllByRecursion IsBody bodies → AllByRecursion IsHeld ss → AllByRecursion IsHeld (came_on event bodies owner ss)
came_held (event.Start f class args) bodies owner ss within h = h
came_held (event.Move f) bodies owner ss within h = h
came_held (event.Lapse f) bodies owner ss within h = h
came_held (event.Answer key) bodies owner ss within h = all_push IsHeld ss (new_session key key.initiator owner bodies) h (record { came = within; ending = tt })
came_held (event.Arrive key direction number) bodies owner ss within h =
    all_changed IsHeld IsHeld key (with_came bodies) ss (λ s k. record { came = all_within s.came bodies k.came within; ending = k.ending }) (λ s k. k) h

opened_held : (opened : Option (Key × Party)) (owner : Option ℕ) (ss : List Session) → AllByRecursion IsHeld ss → AllByRecursion IsHeld (opened_on opened owner ss)
opened_held None owner ss h = h
opened_held (Some opened) owner ss h = all_push IsHeld ss (new_session opened.0 opened.1 owner []) h (record { came = tt; ending = tt })

sent_held : (stamp : ℕ) (items : List SentItem) (ss : List Session) → AllByRecursion IsHeld ss → AllByRecursion IsHeld (sent_on stamp items ss)
sent_held stamp [] ss h = h
sent_held stamp (item ∷ items) ss h =
    let y : Sent = record { body = item.body; stamp = stamp } in
    sent_held stamp items (changed_at item.key (with_sent y) ss) (all_changed IsHeld IsHeld item.key (with_sent y) ss (λ s k. record { came = k.came; ending = k.ending }) (λ s k. k) h)

taken_held : (taken : Option (Key × ℕ)) (ss : List Session) → AllByRecursion IsHeld ss → AllByRecursion IsHeld (taken_on taken ss)
taken_held None ss h = h
taken_held (Some taken) ss h =
    all_changed IsHeld IsHeld taken.0 (with_taken taken.1) ss (λ s k. record { came = k.came; ending = either_within s.ending (ending_at s.came taken.1) k.ending (last_within s.came taken.1 k.came) }) (λ s k. k) h

pub record_held : {F : Type 0} (cause : Cause) (e : Effect F) (ss : List Session) → IfSome e.change.came IsBody → AllByRecursion IsHeld ss → AllByRecursion IsHeld (sessions_on cause e ss)
record_held cause e ss within h =
    taken_held e.change.taken _ (sent_held cause.stamp e.change.sent _ (opened_held e.change.opened (flow_of e.flow) _ (came_held cause.event (option_to_list e.change.came) (flow_of e.flow) ss (listed_within e.change.came within) h)))
