-- The echo flow: it answers an Init of class 2, and sends each number that comes back, one higher, until the other side ends.
use Rattle.std.specs.Prelude.{ℕ, ◌-◌, ◌+◌, ◌*◌, ◌^◌, nat_le, [], ◌∷◌, if◌then◌else◌, refl}
use Rattle.ledger_types.specs.declared.value.Value.TheVariants as value
use Rattle.flow_machine.specs.declared.acts.Act.TheVariants as act
use Rattle.flow_machine.specs.declared.acts.Resumed.TheVariants as resumed
use Rattle.flow_forms.specs.declared.forms.Goes.{Goes}
use Rattle.flow_forms.specs.declared.forms.Goes.TheVariants.{On, Ends, Stops}
use Rattle.flow_forms.specs.Usual.{Place, Resumed, Form, unnamed, Numbers, raised, Owes, IsForm, unnamed_owes, owes_if, fails_owes, AnswersWithin, Kept, kept_as, before, u32_field, u64_field, key_field, Key, arith, leb-true}
use Rattle.shipped_flows.specs.declared.echo.Echo.{Echo}
use Rattle.shipped_flows.specs.declared.echo.EchoPlace.{EchoPlace}
use Rattle.shipped_flows.specs.declared.echo.EchoPlace.TheVariants.{Receiving, Sending}

-- ---- how it goes on

-- it answers in its session
abbrev pub answers : Key → Echo
answers k = record { key = k; last = 0; turns = 0 }

-- it receives in its session
abbrev pub receives : Echo → Goes EchoPlace Echo
receives e = On Receiving e (act.Receive e.key)

-- of at most 1,000 turns, it sends the last number and one
abbrev pub heard : Echo → Goes EchoPlace Echo
heard e = if nat_le e.turns 1000 then On Sending e (act.Send e.key (value.Number (raised (2 ^ 64 - 1) e.last))) else Stops e 62

-- how it goes on by where it waits: it returns once the other side ended
abbrev pub moves : EchoPlace → Echo → Resumed → Place → Goes EchoPlace Echo
moves Receiving e (resumed.Got (value.Number x)) here = heard (record e { last = x; turns = raised (2 ^ 32 - 1) e.turns })
moves Receiving e resumed.Ended here = Ends e value.Unit
moves Sending e resumed.Sent here = receives e
moves place e other here = unnamed e other

-- each turn that is left costs three: a number is received and sent
abbrev pub weight : EchoPlace → Echo → ℕ
weight Receiving e = 3 * (1000 - e.turns) + 1
weight Sending e = 3 * (1000 - e.turns) + 2

-- what the machine is
abbrev pub form : Form EchoPlace Echo
form = record { starts = λ e here. receives e; moves = moves; weight = weight; called = λ e. 3 * (1000 - e.turns) + 2; tags = λ e. [] }

-- ---- its bytes

-- its fields: the session, the number that came last, and how many came
abbrev pub kept : Kept Echo
kept = kept_as (before key_field (before u64_field u32_field)) (λ p. record { key = p.0; last = p.1.0; turns = p.1.1 }) (λ e. (e.key, (e.last, e.turns))) (λ _. refl) (λ _. refl) refl

-- its places: 1 Receive, 2 Send, 3 Return
abbrev pub numbers : Numbers EchoPlace
numbers = record { all = Receiving ∷ Sending ∷ []; number = elim [ Receiving ↦ 1 | Sending ↦ 2 ]; told = λ callable. elim [ Receiving ↦ refl | Sending ↦ refl ]; few = refl }

-- ---- its laws

pub answers_within : AnswersWithin kept.within form 2 answers
answers_within k = (λ h. (h, (omega arith, omega arith)), (refl, omega arith))

heard_owes : (x : ℕ) (e : Echo) (here : Place) → let with : Resumed = resumed.Got (value.Number x) in Owes form kept.within (weight Receiving e) e with here (moves Receiving e with here)
heard_owes x e here =
    let t : Echo = record e { last = x; turns = raised (2 ^ 32 - 1) e.turns } in
    let with : Resumed = resumed.Got (value.Number x) in
    owes_if form kept.within (weight Receiving e) e with here (nat_le t.turns 1000) (On Sending t (act.Send t.key (value.Number (raised (2 ^ 64 - 1) t.last)))) (Stops t 62)
    (λ few. record { limits = λ h small place. ((h.0, (small, omega arith)), (h.0, omega arith)); tags = λ test old given. (refl, refl); falls = omega (arith, leb-true t.turns 1000 few); asks = refl })
    (λ _. fails_owes form kept.within (weight Receiving e) e t with here 62 (record { limits = λ h small place. (h.0, (small, omega arith)); passes = λ test old given. refl }) (omega arith) (omega arith))

moves_owe : (place : EchoPlace) (e : Echo) (with : Resumed) (here : Place) → Owes form kept.within (weight place e) e with here (moves place e with here)
moves_owe Receiving e (resumed.Got (value.Number x)) here = heard_owes x e here
moves_owe Receiving e resumed.Ended here = record { limits = λ h small place. (h, tt); tags = λ test old given. (refl, refl); falls = omega arith; asks = refl }
moves_owe Sending e resumed.Sent here = record { limits = λ h small place. (h, h.0); tags = λ test old given. (refl, refl); falls = omega arith; asks = refl }
moves_owe place e other here = unnamed_owes form kept.within (weight place e) e other here (omega arith)

pub is_form : IsForm kept.within form
is_form = record { starts = λ e here. record { limits = λ h fits place. (h, h.0); tags = λ test old given. (refl, refl); falls = omega arith; asks = refl }; moves = moves_owe }
